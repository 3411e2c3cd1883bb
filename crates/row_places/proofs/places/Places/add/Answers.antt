use Rattle.std.proofs.Common.{ap, ◌∙◌}
use Rattle.row_places.proofs.PlaceLaws.{added_under}
use Rattle.row_places.specs.Places.{places_under}
use Rattle.row_places.proofs.places.Places.add.Goals as goal

pub returns : goal.returns
returns c = λ key.
    added_under c.args.cells key c.self.inside.by_cells c.insert.new.self c.push.new.self c.args.place c.take-places.result.items c.args.self.now
    c.in_ok-insert.ensures.updates c.in_ok-push.ensures.items c.take-places.ensures.taken
    (ap (places_under key.items) c.self.view_is ∙ c.take-places.ensures.left key)
