use Rattle.std.proofs.Common.{ap, sym, ◌∙◌}
use Rattle.std.specs.Option.{option_copied}
use Rattle.row_places.proofs.PlaceLaws.{found_under, none_under}
use Rattle.row_places.specs.Places.{places_under}
use Rattle.row_places.proofs.places.Places.find.Goals as goal

pub returns-in-Some : goal.returns-in-Some
returns-in-Some c =
    c.as_slice.ensures.value
    ∙ found_under c.args.cells.now c.self.inside.by_cells c.in-Some.places.now (ap option_copied (sym c.in-Some.is) ∙ c.get.ensures.value)
    ∙ ap (places_under c.args.cells.now.items) c.self.view_is

pub returns-in-None : goal.returns-in-None
returns-in-None c =
    none_under c.args.cells.now c.self.inside.by_cells (ap option_copied (sym c.in-None.is) ∙ c.get.ensures.value)
    ∙ ap (places_under c.args.cells.now.items) c.self.view_is
