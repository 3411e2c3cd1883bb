use Rattle.std.proofs.Common.{[], if◌then◌else◌, ap, ◌∙◌}
use Rattle.row_places.proofs.PlaceLaws.{taken_under, under_updated}
use Rattle.row_places.specs.Places.{places_under}
use Rattle.vtable.specs.TableForm.{same_cells}
use Rattle.row_places.proofs.places.Places.take.Goals as goal

pub returns-clause-taken : goal.returns-clause-taken
returns-clause-taken c =
    taken_under c.args.cells.now c.self.inside.by_cells c.swap_remove-found.result c.found_or_none.result.items c.swap_remove-found.ensures.value c.found_or_none.ensures
    ∙ ap (places_under c.args.cells.now.items) c.self.view_is

pub returns-clause-left : goal.returns-clause-left
returns-clause-left c = λ key.
    under_updated c.args.cells.now key c.self.inside.by_cells c.swap_remove-found.new.self _ c.swap_remove-found.ensures.updates
    ∙ ap (λ es. if same_cells c.args.cells.now.items key.items then [] else places_under key.items es) c.self.view_is
