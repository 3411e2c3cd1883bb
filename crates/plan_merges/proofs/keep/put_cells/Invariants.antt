use Rattle.std.proofs.Common.{◌≡◌, ◌++◌, length}
use Rattle.plan_merges.specs.Merges.{cells_of_item}
use Rattle.plan_merges.proofs.keep.put_cells.Given as goal

abbrev pub decreases-loop-column : goal.decreases-loop-column
decreases-loop-column l = length l.columns

abbrev pub invariant-loop-column : goal.invariant-loop-column
invariant-loop-column l = l.out.items ++ cells_of_item l.columns l.cells l.item ≡ l.fn.out.items ++ cells_of_item l.fn.columns l.fn.cells l.item
