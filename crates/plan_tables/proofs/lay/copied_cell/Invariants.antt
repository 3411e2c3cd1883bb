use Rattle.std.proofs.Common.{◌≡◌, length}
use Rattle.plan_tables.specs.Tables.{heading, cell_under}
use Rattle.row_conditions.specs.Truths.{slots_of}
use Rattle.plan_tables.proofs.lay.copied_cell.Given as goal

abbrev pub decreases-loop-column : goal.decreases-loop-column
decreases-loop-column l = length l.columns

abbrev pub invariant-loop-column : goal.invariant-loop-column
invariant-loop-column l = cell_under (slots_of l.columns l.cells) (heading l.key) ≡ cell_under (slots_of l.fn.columns l.fn.cells) (heading l.key)
