use Rattle.std.proofs.Common.{◌≡◌, ◌++◌, length, map}
use Rattle.query_meaning.specs.WriteTyping.{assignment_of}
use Rattle.write_meaning.specs.RowWrites.{set_cells}
use Rattle.row_writes.proofs.given.set_cells.Given as goal

abbrev pub decreases-loop-column : goal.decreases-loop-column
decreases-loop-column l = length l.columns

-- what is set so far, and what is set of the cells that are left, is what is set of all
abbrev pub invariant-loop-column : goal.invariant-loop-column
invariant-loop-column l = l.out.items ++ set_cells l.columns (map assignment_of l.items) l.cells ≡ set_cells l.fn.columns (map assignment_of l.items) l.fn.cells
