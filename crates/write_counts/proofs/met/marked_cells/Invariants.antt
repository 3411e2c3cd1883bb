use Rattle.std.proofs.Common.{◌≡◌, ◌++◌, length}
use Rattle.write_counts.specs.Lists.{marked}
use Rattle.write_counts.proofs.met.marked_cells.Given as goal

abbrev pub decreases-loop-mark : goal.decreases-loop-mark
decreases-loop-mark l = length l.marks

-- what is copied, and what is marked of the cells that are left, is what is marked of all
abbrev pub invariant-loop-mark : goal.invariant-loop-mark
invariant-loop-mark l = l.out.items ++ marked l.marks l.cells ≡ marked l.fn.marks l.fn.cells
