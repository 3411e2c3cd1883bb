use Rattle.std.proofs.Common.{◌≡◌, ◌++◌, take}
use Rattle.row_writes.proofs.given.put_cells.Given as goal

abbrev pub invariant-loop-cell : goal.invariant-loop-cell
invariant-loop-cell l = l.out.items ≡ l.fn.out.items ++ take l.cell-index l.cells
