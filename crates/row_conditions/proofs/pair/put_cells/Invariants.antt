use Rattle.std.proofs.Common.{◌≡◌, ◌++◌, take}
use Rattle.row_conditions.proofs.pair.put_cells.Given as goal

abbrev pub invariant-loop-cell : goal.invariant-loop-cell
invariant-loop-cell l = l.out.items ≡ l.fn.out.items ++ take l.cell-index l.cells
