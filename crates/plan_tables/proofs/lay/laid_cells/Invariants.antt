use Rattle.std.proofs.Common.{◌≡◌, take}
use Rattle.plan_tables.specs.Tables.{laid_cells}
use Rattle.row_conditions.specs.Truths.{slots_of}
use Rattle.plan_tables.proofs.lay.laid_cells.Given as goal

abbrev pub invariant-loop-column : goal.invariant-loop-column
invariant-loop-column l = l.out.items ≡ laid_cells (take l.column-index l.to) (slots_of l.columns l.cells)
