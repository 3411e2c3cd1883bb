use Rattle.std.proofs.Common.{◌≡◌, take}
use Rattle.plan_merges.specs.Merges.{taken_slots}
use Rattle.plan_tables.specs.Tables.{laid_cells}
use Rattle.plan_merges.proofs.merge.taken_cells.Given as goal

abbrev pub invariant-loop-column : goal.invariant-loop-column
invariant-loop-column l = l.out.items ≡ laid_cells (take l.column-index l.to) (taken_slots l.ranks l.columns l.cells)
