use Rattle.std.proofs.Common.{map, drop}
use Rattle.vschema.specs.Gaps.{columns_without}
use Rattle.vra_types.specs.Check.{RowGap}
use Rattle.vra_types.proofs.Left.{IsLeft}
use Rattle.vra_types.proofs.check_row.check_cells.Given as goal

abbrev pub invariant-loop-place : goal.invariant-loop-place
invariant-loop-place l =
    IsLeft l.model (map (RowGap l.table l.row) (columns_without l.columns l.row.cells))
    (map (RowGap l.table l.row) (columns_without (drop l.place l.columns) (drop l.place l.row.cells)))
