use Rattle.std.proofs.Common.{take, drop}
use Rattle.std.specs.List.{flat_map, All}
use Rattle.vschema.specs.declared.catalog.OpeningRow.{OpeningRow}
use Rattle.vra_types.specs.Check.{row_gaps, AreNowhere}
use Rattle.vra_types.proofs.Left.{IsLeft}
use Rattle.vra_types.proofs.check_row.check_rows.Given as goal

-- the rows so far miss no value
abbrev pub invariant-loop-place : goal.invariant-loop-place
invariant-loop-place l = record {
  left : IsLeft l.model (flat_map (row_gaps l.tables) l.rows) (flat_map (row_gaps l.tables) (drop l.place l.rows));
  judged : All (λ (row : OpeningRow). AreNowhere l.model (row_gaps l.tables row)) (take l.place l.rows);
}
