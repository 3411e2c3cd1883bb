use Rattle.std.proofs.Common.{◌≡◌, ◌++◌, map, take}
use Rattle.std.specs.List.{flat_map}
use Rattle.query_names.specs.Findings.{facing, places}
use Rattle.query_names.specs.Writes.{row_occurrences}
use Rattle.query_names.proofs.write_names.read_rows.Given as goal

-- the rows so far
abbrev pub invariant-loop-row : goal.invariant-loop-row
invariant-loop-row l = record {
  unknown : l.findings.unknown ≡ l.fn.findings.unknown;
  parameters : places l.findings.parameters.items ≡ places l.fn.findings.parameters.items ++ flat_map (row_occurrences (map facing l.facings)) (take l.row-index l.rows);
}
