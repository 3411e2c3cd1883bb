use Rattle.std.proofs.Common.{◌≡◌, ◌++◌, map, drop}
use Rattle.query_names.specs.Findings.{facing, places}
use Rattle.query_names.specs.Writes.{row_occurrences}
use Rattle.query_names.proofs.write_names.read_row.Given as goal

-- the values so far, and then those that are left, are all of the row
abbrev pub invariant-loop-place : goal.invariant-loop-place
invariant-loop-place l = record {
  unknown : l.findings.unknown ≡ l.fn.findings.unknown;
  parameters : places l.findings.parameters.items ++ row_occurrences (drop l.place (map facing l.facings)) (drop l.place l.row) ≡ places l.fn.findings.parameters.items ++ row_occurrences (map facing l.facings) l.row;
}
