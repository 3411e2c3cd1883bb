use Rattle.std.proofs.Common.{◌≡◌, ◌++◌, map, take}
use Rattle.query_names.specs.Findings.{cases, facing}
use Rattle.query_names.specs.Headings.{headings}
use Rattle.query_names.specs.Writes.{columns_named, unknown_bare}
use Rattle.query_names.proofs.write_names.read_names.Given as goal

-- the names so far
abbrev pub invariant-loop-name : goal.invariant-loop-name
invariant-loop-name l = record {
  facings : map facing l.facings.items ≡ columns_named (headings l.columns) (take l.name-index l.names);
  unknown : cases l.findings.unknown.items ≡ cases l.fn.findings.unknown.items ++ unknown_bare (headings l.columns) (take l.name-index l.names);
  parameters : l.findings.parameters ≡ l.fn.findings.parameters;
}
