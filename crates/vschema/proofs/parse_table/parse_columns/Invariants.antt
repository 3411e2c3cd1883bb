use Rattle.std.proofs.Common.{◌-◌, ◌≤◌, length}
use Rattle.vschema.specs.Spelling.{ColumnsBefore}
use Rattle.vschema.proofs.parse_table.parse_columns.Given as goal

abbrev pub invariant-columns : goal.invariant-columns
invariant-columns l = record {
  order : l.from ≤ l.at;
  within : l.at ≤ length l.reading.tokens.now;
  before : ColumnsBefore l.reading.features.now l.reading.text.now l.reading.tokens.now l.from l.columns.items l.at;
}

abbrev pub decreases-columns : goal.decreases-columns
decreases-columns l = length l.reading.tokens.now - l.at
