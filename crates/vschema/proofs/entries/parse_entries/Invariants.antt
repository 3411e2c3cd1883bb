use Rattle.std.proofs.Common.{◌-◌, ◌≤◌, length}
use Rattle.vschema.specs.Spelling.{EntriesTo}
use Rattle.vschema.proofs.entries.parse_entries.Given as goal

abbrev pub invariant-entries : goal.invariant-entries
invariant-entries l = record {
  within : l.at ≤ length l.reading.tokens.now;
  before : EntriesTo l.reading.features.now l.reading.text.now l.reading.tokens.now l.from l.entries.tables.tables.items l.entries.rows.items l.at;
}

abbrev pub decreases-entries : goal.decreases-entries
decreases-entries l = length l.reading.tokens.now - l.at
