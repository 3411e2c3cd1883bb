use Rattle.std.proofs.Common.{◌-◌, ◌<◌, ◌≤◌, length}
use Rattle.query_parser.specs.Statements.{NamesTo}
use Rattle.query_parser.proofs.writes.parse_names.Given as goal

abbrev pub invariant-names : goal.invariant-names
invariant-names l = record {
  after : l.from < l.end;
  within : l.end ≤ length l.reading.tokens.now;
  before : NamesTo l.reading.text.now l.reading.tokens.now l.from l.names.items l.end;
}

abbrev pub decreases-names : goal.decreases-names
decreases-names l = length l.reading.tokens.now - l.end
