use Rattle.std.proofs.Common.{◌+◌, ◌-◌, ◌<◌, ◌≤◌, length}
use Rattle.query_parser.specs.Statements.{ValuesTo}
use Rattle.query_parser.proofs.writes.parse_tuple.Given as goal

abbrev pub invariant-values : goal.invariant-values
invariant-values l = record {
  after : l.at < l.end;
  within : l.end ≤ length l.parsing.reading.tokens.now;
  before : ValuesTo l.parsing.with_params l.parsing.reading.text.now l.parsing.reading.tokens.now (l.at + 1) l.values.items l.end;
}

abbrev pub decreases-values : goal.decreases-values
decreases-values l = length l.parsing.reading.tokens.now - l.end
