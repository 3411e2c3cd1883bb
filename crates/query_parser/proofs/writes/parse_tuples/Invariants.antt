use Rattle.std.proofs.Common.{◌-◌, ◌<◌, ◌≤◌, length}
use Rattle.query_parser.specs.Statements.{TuplesTo}
use Rattle.query_parser.proofs.writes.parse_tuples.Given as goal

abbrev pub invariant-rows : goal.invariant-rows
invariant-rows l = record {
  after : l.from < l.end;
  within : l.end ≤ length l.parsing.reading.tokens.now;
  before : TuplesTo l.parsing.with_params l.parsing.reading.text.now l.parsing.reading.tokens.now l.count l.from l.rows.items l.end;
}

abbrev pub decreases-rows : goal.decreases-rows
decreases-rows l = length l.parsing.reading.tokens.now - l.end
