use Rattle.std.proofs.Common.{◌-◌, ◌≤◌, length}
use Rattle.query_parser.specs.Statements.{StatementsBefore}
use Rattle.query_parser.proofs.statements.parse_statements.Given as goal

abbrev pub invariant-statements : goal.invariant-statements
invariant-statements l = record {
  within : l.at ≤ length l.parsing.reading.tokens.now;
  before : StatementsBefore l.parsing.with_params l.parsing.reading.features.now l.parsing.reading.text.now l.parsing.reading.tokens.now l.statements.items l.at;
}

abbrev pub decreases-statements : goal.decreases-statements
decreases-statements l = length l.parsing.reading.tokens.now - l.at
