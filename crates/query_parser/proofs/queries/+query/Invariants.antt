use Rattle.std.proofs.Common.{◌+◌, ◌*◌, ◌-◌, ◌<◌, ◌≤◌, length}
use Rattle.query_parser.specs.Queries.{QueryChain, SourceChain, SpellsQuery}
use Rattle.query_parser.proofs.queries.+query.Given as goal

abbrev pub decreases-parse_query : goal.decreases-parse_query
decreases-parse_query l = 4 * (length l.parsing.now.reading.tokens.now - l.at) + 3

abbrev pub decreases-parse_term : goal.decreases-parse_term
decreases-parse_term l = 4 * (length l.parsing.now.reading.tokens.now - l.at) + 2

abbrev pub decreases-parse_simple : goal.decreases-parse_simple
decreases-parse_simple l = 4 * (length l.parsing.now.reading.tokens.now - l.at) + 1

abbrev pub decreases-parse_query_choice : goal.decreases-parse_query_choice
decreases-parse_query_choice l = 4 * (length l.parsing.now.reading.tokens.now - l.at)

abbrev pub decreases-parse_source : goal.decreases-parse_source
decreases-parse_source l = 4 * (length l.parsing.now.reading.tokens.now - l.at) + 3

abbrev pub decreases-parse_source_term : goal.decreases-parse_source_term
decreases-parse_source_term l = 4 * (length l.parsing.now.reading.tokens.now - l.at) + 2

abbrev pub invariant-parse_query-links : goal.invariant-parse_query-links
invariant-parse_query-links l = record {
  after : l.at < l.end;
  within : l.end ≤ length l.parsing.reading.tokens.now;
  spelled : SpellsQuery l.parsing.with_params l.parsing.reading.features.now l.parsing.reading.text.now l.parsing.reading.tokens.now (QueryChain l.nesting) l.at l.left l.end;
}

abbrev pub decreases-parse_query-links : goal.decreases-parse_query-links
decreases-parse_query-links l = length l.parsing.reading.tokens.now - l.end

abbrev pub invariant-parse_source-links : goal.invariant-parse_source-links
invariant-parse_source-links l = record {
  after : l.at < l.end;
  within : l.end ≤ length l.parsing.reading.tokens.now;
  spelled : SpellsQuery l.parsing.with_params l.parsing.reading.features.now l.parsing.reading.text.now l.parsing.reading.tokens.now (SourceChain l.nesting) l.at l.left l.end;
}

abbrev pub decreases-parse_source-links : goal.decreases-parse_source-links
decreases-parse_source-links l = length l.parsing.reading.tokens.now - l.end
