use Rattle.std.proofs.Common.{◌+◌, ◌*◌, ◌-◌, ◌<◌, ◌≤◌, length}
use Rattle.query_parser.specs.Conditions.{OrChain, AndChain, SpellsCond}
use Rattle.query_parser.proofs.conditions.+condition.Given as goal

abbrev pub decreases-parse_condition : goal.decreases-parse_condition
decreases-parse_condition l = 4 * (length l.parsing.now.reading.tokens.now - l.at) + 3

abbrev pub decreases-parse_conjunction : goal.decreases-parse_conjunction
decreases-parse_conjunction l = 4 * (length l.parsing.now.reading.tokens.now - l.at) + 2

abbrev pub decreases-parse_negation : goal.decreases-parse_negation
decreases-parse_negation l = 4 * (length l.parsing.now.reading.tokens.now - l.at) + 1

abbrev pub decreases-parse_cond_choice : goal.decreases-parse_cond_choice
decreases-parse_cond_choice l = 4 * (length l.parsing.now.reading.tokens.now - l.at)

abbrev pub invariant-parse_condition-links : goal.invariant-parse_condition-links
invariant-parse_condition-links l = record {
  after : l.at < l.end;
  within : l.end ≤ length l.parsing.reading.tokens.now;
  spelled : SpellsCond l.parsing.with_params l.parsing.reading.features.now l.parsing.reading.text.now l.parsing.reading.tokens.now (OrChain l.nesting) l.at l.left l.end;
}

abbrev pub decreases-parse_condition-links : goal.decreases-parse_condition-links
decreases-parse_condition-links l = length l.parsing.reading.tokens.now - l.end

abbrev pub invariant-parse_conjunction-links : goal.invariant-parse_conjunction-links
invariant-parse_conjunction-links l = record {
  after : l.at < l.end;
  within : l.end ≤ length l.parsing.reading.tokens.now;
  spelled : SpellsCond l.parsing.with_params l.parsing.reading.features.now l.parsing.reading.text.now l.parsing.reading.tokens.now (AndChain l.nesting) l.at l.left l.end;
}

abbrev pub decreases-parse_conjunction-links : goal.decreases-parse_conjunction-links
decreases-parse_conjunction-links l = length l.parsing.reading.tokens.now - l.end
