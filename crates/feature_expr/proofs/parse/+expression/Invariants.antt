use Rattle.std.proofs.Common.{◌+◌, ◌*◌, ◌-◌, ◌<◌, ◌≤◌, [], length}
use Rattle.feature_expr.specs.ExprGrammar.{Disjunction, MoreOr, Conjunction, MoreAnd, AreKnown, Spells}
use Rattle.feature_expr.proofs.ExprLaws.{LeadsTo}
use Rattle.feature_expr.proofs.parse.+expression.Given as goal

abbrev pub decreases-expression : goal.decreases-expression
decreases-expression l = 3 * (length l.reading.now.tokens.now - l.at) + 2

abbrev pub decreases-conjunction : goal.decreases-conjunction
decreases-conjunction l = 3 * (length l.reading.now.tokens.now - l.at) + 1

abbrev pub decreases-negation : goal.decreases-negation
decreases-negation l = 3 * (length l.reading.now.tokens.now - l.at)

-- what was read so far leads to the rest of the chain
abbrev pub invariant-expression-links : goal.invariant-expression-links
invariant-expression-links l = record {
  after : l.at < l.end;
  within : l.end ≤ length l.reading.tokens.now;
  links : LeadsTo l.reading.text.now l.reading.tokens.now l.reading.max_nesting (Disjunction l.nesting) l.at (MoreOr l.nesting) l.end [];
  spelled : Spells l.reading.features.now l.reading.text.now l.reading.tokens.now (Disjunction l.nesting) l.at l.left l.end;
  known : AreKnown l.reading.features.now l.reading.text.now l.reading.tokens.now l.at l.end;
}

abbrev pub decreases-expression-links : goal.decreases-expression-links
decreases-expression-links l = length l.reading.tokens.now - l.end

abbrev pub invariant-conjunction-links : goal.invariant-conjunction-links
invariant-conjunction-links l = record {
  after : l.at < l.end;
  within : l.end ≤ length l.reading.tokens.now;
  links : LeadsTo l.reading.text.now l.reading.tokens.now l.reading.max_nesting (Conjunction l.nesting) l.at (MoreAnd l.nesting) l.end [];
  spelled : Spells l.reading.features.now l.reading.text.now l.reading.tokens.now (Conjunction l.nesting) l.at l.left l.end;
  known : AreKnown l.reading.features.now l.reading.text.now l.reading.tokens.now l.at l.end;
}

abbrev pub decreases-conjunction-links : goal.decreases-conjunction-links
decreases-conjunction-links l = length l.reading.tokens.now - l.end
