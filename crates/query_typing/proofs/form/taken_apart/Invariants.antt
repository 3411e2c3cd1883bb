use Rattle.std.proofs.Common.{◌≡◌}
use Rattle.feature_expr.specs.Satisfaction.{satisfies}
use Rattle.query_typing.specs.Steps.{AreReached, rewrapped}
use Rattle.query_typing.proofs.form.taken_apart.Given as goal
use Rattle.vra_syntax.specs.declared.query.Query.{size-Query}

abbrev pub decreases-loop-at : goal.decreases-loop-at
decreases-loop-at l = size-Query l.at

-- the steps so far, round what is left, are the whole
abbrev pub invariant-loop-at : goal.invariant-loop-at
invariant-loop-at l = record {
  whole : rewrapped l.steps.items l.at ≡ l.fn.query;
  reached : AreReached (λ c. satisfies c l.fn.reach) l.steps.items (λ c. satisfies c l.reach);
}
