use Rattle.std.proofs.Common.{◌≡◌}
use Rattle.query_names.specs.NameSteps.{rewrapped}
use Rattle.query_names.proofs.name_steps.taken_apart.Given as goal
use Rattle.vra_syntax.specs.declared.query.Query.{size-Query}

abbrev pub decreases-loop-at : goal.decreases-loop-at
decreases-loop-at l = size-Query l.at

-- the steps so far, round what is left, are the whole
abbrev pub invariant-loop-at : goal.invariant-loop-at
invariant-loop-at l = rewrapped l.steps.items l.at ≡ l.fn.query
