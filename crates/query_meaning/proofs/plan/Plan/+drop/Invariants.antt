use Rattle.std.proofs.Common.{◌≤◌}
use Rattle.query_meaning.specs.declared.plan.Plan.{size-Plan}
use Rattle.query_meaning.proofs.plan.Plan.+drop.Given as goal

abbrev pub decreases-drop : goal.decreases-drop
decreases-drop l = goal.size-drop l

-- what is left is no deeper than the whole
abbrev pub invariant-loop-self : goal.invariant-loop-self
invariant-loop-self l = size-Plan l.self ≤ size-Plan l.fn.self
