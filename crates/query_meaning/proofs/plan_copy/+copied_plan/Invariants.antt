use Rattle.std.proofs.Common.{◌≡◌, ◌≤◌}
use Rattle.query_meaning.specs.Chains.{rewrapped_plan}
use Rattle.query_meaning.specs.declared.plan.Plan.{size-Plan}
use Rattle.query_meaning.proofs.plan_copy.+copied_plan.Given as goal

-- the steps so far, round what is left, are the whole
abbrev pub invariant-loop-at : goal.invariant-loop-at
invariant-loop-at l = (rewrapped_plan l.steps.items l.at ≡ l.fn.plan) × (size-Plan l.at ≤ size-Plan l.fn.plan)
