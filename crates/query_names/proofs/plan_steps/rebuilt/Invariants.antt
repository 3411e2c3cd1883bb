use Rattle.std.proofs.Common.{◌≡◌, vec_len}
use Rattle.query_names.specs.PlanSteps.{rewrapped}
use Rattle.query_names.proofs.plan_steps.rebuilt.Given as goal

abbrev pub decreases-loop-step : goal.decreases-loop-step
decreases-loop-step l = vec_len l.steps

-- the steps that are left, round what was made, are all of them round the base
abbrev pub invariant-loop-step : goal.invariant-loop-step
invariant-loop-step l = rewrapped l.steps.items l.whole ≡ rewrapped l.fn.steps.items l.fn.base
