use Rattle.std.proofs.Common.{◌≡◌, vec_len}
use Rattle.row_conditions.specs.Truths.{rewrapped_truth}
use Rattle.row_conditions.proofs.truth.rebuilt.Given as goal

abbrev pub decreases-loop-step : goal.decreases-loop-step
decreases-loop-step l = vec_len l.steps

-- the steps that are left, round what was made, are all of them round the base
abbrev pub invariant-loop-step : goal.invariant-loop-step
invariant-loop-step l = rewrapped_truth l.steps.items l.whole ≡ rewrapped_truth l.fn.steps.items l.fn.base
