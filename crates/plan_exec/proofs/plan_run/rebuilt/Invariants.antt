use Rattle.std.proofs.Common.{◌≡◌, ◌≤◌, ◌+◌, vec_len}
use Rattle.plan_exec.specs.RunPairs.{rewrapped_pairs}
use Rattle.plan_exec.specs.RunTables.{rewrapped_table}
use Rattle.plan_exec.proofs.plan_run.rebuilt.Given as goal

abbrev pub decreases-loop-step : goal.decreases-loop-step
decreases-loop-step g l = vec_len l.chain

-- the steps that are left, round what was made, are all of them round the base; and so are the pairs
abbrev pub invariant-loop-step : goal.invariant-loop-step
invariant-loop-step g l =
    (rewrapped_table l.chain.items l.whole ≡ rewrapped_table l.fn.chain.items l.fn.base)
    × (l.steps + rewrapped_pairs l.chain.items l.whole ≤ l.fn.steps + rewrapped_pairs l.fn.chain.items l.fn.base)
