use Rattle.std.proofs.Common.{◌≡◌, ◌≤◌, ◌+◌}
use Rattle.query_meaning.specs.declared.plan.Plan.{size-Plan}
use Rattle.plan_exec.specs.RunPairs.{rewrapped_pairs, run_pairs}
use Rattle.plan_exec.specs.RunTables.{rewrapped_table, run_table}
use Rattle.plan_exec.proofs.plan_run.+run_plan.Given as goal

-- the steps so far, round what is left as a table, are the whole as one; and the pairs formed so far, with those of what is
-- left and of the steps round it, are no more than the whole's
abbrev pub invariant-loop-at : goal.invariant-loop-at
invariant-loop-at g l =
    (rewrapped_table l.chain.items (run_table l.tables l.at) ≡ run_table l.tables l.fn.plan)
    × (l.steps + (rewrapped_pairs l.chain.items (run_table l.tables l.at) + run_pairs l.tables l.at) ≤ l.fn.steps + run_pairs l.tables l.fn.plan)
    × (size-Plan l.at ≤ size-Plan l.fn.plan)
