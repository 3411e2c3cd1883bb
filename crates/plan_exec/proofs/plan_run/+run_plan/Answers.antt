use Rattle.std.proofs.Common.{ap, ◌∙◌, arith}
use Rattle.plan_exec.proofs.PairLaws.{join_counted}
use Rattle.plan_exec.proofs.StepLaws.{join_around, join_smaller}
use Rattle.plan_exec.specs.RunPairs.{run_pairs}
use Rattle.plan_exec.specs.RunTables.{run_table}
use Rattle.plan_exec.proofs.plan_run.+run_plan.Goals as goal

pub loop-at-preserved-in-Join : goal.loop-at-preserved-in-Join
loop-at-preserved-in-Join g t c =
    let right = c.in_ok-right-in-Join.ensures.made ∙ ap (run_table c.args.tables.now) c.get-in-Join.ensures in
    let pairs = ap (run_pairs c.args.tables.now) c.get-in-Join.ensures in
    let run = c.in_ok-right-in-Join.ensures.steps in (
      join_around c.args.tables.now c.loop-at.chain.items c.put_step-in-Join.new.chain.items c.args.plan.now c.loop-at.at.now c.in-Join.left c.in-Join.right c.get-in-Join-2.result.now c.get-at-in-Join.result.now c.in-Join.cond c.in_ok-right-in-Join.right
          c.in-Join.is c.get-in-Join-2.ensures c.get-at-in-Join.ensures right c.in_ok-put_step-in-Join.ensures.made c.loop-at.invariant.0,
      join_counted c.args.tables.now c.loop-at.chain.items c.put_step-in-Join.new.chain.items c.loop-at.at.now c.in-Join.left c.in-Join.right c.get-in-Join-2.result.now c.get-at-in-Join.result.now c.in-Join.cond c.in_ok-right-in-Join.right c.loop-at.steps _ _
          c.in-Join.is c.get-in-Join-2.ensures c.get-at-in-Join.ensures right c.in_ok-put_step-in-Join.ensures.pairs (omega (arith, pairs, run)) c.loop-at.invariant.1,
      join_smaller c.args.plan.now c.loop-at.at.now c.in-Join.left c.in-Join.right c.get-at-in-Join.result.now c.in-Join.cond c.in-Join.is c.get-at-in-Join.ensures c.loop-at.invariant.2,
    )
