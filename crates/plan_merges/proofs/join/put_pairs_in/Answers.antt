use Rattle.std.proofs.Common.{arith}
use Rattle.plan_tables.proofs.LoopLaws.{kept_behind}
use Rattle.plan_merges.specs.Merges.{pair_meeting}
use Rattle.plan_merges.proofs.join.put_pairs_in.Goals as goal

pub loop-other-preserved : goal.loop-other-preserved
loop-other-preserved g c = (
  kept_behind (pair_meeting c.args.cond.now c.args.columns.now c.args.others.now c.args.row.now) _ _ _ _ _ _ c.loop-other-test.true c.other-item.is c.loop-other.invariant.0 c.in_ok-put_pair.ensures.made,
  omega (arith, c.loop-other.invariant.1, c.put_pair.ensures.steps),
)
