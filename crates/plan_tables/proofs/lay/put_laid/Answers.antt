use Rattle.plan_tables.proofs.LoopLaws.{kept_behind}
use Rattle.plan_tables.proofs.lay.put_laid.Goals as goal

pub loop-row-preserved : goal.loop-row-preserved
loop-row-preserved c = kept_behind _ _ _ _ _ _ _ c.loop-row-test.true c.row-item.is c.loop-row.invariant c.in_ok-put_row.ensures
