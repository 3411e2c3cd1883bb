use Rattle.plan_tables.proofs.LoopLaws.{kept_more}
use Rattle.plan_operators.proofs.filter.rows_meeting.Goals as goal

pub loop-row-preserved : goal.loop-row-preserved
loop-row-preserved c = kept_more _ _ _ _ _ _ c.loop-row-test.true c.row-item.is c.loop-row.invariant c.in_ok-put_linked.ensures
