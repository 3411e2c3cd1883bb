use Rattle.plan_operators.proofs.PlaceLaws.{filter_more}
use Rattle.plan_operators.proofs.except.sure_columns.Goals as goal

pub loop-column-preserved : goal.loop-column-preserved
loop-column-preserved c = filter_more _ _ _ _ _ _ c.loop-column-test.true c.column-item.is c.loop-column.invariant c.in_ok-put_sure.ensures
