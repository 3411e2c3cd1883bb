use Rattle.plan_tables.proofs.LoopLaws.{kept_behind}
use Rattle.plan_merges.proofs.keep.put_columns.Goals as goal

pub loop-column-preserved : goal.loop-column-preserved
loop-column-preserved c = kept_behind _ _ _ _ _ _ _ c.loop-column-test.true c.column-item.is c.loop-column.invariant c.in_ok-put_column.ensures
