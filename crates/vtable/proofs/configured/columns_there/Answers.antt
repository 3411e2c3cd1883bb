use Rattle.vtable.proofs.ConfiguredLaws.{columns_more}
use Rattle.vtable.proofs.configured.columns_there.Goals as goal

pub loop-column-preserved : goal.loop-column-preserved
loop-column-preserved c = columns_more _ _ _ _ _ _ c.loop-column-test.true c.column-item.is c.loop-column.invariant c.in_ok-put_column.ensures
