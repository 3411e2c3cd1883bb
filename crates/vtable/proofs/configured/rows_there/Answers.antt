use Rattle.vtable.proofs.PassLaws.{kept_more}
use Rattle.vtable.proofs.configured.rows_there.Goals as goal

pub loop-row-preserved : goal.loop-row-preserved
loop-row-preserved c = kept_more _ _ _ _ _ _ c.loop-row-test.true c.row-item.is c.loop-row.invariant c.in_ok-add_row.ensures
