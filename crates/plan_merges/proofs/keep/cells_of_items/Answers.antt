use Rattle.plan_tables.proofs.LoopLaws.{joined_more}
use Rattle.plan_merges.proofs.keep.cells_of_items.Goals as goal

pub loop-item-preserved : goal.loop-item-preserved
loop-item-preserved c = joined_more _ _ _ _ _ _ c.loop-item-test.true c.item-item.is c.loop-item.invariant c.in_ok-put_cells.ensures
