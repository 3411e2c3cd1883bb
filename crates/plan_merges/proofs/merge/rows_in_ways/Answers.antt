use Rattle.plan_tables.proofs.LoopLaws.{joined_more}
use Rattle.plan_merges.proofs.merge.rows_in_ways.Goals as goal

pub loop-way-preserved : goal.loop-way-preserved
loop-way-preserved c = joined_more _ _ _ _ _ _ c.loop-way-test.true c.way-item.is c.loop-way.invariant c.in_ok-put_way.ensures
