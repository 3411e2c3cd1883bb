use Rattle.query_names.proofs.KindLaws.{settled_taken}
use Rattle.query_names.proofs.kinds.settled_kinds.Goals as goal

pub loop-one-preserved : goal.loop-one-preserved
loop-one-preserved c = settled_taken c.args.count c.args.parameters.now c.loop-one.one-index _ c.loop-one.settled.items c.settle.new.settled.items c.loop-one-test.true c.loop-one.invariant c.settle.ensures.length c.settle.ensures.each
