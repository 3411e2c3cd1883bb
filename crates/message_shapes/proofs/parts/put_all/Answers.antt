use Rattle.message_shapes.proofs.Steps.{drop_item, step_last, step_more}
use Rattle.message_shapes.proofs.parts.put_all.Goals as goal

pub loop-part-preserved : goal.loop-part-preserved
loop-part-preserved g c = record {
  all = step_more _ c.loop-part.part-index c.args.parts.now _ _ _ _ (drop_item c.args.parts.now c.loop-part.part-index c.part-item.result c.loop-part-test.true c.part-item.is) c.put.ensures.puts c.loop-part.invariant.all;
  within = c.put.ensures.within;
}

pub returns-clause-puts : goal.returns-clause-puts
returns-clause-puts g c = step_last _ c.loop-part.part-index c.args.parts.now _ _ c.loop-part-test.false c.loop-part.invariant.all
