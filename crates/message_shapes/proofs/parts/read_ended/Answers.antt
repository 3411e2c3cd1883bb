use Rattle.message_shapes.proofs.Loops.{until_none}
use Rattle.message_shapes.proofs.parts.read_ended.Goals as goal

pub returns-in-None : goal.returns-in-None
returns-in-None g c =
    until_none _ c.loop.parts _ c.loop.counter c.loop.rest.now c.in_ok-part.after.now _ c.in_ok-part.part c.loop-test.true c.in_ok-part.ensures c.in-None.is c.loop.invariant
