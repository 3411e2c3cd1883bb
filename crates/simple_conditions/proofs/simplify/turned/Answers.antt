use Rattle.simple_conditions.proofs.SimplerLaws.{simplifies_then}
use Rattle.simple_conditions.proofs.simplify.turned.Goals as goal

pub loop-preserved : goal.loop-preserved
loop-preserved c = simplifies_then c.args.expr c.loop.expr c.in_ok-next.next c.loop.invariant c.in_ok-next.ensures
