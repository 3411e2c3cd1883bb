use Rattle.simple_conditions.proofs.SimplerLaws.{simplifies_then}
use Rattle.simple_conditions.proofs.simplify.to_and_fro.Goals as goal

pub returns : goal.returns
returns c = simplifies_then c.args.expr.now c.in_ok-to.to c.in_ok-fro.fro c.in_ok-to.ensures c.in_ok-fro.ensures
