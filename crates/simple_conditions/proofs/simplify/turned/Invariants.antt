use Rattle.simple_conditions.specs.Simpler.{Simplifies}
use Rattle.simple_conditions.proofs.simplify.turned.Given as goal

abbrev pub invariant-loop : goal.invariant-loop
invariant-loop l = Simplifies l.fn.expr l.expr
