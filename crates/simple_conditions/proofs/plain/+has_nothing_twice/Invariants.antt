use Rattle.std.proofs.Common.{◌≤◌}
use Rattle.feature_expr.specs.declared.expr.Expr.{size-Expr}
use Rattle.simple_conditions.proofs.plain.+has_nothing_twice.Given as goal

abbrev pub invariant-loop-at : goal.invariant-loop-at
invariant-loop-at l = size-Expr l.at ≤ size-Expr l.fn.expr
