use Rattle.std.proofs.Common.{◌+◌, ◌*◌}
use Rattle.feature_expr.specs.declared.expr.Expr.{size-Expr}
use Rattle.simple_conditions.proofs.chain.+spread.Given as goal

abbrev pub decreases-spread : goal.decreases-spread
decreases-spread l = 2 * size-Expr l.right.now

abbrev pub decreases-spread_both : goal.decreases-spread_both
decreases-spread_both l = 2 * size-Expr l.first.now + 1
