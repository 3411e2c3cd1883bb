use Rattle.std.proofs.Common.{◌+◌, ◌*◌, max}
use Rattle.feature_expr.specs.declared.expr.Expr.{size-Expr}
use Rattle.simple_conditions.proofs.sweep.+sweep.Given as goal

abbrev pub decreases-swept : goal.decreases-swept
decreases-swept l = 4 * size-Expr l.expr.now + 1

abbrev pub decreases-swept_parts : goal.decreases-swept_parts
decreases-swept_parts l = 4 * size-Expr l.expr.now

abbrev pub decreases-swept_links : goal.decreases-swept_links
decreases-swept_links l = 4 * max (size-Expr l.left.now) (size-Expr l.right.now) + 3

abbrev pub decreases-swept_beside : goal.decreases-swept_beside
decreases-swept_beside l = 4 * size-Expr l.expr.now + 2
