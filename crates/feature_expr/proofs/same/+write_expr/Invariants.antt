use Rattle.std.proofs.Common.{◌≡◌, ◌≤◌, fold}
use Rattle.feature_expr.specs.Same.{hash_writes}
use Rattle.feature_expr.specs.declared.expr.Expr.{size-Expr}
use Rattle.feature_expr.proofs.same.+write_expr.Given as goal

-- what is left of the expression, written behind what was, is all of it
abbrev pub invariant-loop-at : goal.invariant-loop-at
invariant-loop-at g l = (fold g.H.Hasher.write l.state (hash_writes l.at) ≡ fold g.H.Hasher.write l.fn.state (hash_writes l.fn.expr)) × (size-Expr l.at ≤ size-Expr l.fn.expr)
