use Rattle.std.proofs.Common.{◌≡◌, ◌≤◌}
use Rattle.feature_expr.specs.Same.{same_expr}
use Rattle.feature_expr.specs.declared.expr.Expr.{size-Expr}
use Rattle.feature_expr.proofs.same.+have_same_nodes.Given as goal

-- the expressions are the same where what is left of them is
abbrev pub invariant-loop-one : goal.invariant-loop-one
invariant-loop-one l = (same_expr l.one l.other ≡ same_expr l.fn.one l.fn.other) × (size-Expr l.one ≤ size-Expr l.fn.one)
