use Rattle.std.proofs.Common.{◌≡◌, ◌+◌, ◌-◌, ◌^◌, ◌≤◌, min}
use Rattle.feature_expr.specs.declared.expr.Expr.{size-Expr}
use Rattle.feature_expr.specs.Expressions.{weight_of}
use Rattle.feature_expr.proofs.expr.+weight.Given as goal

-- the nodes so far and those that are left are all
abbrev pub invariant-loop-at : goal.invariant-loop-at
invariant-loop-at l =
    (min (l.total + weight_of l.at) (2 ^ 64 - 1) ≡ min (weight_of l.fn.expr) (2 ^ 64 - 1)) × (size-Expr l.at ≤ size-Expr l.fn.expr)
