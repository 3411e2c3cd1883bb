use Rattle.std.proofs.Common.{◌≡◌, ◌≤◌, ℕ, ◌||◌, ◌&&◌, nat_lt}
use Rattle.feature_expr.specs.declared.expr.Expr.{size-Expr}
use Rattle.feature_expr.specs.Config.{has_feature}
use Rattle.feature_expr.specs.Expressions.{mentions}
use Rattle.feature_expr.proofs.occurring.+with_features_of.Given as goal

-- the features so far and those of what is left are all
abbrev pub invariant-loop-at : goal.invariant-loop-at
invariant-loop-at l =
    ((i : ℕ) → (has_feature l.so_far i || (mentions i l.at && nat_lt i 64)) ≡ (has_feature l.fn.so_far i || (mentions i l.fn.expr && nat_lt i 64))) × (size-Expr l.at ≤ size-Expr l.fn.expr)
