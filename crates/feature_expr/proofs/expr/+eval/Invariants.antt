use Rattle.std.proofs.Common.{◌≡◌, ◌≤◌}
use Rattle.feature_expr.specs.declared.expr.Expr.{size-Expr}
use Rattle.feature_expr.specs.Satisfaction.{satisfies}
use Rattle.feature_expr.proofs.expr.+eval.Given as goal

-- what is left holds where the whole does
abbrev pub invariant-loop-at : goal.invariant-loop-at
invariant-loop-at l = (satisfies l.config l.at ≡ satisfies l.config l.fn.expr) × (size-Expr l.at ≤ size-Expr l.fn.expr)
