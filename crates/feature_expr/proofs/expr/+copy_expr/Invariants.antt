use Rattle.std.proofs.Common.{◌≡◌, ◌≤◌}
use Rattle.feature_expr.specs.declared.expr.Expr.{size-Expr}
use Rattle.feature_expr.specs.Chains.{rewrapped}
use Rattle.feature_expr.proofs.expr.+copy_expr.Given as goal

-- the steps so far, round what is left, are the whole
abbrev pub invariant-loop-at : goal.invariant-loop-at
invariant-loop-at l = (rewrapped l.steps.items l.at ≡ l.fn.expr) × (size-Expr l.at ≤ size-Expr l.fn.expr)
