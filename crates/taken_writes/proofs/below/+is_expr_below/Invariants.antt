use Rattle.std.proofs.Common.{◌≡◌, ◌≤◌}
use Rattle.feature_expr.specs.declared.expr.Expr.{size-Expr}
use Rattle.write_meaning.specs.TakenWrites.{expr_below}
use Rattle.taken_writes.proofs.below.+is_expr_below.Given as goal

-- what is left is as the whole
abbrev pub invariant-loop-at : goal.invariant-loop-at
invariant-loop-at l = (expr_below l.count l.at ≡ expr_below l.count l.fn.expr) × (size-Expr l.at ≤ size-Expr l.fn.expr)
