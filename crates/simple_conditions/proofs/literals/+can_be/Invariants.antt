use Rattle.std.proofs.Common.{◌≡◌, ◌≤◌, ℕ, List, not}
use Rattle.feature_expr.specs.declared.expr.Expr.{size-Expr}
use Rattle.feature_expr.specs.Satisfaction.{satisfies}
use Rattle.simple_conditions.specs.Known.{Has}
use Rattle.simple_conditions.proofs.literals.+can_be.Given as goal

-- where what is left can't have its value, the whole can't have the one asked for
abbrev pub invariant-loop-at : goal.invariant-loop-at
invariant-loop-at l =
    ((c : List ℕ) → Has c l.literals → satisfies c l.at ≡ not l.value → satisfies c l.fn.expr ≡ not l.fn.value) × (size-Expr l.at ≤ size-Expr l.fn.expr)
