use Rattle.std.proofs.Common.{◌≡◌, ◌≤◌, ℕ, List}
use Rattle.feature_expr.specs.declared.expr.Expr.{size-Expr}
use Rattle.feature_expr.specs.Satisfaction.{satisfies}
use Rattle.simple_conditions.specs.Known.{Has}
use Rattle.simple_conditions.proofs.literals.+literals_of.Given as goal

-- where the whole has its value, the literals so far hold, and what is left has the value that it is to have
abbrev pub invariant-loop-at : goal.invariant-loop-at
invariant-loop-at l = record {
  so_far : (c : List ℕ) → Has c l.fn.literals → satisfies c l.fn.expr ≡ l.fn.value → Has c l.literals;
  left : (c : List ℕ) → satisfies c l.fn.expr ≡ l.fn.value → satisfies c l.at ≡ l.value;
  smaller : size-Expr l.at ≤ size-Expr l.fn.expr;
}
