-- Conditions of which one is to hold.
use Rattle.std.specs.Prelude.{ℕ, ◌+◌, Bool, List, length}
use Rattle.std.specs.List.{list_any, sum_by}
use Rattle.feature_expr.specs.declared.expr.Expr.{Expr}
use Rattle.feature_expr.specs.Expressions.{mentions, weight_of}
use Rattle.feature_expr.specs.Satisfaction.{satisfies}

-- whether one of the conditions holds in a configuration
abbrev pub any_holds : List ℕ → List Expr → Bool
any_holds c conds = list_any (satisfies c) conds

-- whether a feature occurs in one of the conditions
abbrev pub any_mentions : ℕ → List Expr → Bool
any_mentions feature conds = list_any (mentions feature) conds

-- what the conditions weigh, and one for each
abbrev pub conds_cost : List Expr → ℕ
conds_cost conds = sum_by weight_of conds + length conds
