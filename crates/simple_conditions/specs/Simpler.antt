-- When one expression may stand in another's place.
use Rattle.std.specs.Prelude.{◌≡◌, ℕ, ◌≤◌, Bool, true, false, List}
use Rattle.feature_expr.specs.Expressions.{mentions, weight_of}
use Rattle.feature_expr.specs.Satisfaction.{satisfies}
use Rattle.feature_expr.specs.declared.expr.Expr.{Expr}
use Rattle.feature_expr.specs.declared.expr.Expr as e

-- the same truth in every configuration, no more nodes, and no feature of its own
pub record Simplifies (old new : Expr) : Type 0 where
  pub same : (c : List ℕ) → satisfies c new ≡ satisfies c old
  pub lighter : weight_of new ≤ weight_of old
  pub features : (i : ℕ) → mentions i new ≡ true → mentions i old ≡ true

-- the same, but that the truth is the same in some configurations alone
pub record SimplifiesWhere (Known : List ℕ → Type 0) (old new : Expr) : Type 0 where
  pub same : (c : List ℕ) → Known c → satisfies c new ≡ satisfies c old
  pub lighter : weight_of new ≤ weight_of old
  pub features : (i : ℕ) → mentions i new ≡ true → mentions i old ≡ true

-- two sides of a chain: of `and` where all links are to hold, else of `or`
abbrev pub chained : Bool → Expr → Expr → Expr
chained true left right = e.And left right
chained false left right = e.Or left right
