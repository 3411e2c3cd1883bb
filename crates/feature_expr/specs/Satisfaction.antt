-- When a configuration satisfies an expression. A configuration is the list of its true features.
use Rattle.std.specs.Prelude.{ℕ, Bool, true, false, not, ◌&&◌, ◌||◌, List}
use Rattle.feature_expr.specs.Config.{has_feature}
use Rattle.feature_expr.specs.declared.expr.Expr.{Expr, fold-Expr}
use Rattle.feature_expr.specs.declared.expr.Expr.TheOpen.{Expr-F}

-- whether a node holds in a configuration, where its parts are known to hold or not
abbrev pub holds_at : List ℕ → Expr-F Bool → Bool
holds_at c Expr-F.True = true
holds_at c Expr-F.False = false
holds_at c (Expr-F.Feature i) = has_feature c i
holds_at c (Expr-F.Not inner) = not inner
holds_at c (Expr-F.And left right) = left && right
holds_at c (Expr-F.Or left right) = left || right

-- whether a configuration satisfies an expression
abbrev pub satisfies : List ℕ → Expr → Bool
satisfies c e = fold-Expr Bool (holds_at c) e
