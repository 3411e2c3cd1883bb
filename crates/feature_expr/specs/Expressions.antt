-- What an expression weighs and mentions, and how the connectives fold constants away.
use Rattle.std.specs.Prelude.{ℕ, ◌+◌, ◌==◌, Bool, false, ◌||◌}
use Rattle.feature_expr.specs.declared.expr.Expr.{Expr, fold-Expr, out-Expr}
use Rattle.feature_expr.specs.declared.expr.Expr.TheOpen.{Expr-F}
use Rattle.feature_expr.specs.declared.expr.Expr as e

-- the nodes of one layer, with the count of each part in its place
abbrev pub weight_step : Expr-F ℕ → ℕ
weight_step Expr-F.True = 1
weight_step Expr-F.False = 1
weight_step (Expr-F.Feature i) = 1
weight_step (Expr-F.Not inner) = 1 + inner
weight_step (Expr-F.And left right) = 1 + left + right
weight_step (Expr-F.Or left right) = 1 + left + right

-- the number of nodes
abbrev pub weight_of : Expr → ℕ
weight_of e = fold-Expr ℕ weight_step e

abbrev pub mentions_step : ℕ → Expr-F Bool → Bool
mentions_step feature Expr-F.True = false
mentions_step feature Expr-F.False = false
mentions_step feature (Expr-F.Feature i) = i == feature
mentions_step feature (Expr-F.Not inner) = inner
mentions_step feature (Expr-F.And left right) = left || right
mentions_step feature (Expr-F.Or left right) = left || right

-- whether a feature occurs
abbrev pub mentions : ℕ → Expr → Bool
mentions feature e = fold-Expr Bool (mentions_step feature) e

abbrev pub and_right : Expr → Expr → Expr-F Expr → Expr
and_right left right Expr-F.True = left
and_right left right Expr-F.False = e.False
and_right left right _ = e.And left right

abbrev pub and_left : Expr → Expr → Expr-F Expr → Expr
and_left left right Expr-F.True = right
and_left left right Expr-F.False = e.False
and_left left right _ = and_right left right (out-Expr right)

-- the conjunction without constants: True gives the other side, and False is False
abbrev pub and_of : Expr → Expr → Expr
and_of left right = and_left left right (out-Expr left)

abbrev pub or_right : Expr → Expr → Expr-F Expr → Expr
or_right left right Expr-F.True = e.True
or_right left right Expr-F.False = left
or_right left right _ = e.Or left right

abbrev pub or_left : Expr → Expr → Expr-F Expr → Expr
or_left left right Expr-F.True = e.True
or_left left right Expr-F.False = right
or_left left right _ = or_right left right (out-Expr right)

-- the disjunction without constants: False gives the other side, and True is True
abbrev pub or_of : Expr → Expr → Expr
or_of left right = or_left left right (out-Expr left)

abbrev pub not_step : Expr → Expr-F Expr → Expr
not_step inner Expr-F.True = e.False
not_step inner Expr-F.False = e.True
not_step inner _ = e.Not inner

-- the negation, without a constant inside
abbrev pub not_of : Expr → Expr
not_of inner = not_step inner (out-Expr inner)
