-- A chain that was taken apart from the left: each step goes round the left side inside it.
use Rattle.std.specs.Prelude.{List, [], ◌∷◌}
use Rattle.feature_expr.specs.declared.expr.Expr.{Expr}
use Rattle.feature_expr.specs.declared.expr.Expr as e
use Rattle.feature_expr.specs.declared.expr.Step.{Step}
use Rattle.feature_expr.specs.declared.expr.Step.TheVariants as step

abbrev pub wrapped : Step → Expr → Expr
wrapped step.Not inner = e.Not inner
wrapped (step.And right) left = e.And left right
wrapped (step.Or right) left = e.Or left right

-- the whole chain round its innermost left side; the first step is the outermost
abbrev pub rewrapped : List Step → Expr → Expr
rewrapped [] left = left
rewrapped (s ∷ ss) left = wrapped s (rewrapped ss left)
