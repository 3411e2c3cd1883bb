-- What is still to be printed behind the left sides of an expression.
use Rattle.std.specs.Prelude.{ℕ, ◌+◌, ◌≤◌, List, [], ◌∷◌, ◌++◌, codes}
use Rattle.feature_expr.specs.declared.expr.Expr.{size-Expr}
use Rattle.feature_expr.specs.declared.print.Position.TheVariants as position
use Rattle.feature_expr.specs.declared.print.Rest.{Rest}
use Rattle.feature_expr.specs.declared.print.Rest.TheVariants as rest
use Rattle.feature_expr.specs.Printing.{takes_and, takes_or, closing, text_at}

abbrev pub text_behind : List (List ℕ) → Rest → List ℕ
text_behind names (rest.And right at) = codes " and " ++ text_at names right.now position.Operand ++ closing (takes_and at)
text_behind names (rest.Or right at) = codes " or " ++ text_at names right.now position.Conjunct ++ closing (takes_or at)

-- the innermost is the last
abbrev pub texts_behind : List (List ℕ) → List Rest → List ℕ
texts_behind names [] = []
texts_behind names (r ∷ rs) = texts_behind names rs ++ text_behind names r

-- one more than its right side's depth
abbrev pub rest_size : Rest → ℕ
rest_size (rest.And right at) = size-Expr right.now + 1
rest_size (rest.Or right at) = size-Expr right.now + 1

-- its right side is less deep
abbrev pub IsShallower : ℕ → Rest → Type 0
IsShallower depth r = rest_size r ≤ depth
