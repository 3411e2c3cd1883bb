-- Queries that were taken apart from the left: each step goes round the left side inside it.
use Rattle.std.specs.Prelude.{ℕ, ◌≡◌, ◌+◌, ◌&&◌, max, Bool, not, List, [], ◌∷◌, Option, Some, None}
use Rattle.feature_expr.specs.Satisfaction.{satisfies}
use Rattle.query_typing.specs.declared.form.Form.{Form}
use Rattle.query_typing.specs.declared.form.Form.TheVariants as form
use Rattle.query_typing.specs.declared.form.OneForm.{OneForm}
use Rattle.query_typing.specs.declared.form.OneForm.TheVariants as one
use Rattle.query_typing.specs.declared.form.Step.{Step}
use Rattle.query_typing.specs.declared.form.TwoForm.{TwoForm}
use Rattle.query_typing.specs.declared.form.TwoForm.TheVariants as two
use Rattle.vra_syntax.specs.declared.query.Query.{Query, size-Query}
use Rattle.vra_syntax.specs.declared.query.Query as query

-- the innermost left side of a query: a table of some name, or the empty query
abbrev pub leaf_query : Option (List ℕ) → Query
leaf_query None = query.Empty
leaf_query (Some name) = query.Table name

abbrev pub one_wrapped : OneForm → Query → Query
one_wrapped (one.Select items cond) source = query.Select items.now source cond.now
one_wrapped (one.Alias name) source = query.Alias source name.now

abbrev pub two_wrapped : TwoForm → Query → Query → Query
two_wrapped (two.Join cond) left right = query.Join left right cond.now
two_wrapped two.Union left right = query.Union left right
two_wrapped two.Except left right = query.Except left right
two_wrapped (two.Choice expr) left right = query.Choice expr.now left right

abbrev pub wrapped : Form → Query → Query
wrapped (form.One f) source = one_wrapped f source
wrapped (form.Two f right) left = two_wrapped f left right.now

-- the whole query round its innermost left side; the first step is the outermost
abbrev pub rewrapped : List Step → Query → Query
rewrapped [] left = left
rewrapped (s ∷ steps) left = wrapped s.form (rewrapped steps left)

-- whether the sides of a form are reached, where it is known whether the form is

abbrev pub chosen_reached : List ℕ → TwoForm → Bool → Bool
chosen_reached c (two.Choice expr) reached = reached && satisfies c expr.now
chosen_reached c _ reached = reached

abbrev pub left_reached : List ℕ → Form → Bool → Bool
left_reached c (form.One f) reached = reached
left_reached c (form.Two f right) reached = chosen_reached c f reached

abbrev pub right_reached : List ℕ → TwoForm → Bool → Bool
right_reached c (two.Choice expr) reached = reached && not (satisfies c expr.now)
right_reached c _ reached = reached

-- each step has the condition under which it is reached, from where the whole is reached to where the innermost left
-- side is
abbrev pub AreReached : (List ℕ → Bool) → List Step → (List ℕ → Bool) → Type 0
AreReached root [] inner = (c : List ℕ) → inner c ≡ root c
AreReached root (s ∷ steps) inner = ((c : List ℕ) → satisfies c s.reach ≡ root c) × AreReached (λ c. left_reached c s.form (root c)) steps inner

-- how deep a form's right side is; 0 where it has none
abbrev pub depth_of : Form → ℕ
depth_of (form.One f) = 0
depth_of (form.Two f right) = size-Query right.now + 1

abbrev pub deepest : List Step → ℕ
deepest [] = 0
deepest (s ∷ steps) = max (depth_of s.form) (deepest steps)
