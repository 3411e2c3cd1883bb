-- The text of an expression, with single spaces and the fewest brackets.
use Rattle.std.specs.Prelude.{ℕ, ◌+◌, ◌<◌, max, IsTrue, length, Bool, true, false, List, [], ◌++◌, codes, Some, slice_get, unwrap_or}
use Rattle.std.specs.List.{filter}
use Rattle.feature_expr.specs.declared.expr.Expr.{Expr, fold-Expr}
use Rattle.feature_expr.specs.declared.expr.Expr.TheOpen.{Expr-F}
use Rattle.feature_expr.specs.Expressions.{mentions}
use Rattle.feature_expr.specs.declared.print.Position.{Position}
use Rattle.feature_expr.specs.declared.print.Position.TheVariants as position
use Rattle.word_tokens.specs.declared.token.Token.{Token}
use Rattle.word_tokens.specs.Tokens.{is_mark_of_text}

-- whether a chain of `and` stands there without brackets
abbrev pub takes_and : Position → Bool
takes_and position.Operand = false
takes_and position.Conjunct = true
takes_and position.Disjunct = true

-- whether a chain of `or` stands there without brackets
abbrev pub takes_or : Position → Bool
takes_or position.Operand = false
takes_or position.Conjunct = false
takes_or position.Disjunct = true

abbrev pub opening : Bool → List ℕ
opening true = []
opening false = codes "("

abbrev pub closing : Bool → List ℕ
closing true = []
closing false = codes ")"

-- the name of a feature, or nothing where there is none
abbrev pub name_of : List (List ℕ) → ℕ → List ℕ
name_of names feature = unwrap_or (slice_get names feature) []

-- the text of a node at a position, where the texts of its parts are known at each
abbrev pub text_step : List (List ℕ) → Expr-F (Position → List ℕ) → Position → List ℕ
text_step names Expr-F.True at = codes "true"
text_step names Expr-F.False at = codes "false"
text_step names (Expr-F.Feature feature) at = name_of names feature
text_step names (Expr-F.Not inner) at = codes "not " ++ inner position.Operand
text_step names (Expr-F.And left right) at =
    opening (takes_and at) ++ left position.Conjunct ++ codes " and " ++ right position.Operand ++ closing (takes_and at)
text_step names (Expr-F.Or left right) at =
    opening (takes_or at) ++ left position.Disjunct ++ codes " or " ++ right position.Conjunct ++ closing (takes_or at)

-- the text of an expression at a position, in brackets where they are needed there
abbrev pub text_at : List (List ℕ) → Expr → Position → List ℕ
text_at names e = fold-Expr (Position → List ℕ) (text_step names) e

-- the text of an expression alone
abbrev pub text_of : List (List ℕ) → Expr → List ℕ
text_of names e = text_at names e position.Disjunct

-- how many brackets stand round a chain
abbrev pub bracket_count : Bool → ℕ
bracket_count true = 0
bracket_count false = 1

-- how deep brackets and `not` nest in the text of a node at a position, where it is known of its parts
abbrev pub nesting_step : Expr-F (Position → ℕ) → Position → ℕ
nesting_step Expr-F.True at = 0
nesting_step Expr-F.False at = 0
nesting_step (Expr-F.Feature feature) at = 0
nesting_step (Expr-F.Not inner) at = 1 + inner position.Operand
nesting_step (Expr-F.And left right) at = bracket_count (takes_and at) + max (left position.Conjunct) (right position.Operand)
nesting_step (Expr-F.Or left right) at = bracket_count (takes_or at) + max (left position.Disjunct) (right position.Conjunct)

abbrev pub nesting_at : Expr → Position → ℕ
nesting_at e = fold-Expr (Position → ℕ) nesting_step e

-- how deep they nest in the text of an expression alone
abbrev pub text_nesting : Expr → ℕ
text_nesting e = nesting_at e position.Disjunct

-- each feature that occurs has a name
abbrev pub HasNames : List (List ℕ) → Expr → Type 0
HasNames names expr = (i : ℕ) → IsTrue (mentions i expr) → i < length names

abbrev pub is_opening : List ℕ → Token → Bool
is_opening text token = is_mark_of_text text (codes "(") (Some token)

-- how many of the tokens are opening brackets
abbrev pub open_brackets : List ℕ → List Token → ℕ
open_brackets text tokens = length (filter (is_opening text) tokens)
