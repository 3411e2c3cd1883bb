-- Texts that are expressions, and why others aren't.
use Rattle.std.specs.Prelude.{Bool, false, ◌≡◌, ◌≢◌, ℕ, ◌+◌, ◌<◌, ◌≤◌, List, [], ◌∷◌, None, Result, Ok, Err}
use Rattle.word_tokens.specs.Grammar.{Symbol, Terminal, Nonterminal, Matches}
use Rattle.word_tokens.specs.Tokens.{AreTokens, place_at}
use Rattle.feature_expr.specs.ExprGrammar.{Part, Mark, Own, Disjunction, forms, fits, sign_at, feature_at, IsFirst, Spells}
use Rattle.feature_expr.specs.declared.expr.Expr.{Expr}
use Rattle.feature_expr.specs.declared.parse.ExprRefused.{ExprRefused}
use Rattle.feature_expr.specs.declared.parse.ExprRefused.TheVariants as refused
use Rattle.feature_expr.specs.declared.parse.Fault.{Fault}
use Rattle.feature_expr.specs.declared.parse.Fault.TheVariants as fault
use Rattle.feature_expr.specs.declared.parse.Sign.TheVariants as sign
use Rattle.word_tokens.specs.declared.token.Token.{Token}

-- expressions alone: no other grammar stands round them
abbrev pub alone : ℕ → ℕ → List (List (Symbol Part Mark))
alone number nesting = []

abbrev pub none_fits : ℕ → ℕ → Bool
none_fits number at = false

-- so many tokens begin an expression that nests no deeper than the limit. The end of the text counts as a token, so
-- that one token more than there are make a whole text.
abbrev pub IsViable : List ℕ → List Token → ℕ → ℕ → Type 0
IsViable text tokens limit to = Matches (forms alone limit) (fits none_fits text tokens) (Nonterminal (Disjunction 0) ∷ Terminal (Own sign.End) ∷ []) 0 to

-- the tokens before this one begin an expression, and with it they don't
pub record IsFirstFault (text : List ℕ) (tokens : List Token) (limit at : ℕ) : Type 0 where
  pub before : IsViable text tokens limit at
  pub never : (to : ℕ) → at < to → IsViable text tokens limit to → ⊥

-- the first fault: a token that could stand there under no limit, that could under higher ones alone, or that names no
-- feature
abbrev pub IsFault : List (List ℕ) → List ℕ → List Token → ℕ → Fault → Type 0
IsFault names text tokens most (fault.Syntax at) = (limit : ℕ) → most ≤ limit → IsFirstFault text tokens limit at
IsFault names text tokens most (fault.TooDeep at) = IsFirstFault text tokens most at × ((limit : ℕ) → most < limit → IsViable text tokens limit (at + 1))
IsFault names text tokens most (fault.UnknownFeature at) = IsViable text tokens most (at + 1) × (sign_at text tokens at ≡ sign.Feature) × (feature_at names text tokens at ≡ None)
IsFault names text tokens most fault.Memory = Unit {0}

-- a fault with its place among the characters
abbrev pub placed_at : List ℕ → List Token → Fault → ExprRefused
placed_at text tokens (fault.Syntax at) = refused.Syntax (place_at text tokens at)
placed_at text tokens (fault.UnknownFeature at) = refused.UnknownFeature (place_at text tokens at)
placed_at text tokens (fault.TooDeep at) = refused.TooDeep (place_at text tokens at)
placed_at text tokens fault.Memory = refused.Memory

-- the whole text is the expression, and nests no deeper than the limit
pub record IsText (names : List (List ℕ)) (text : List ℕ) (most : ℕ) (expr : Expr) : Type 0 where
  pub tokens : List Token
  pub are_tokens : AreTokens text tokens
  pub end : ℕ
  pub ends : sign_at text tokens end ≡ sign.End
  pub viable : IsViable text tokens most (end + 1)
  pub spelled : Spells names text tokens (Disjunction 0) 0 expr end

pub record Refusal (names : List (List ℕ)) (text : List ℕ) (most : ℕ) (why : ExprRefused) : Type 0 where
  pub tokens : List Token
  pub are_tokens : AreTokens text tokens
  pub fault : Fault
  pub is_fault : IsFault names text tokens most fault
  pub is_first : IsFirst names text tokens 0 fault
  pub placed : why ≡ placed_at text tokens fault

-- the text is refused for its first fault, or memory ran out
abbrev pub IsRefusedText : List (List ℕ) → List ℕ → ℕ → ExprRefused → Type 0
IsRefusedText names text most refused.Memory = Unit {0}
IsRefusedText names text most why = Refusal names text most why

-- the answer is this expression, or memory ran out
abbrev pub Gives : Expr → Result Expr ExprRefused → Type 0
Gives expr (Ok found) = found ≡ expr
Gives expr (Err why) = why ≡ refused.Memory

-- the answer is this refusal, or memory ran out
abbrev pub GivesFault : ExprRefused → Result Expr ExprRefused → Type 0
GivesFault why (Ok found) = ⊥
GivesFault why (Err found) = found ≢ refused.Memory → found ≡ why
