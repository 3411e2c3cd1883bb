-- The grammar of feature expressions, over the tokens of a text, and what they spell.
use Rattle.std.specs.Prelude.{Bool, true, ◌≡◌, ℕ, ◌+◌, ◌<◌, ◌≤◌, ◌==◌, if◌then◌else◌, List, [], ◌∷◌, Option, Some, None, codes, length, slice_get, nat_lt, position}
use Rattle.std.specs.Str.{bytes_eq}
use Rattle.word_tokens.specs.Words.{same_word_as, is_name_of}
use Rattle.word_tokens.specs.Tokens.{bytes_of}
use Rattle.word_tokens.specs.Grammar.{Symbol, Terminal, Nonterminal, Leads, Reaches, FaultAt}
use Rattle.feature_expr.specs.declared.expr.Expr.{Expr}
use Rattle.feature_expr.specs.declared.expr.Expr as e
use Rattle.feature_expr.specs.declared.parse.Fault.{Fault}
use Rattle.feature_expr.specs.declared.parse.Fault.TheVariants as fault
use Rattle.feature_expr.specs.declared.parse.Sign.{Sign}
use Rattle.feature_expr.specs.declared.parse.Sign.TheVariants as sign
use Rattle.word_tokens.specs.declared.token.TokenKind.{TokenKind}
use Rattle.word_tokens.specs.declared.token.TokenKind.TheVariants as kind
use Rattle.word_tokens.specs.declared.token.Token.{Token}

-- the parts, each with the number of brackets and `not` that are open round it, and the parts of a grammar that has
-- expressions among its own
pub data Part : Type 0 where
  Disjunction : (nesting : ℕ) → Part
  MoreOr : (nesting : ℕ) → Part
  Conjunction : (nesting : ℕ) → Part
  MoreAnd : (nesting : ℕ) → Part
  Negation : (nesting : ℕ) → Part
  Outer : (number nesting : ℕ) → Part

-- the signs of expressions, and those of a grammar that has expressions among its parts
pub data Mark : Type 0 where
  Own : (sign : Sign) → Mark
  Foreign : (number : ℕ) → Mark

abbrev pub nesting_of : Part → ℕ
nesting_of (Disjunction n) = n
nesting_of (MoreOr n) = n
nesting_of (Conjunction n) = n
nesting_of (MoreAnd n) = n
nesting_of (Negation n) = n
nesting_of (Outer number n) = n

-- what opens one more level, where that is within the limit
abbrev pub nested : ℕ → List (List (Symbol Part Mark))
nested nesting =
    (Terminal (Own sign.Not) ∷ Nonterminal (Negation (nesting + 1)) ∷ []) ∷ (Terminal (Own sign.Open) ∷ Nonterminal (Disjunction (nesting + 1)) ∷ Terminal (Own sign.Close) ∷ []) ∷ []

-- the forms of each part, where nesting has this limit
abbrev pub forms : (ℕ → ℕ → List (List (Symbol Part Mark))) → ℕ → Part → List (List (Symbol Part Mark))
forms outer limit (Disjunction n) = (Nonterminal (Conjunction n) ∷ Nonterminal (MoreOr n) ∷ []) ∷ []
forms outer limit (MoreOr n) = [] ∷ (Terminal (Own sign.Or) ∷ Nonterminal (Conjunction n) ∷ Nonterminal (MoreOr n) ∷ []) ∷ []
forms outer limit (Conjunction n) = (Nonterminal (Negation n) ∷ Nonterminal (MoreAnd n) ∷ []) ∷ []
forms outer limit (MoreAnd n) = [] ∷ (Terminal (Own sign.And) ∷ Nonterminal (Negation n) ∷ Nonterminal (MoreAnd n) ∷ []) ∷ []
forms outer limit (Negation n) =
    (Terminal (Own sign.True) ∷ []) ∷ (Terminal (Own sign.False) ∷ []) ∷ (Terminal (Own sign.Feature) ∷ []) ∷ (if nat_lt n limit then nested n else [])
forms outer limit (Outer number n) = outer number n

-- the signs that would go on a part which seems to have ended
abbrev pub signs_of : Part → List Mark
signs_of (Disjunction n) = Own sign.Or ∷ Own sign.And ∷ []
signs_of (MoreOr n) = Own sign.Or ∷ Own sign.And ∷ []
signs_of (Conjunction n) = Own sign.And ∷ []
signs_of (MoreAnd n) = Own sign.And ∷ []
signs_of (Negation n) = []
signs_of (Outer number n) = []

-- a word is a keyword or a name
abbrev pub sign_of_word : List ℕ → Sign
sign_of_word word =
    if same_word_as word (codes "or") then sign.Or else
    (if same_word_as word (codes "and") then sign.And else
    (if same_word_as word (codes "not") then sign.Not else
    (if same_word_as word (codes "true") then sign.True else
    (if same_word_as word (codes "false") then sign.False else
    (if is_name_of word then sign.Feature else sign.Other)))))

abbrev pub sign_of_mark : List ℕ → Sign
sign_of_mark mark = if bytes_eq mark (codes "(") then sign.Open else (if bytes_eq mark (codes ")") then sign.Close else sign.Other)

abbrev pub sign_of_kind : TokenKind → List ℕ → Sign
sign_of_kind kind.Word bytes = sign_of_word bytes
sign_of_kind kind.Sign bytes = sign_of_mark bytes
sign_of_kind _ bytes = sign.Other

abbrev pub sign_of_token : List ℕ → List Token → ℕ → Option Token → Sign
sign_of_token text tokens at (Some token) = sign_of_kind token.kind (bytes_of text token)
sign_of_token text tokens at None = if at == length tokens then sign.End else sign.Other

-- the sign that the token at a place is; one behind the last stands the end of the text
unfoldable pub sign_at : List ℕ → List Token → ℕ → Sign
sign_at text tokens at = sign_of_token text tokens at (slice_get tokens at)

-- it is a token's
abbrev pub IsToken : Sign → Type 0
IsToken sign.End = ⊥
IsToken sign.Other = Unit {0}
IsToken _ = Unit {0}

abbrev pub fits : (ℕ → ℕ → Bool) → List ℕ → List Token → Mark → ℕ → Type 0
fits fitting text tokens (Own wanted) at = sign_at text tokens at ≡ wanted
fits fitting text tokens (Foreign number) at = fitting number at ≡ true

-- the number of the feature that the token at a place names
abbrev pub feature_of : List (List ℕ) → List ℕ → Option Token → Option ℕ
feature_of names text (Some token) = position (λ name. bytes_eq name (bytes_of text token)) names
feature_of names text None = None

abbrev pub feature_at : List (List ℕ) → List ℕ → List Token → ℕ → Option ℕ
feature_at names text tokens at = feature_of names text (slice_get tokens at)

-- a part is read from one place to another, whatever grammar stands round it, and under each limit on nesting from the
-- given one on
abbrev pub IsRead : List ℕ → List Token → ℕ → Part → ℕ → ℕ → Type 0
IsRead text tokens most part at end =
    (outer : ℕ → ℕ → List (List (Symbol Part Mark))) (fitting : ℕ → ℕ → Bool) (limit : ℕ) → most ≤ limit → Leads (forms outer limit) (fits fitting text tokens) (signs_of part) part at end

-- why a part isn't read: no token could stand there, under any limit; one could, under a higher limit alone; or one
-- stands there that names no feature
abbrev pub IsRefused : List (List ℕ) → List ℕ → List Token → ℕ → Part → ℕ → Fault → Type 0
IsRefused names text tokens most part at (fault.Syntax place) =
    (outer : ℕ → ℕ → List (List (Symbol Part Mark))) (fitting : ℕ → ℕ → Bool) (limit : ℕ) → most ≤ limit → FaultAt (forms outer limit) (fits fitting text tokens) (signs_of part) part at place
IsRefused names text tokens most part at (fault.TooDeep place) =
    ((outer : ℕ → ℕ → List (List (Symbol Part Mark))) (fitting : ℕ → ℕ → Bool) → FaultAt (forms outer most) (fits fitting text tokens) (signs_of part) part at place)
    × ((outer : ℕ → ℕ → List (List (Symbol Part Mark))) (fitting : ℕ → ℕ → Bool) (limit : ℕ) → most < limit → nesting_of part < limit → Reaches (forms outer limit) (fits fitting text tokens) part at (place + 1))
IsRefused names text tokens most part at (fault.UnknownFeature place) =
    ((outer : ℕ → ℕ → List (List (Symbol Part Mark))) (fitting : ℕ → ℕ → Bool) → Reaches (forms outer most) (fits fitting text tokens) part at (place + 1)) × (sign_at text tokens place ≡ sign.Feature) × (feature_at names text tokens place ≡ None) × (at ≤ place)
IsRefused names text tokens most part at fault.Memory = Unit {0}

-- every feature that is named from one place up to another is known
pub record AreKnown (names : List (List ℕ)) (text : List ℕ) (tokens : List Token) (at to : ℕ) : Type 0 where
  pub known : (k : ℕ) → at ≤ k → k < to → sign_at text tokens k ≡ sign.Feature → feature_at names text tokens k ≡ None → ⊥

-- the fault stands at a token or at the end of the text, and no unknown feature is named before it
abbrev pub IsFirst : List (List ℕ) → List ℕ → List Token → ℕ → Fault → Type 0
IsFirst names text tokens at (fault.Syntax place) = (place ≤ length tokens) × AreKnown names text tokens at place
IsFirst names text tokens at (fault.TooDeep place) = AreKnown names text tokens at place
IsFirst names text tokens at (fault.UnknownFeature place) = AreKnown names text tokens at place
IsFirst names text tokens at fault.Memory = Unit {0}

-- what the tokens of a part spell, from one place to another: `or` and `and` group to the left
pub data Spells (names : List (List ℕ)) (text : List ℕ) (tokens : List Token) : Part → ℕ → Expr → ℕ → Type 0 where
  one_conjunction : (n at end : ℕ) (expr : Expr) → Spells names text tokens (Conjunction n) at expr end → Spells names text tokens (Disjunction n) at expr end
  disjunction : (n at middle end : ℕ) (left right : Expr) → Spells names text tokens (Disjunction n) at left middle → sign_at text tokens middle ≡ sign.Or → Spells names text tokens (Conjunction n) (middle + 1) right end → Spells names text tokens (Disjunction n) at (e.Or left right) end
  one_negation : (n at end : ℕ) (expr : Expr) → Spells names text tokens (Negation n) at expr end → Spells names text tokens (Conjunction n) at expr end
  conjunction : (n at middle end : ℕ) (left right : Expr) → Spells names text tokens (Conjunction n) at left middle → sign_at text tokens middle ≡ sign.And → Spells names text tokens (Negation n) (middle + 1) right end → Spells names text tokens (Conjunction n) at (e.And left right) end
  negation : (n at end : ℕ) (inner : Expr) → sign_at text tokens at ≡ sign.Not → Spells names text tokens (Negation (n + 1)) (at + 1) inner end → Spells names text tokens (Negation n) at (e.Not inner) end
  truth : (n at : ℕ) → sign_at text tokens at ≡ sign.True → Spells names text tokens (Negation n) at e.True (at + 1)
  falsehood : (n at : ℕ) → sign_at text tokens at ≡ sign.False → Spells names text tokens (Negation n) at e.False (at + 1)
  feature : (n at i : ℕ) → sign_at text tokens at ≡ sign.Feature → feature_at names text tokens at ≡ Some i → Spells names text tokens (Negation n) at (e.Feature i) (at + 1)
  brackets : (n at end : ℕ) (expr : Expr) → sign_at text tokens at ≡ sign.Open → Spells names text tokens (Disjunction (n + 1)) (at + 1) expr end → sign_at text tokens end ≡ sign.Close → Spells names text tokens (Negation n) at expr (end + 1)
