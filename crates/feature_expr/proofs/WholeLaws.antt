-- A text that is an expression has no fault.
use Rattle.std.proofs.Common.{◌≡◌, ℕ, zero, suc, ◌+◌, ◌<◌, ◌≤◌, ◌==◌, Bool, true, false, nat_lt, if◌then◌else◌, List, [], ◌∷◌, ◌++◌, Option, None, Some, length, slice_get, inl, inr, refl, arith}
use Rattle.std.specs.Prelude.{codes}
use Rattle.std.specs.Str.{bytes_eq}
use Rattle.std.proofs.lemmas.Bool.Decides.{nat_tests}
use Rattle.std.proofs.lemmas.Option.{slice_get_within}
use Rattle.feature_expr.specs.declared.expr.Expr.{Expr}
use Rattle.feature_expr.specs.declared.parse.ExprRefused.{ExprRefused}
use Rattle.feature_expr.specs.declared.parse.ExprRefused.TheVariants as refused
use Rattle.feature_expr.specs.declared.parse.Fault.{Fault}
use Rattle.feature_expr.specs.declared.parse.Fault.TheVariants as fault
use Rattle.feature_expr.specs.declared.parse.Sign.{Sign}
use Rattle.feature_expr.specs.declared.parse.Sign.TheVariants as sign
use Rattle.word_tokens.specs.declared.token.Token.{Token}
use Rattle.word_tokens.specs.declared.token.TokenKind.{TokenKind}
use Rattle.word_tokens.specs.declared.token.TokenKind.TheVariants as kind
use Rattle.word_tokens.specs.Words.{same_word_as, is_name_of}
use Rattle.word_tokens.specs.Grammar.{Symbol, Terminal, Nonterminal, AnyOf, MatchesIn}
use Rattle.word_tokens.specs.Tokens.{bytes_of}
use Rattle.feature_expr.specs.ExprGrammar.{Part, Disjunction, MoreOr, Conjunction, MoreAnd, Negation, Outer, Mark, Own, Foreign, nested, forms, fits, sign_of_kind, sign_of_token, sign_at, AreKnown, IsFirst, Spells, one_conjunction, disjunction, one_negation, conjunction, negation, truth, falsehood, feature, brackets}
use Rattle.feature_expr.specs.ExprTexts.{alone, none_fits, IsViable, IsFault, IsText, Refusal, IsRefusedText}
use Rattle.feature_expr.proofs.KnownLaws.{known_join, known_other, known_close, known_feature}
use Rattle.feature_expr.proofs.OneLaws.{one_tokens}

-- the sign of a token or of the end
abbrev IsReal : Sign → Type 0
IsReal sign.Other = ⊥
IsReal _ = Unit {0}

abbrev AreReal : List (Symbol Part Mark) → Type 0
AreReal [] = Unit {0}
AreReal (Terminal (Own wanted) ∷ symbols) = IsReal wanted × AreReal symbols
AreReal (Terminal (Foreign number) ∷ symbols) = AreReal symbols
AreReal (Nonterminal part ∷ symbols) = AreReal symbols

abbrev AreRealForms : List (List (Symbol Part Mark)) → List (Symbol Part Mark) → Type 0
AreRealForms [] symbols = Unit {0}
AreRealForms (form ∷ rest) symbols = AreReal (form ++ symbols) × AreRealForms rest symbols

nested_real : (b : Bool) (n : ℕ) (symbols : List (Symbol Part Mark)) → AreReal symbols → AreRealForms (if b then nested n else []) symbols
nested_real true n symbols real = ((tt, real), ((tt, (tt, real)), tt))
nested_real false n symbols real = tt

forms_real : (limit : ℕ) (part : Part) (symbols : List (Symbol Part Mark)) → AreReal symbols → AreRealForms (forms alone limit part) symbols
forms_real limit (Disjunction n) symbols real = (real, tt)
forms_real limit (MoreOr n) symbols real = (real, ((tt, real), tt))
forms_real limit (Conjunction n) symbols real = (real, tt)
forms_real limit (MoreAnd n) symbols real = (real, ((tt, real), tt))
forms_real limit (Negation n) symbols real = ((tt, real), ((tt, real), ((tt, real), nested_real (nat_lt n limit) n symbols real)))
forms_real limit (Outer number n) symbols real = tt

any_real : (goal : Type 0) (M : List (Symbol Part Mark) → Type 0) (symbols : List (Symbol Part Mark)) (fs : List (List (Symbol Part Mark))) → AreRealForms fs symbols → ((s : List (Symbol Part Mark)) → AreReal s → M s → goal) → AnyOf (λ form. M (form ++ symbols)) fs → goal
any_real goal M symbols [] real on none = absurd none
any_real goal M symbols (form ∷ fs) real on (inl m) = on (form ++ symbols) real.0 m
any_real goal M symbols (form ∷ fs) real on (inr any) = any_real goal M symbols fs real.1 on any

no_end_word : (a b c d f g : Bool) → (if a then sign.Or else (if b then sign.And else (if c then sign.Not else (if d then sign.True else (if f then sign.False else (if g then sign.Feature else sign.Other)))))) ≡ sign.End → ⊥
no_end_word true b c d f g e = cc e
no_end_word false true c d f g e = cc e
no_end_word false false true d f g e = cc e
no_end_word false false false true f g e = cc e
no_end_word false false false false true g e = cc e
no_end_word false false false false false true e = cc e
no_end_word false false false false false false e = cc e

no_end_mark : (a b : Bool) → (if a then sign.Open else (if b then sign.Close else sign.Other)) ≡ sign.End → ⊥
no_end_mark true b e = cc e
no_end_mark false true e = cc e
no_end_mark false false e = cc e

no_end : (k : TokenKind) (bytes : List ℕ) → sign_of_kind k bytes ≡ sign.End → ⊥
no_end kind.Word bytes e = no_end_word (same_word_as bytes (codes "or")) (same_word_as bytes (codes "and")) (same_word_as bytes (codes "not")) (same_word_as bytes (codes "true")) (same_word_as bytes (codes "false")) (is_name_of bytes) e
no_end kind.Sign bytes e = no_end_mark (bytes_eq bytes (codes "(")) (bytes_eq bytes (codes ")")) e
no_end (kind.Integer number) bytes e = cc e
no_end (kind.Text chars) bytes e = cc e
no_end (kind.Param number) bytes e = cc e
no_end kind.Bad bytes e = cc e

no_feature : (b : Bool) → (if b then sign.End else sign.Other) ≡ sign.Feature → ⊥
no_feature true e = cc e
no_feature false e = cc e

module _ (text : List ℕ) (tokens : List Token) where
  last_of : (at : ℕ) (b : Bool) → at == length tokens ≡ b → (if b then sign.End else sign.Other) ≡ sign.End → length tokens ≤ at
  last_of at true is real = grind (arith, nat_tests)
  last_of at false is real = absurd (cc real)

  behind_last : (at : ℕ) (b : Bool) → at == length tokens ≡ b → IsReal (if b then sign.End else sign.Other) → at ≤ length tokens
  behind_last at true is real = grind (arith, nat_tests)
  behind_last at false is real = absurd real

  real_of : (at : ℕ) (found : Option Token) → slice_get tokens at ≡ found → IsReal (sign_of_token text tokens at found) → at ≤ length tokens
  real_of at (Some token) is real = let h = slice_get_within tokens at token is in omega (arith, h)
  real_of at None is real = behind_last at (at == length tokens) refl real

  real_within : (at : ℕ) → IsReal (sign_at text tokens at) → at ≤ length tokens
  unfolding sign_at
  real_within at real = real_of at (slice_get tokens at) refl real

  matches_within : (limit n : ℕ) (symbols : List (Symbol Part Mark)) (at to : ℕ) → AreReal symbols → at ≤ length tokens + 1 → MatchesIn (forms alone limit) (fits none_fits text tokens) n symbols at to → to ≤ length tokens + 1
  matches_within limit zero symbols at to real low m = omega (arith, low, m)
  matches_within limit (suc n) [] at to real low m = omega (arith, low, m)
  matches_within limit (suc n) (Terminal wanted ∷ symbols) at to real low (inl m) = omega (arith, low, m)
  matches_within limit (suc n) (Terminal (Own wanted) ∷ symbols) at to real low (inr m) =
      let here = real_within at (rw m.0 real.0) in
      matches_within limit n symbols (at + 1) to real.1 (omega (arith, here)) m.1
  matches_within limit (suc n) (Terminal (Foreign number) ∷ symbols) at to real low (inr m) = absurd (cc m.0)
  matches_within limit (suc n) (Nonterminal part ∷ symbols) at to real low (inl m) = omega (arith, low, m)
  matches_within limit (suc n) (Nonterminal part ∷ symbols) at to real low (inr any) =
      any_real (to ≤ length tokens + 1) (λ s. MatchesIn (forms alone limit) (fits none_fits text tokens) n s at to) symbols (forms alone limit part) (forms_real limit part symbols real) (λ s real' m. matches_within limit n s at to real' low m) any

  viable_within : (limit to : ℕ) → IsViable text tokens limit to → to ≤ length tokens + 1
  viable_within limit to m = matches_within limit m.0 (Nonterminal (Disjunction 0) ∷ Terminal (Own sign.End) ∷ []) 0 to (tt, tt) (omega arith) m.1

  end_of : (at : ℕ) (found : Option Token) → slice_get tokens at ≡ found → sign_of_token text tokens at found ≡ sign.End → length tokens ≤ at
  end_of at (Some token) is end = absurd (no_end (token.kind) (bytes_of text token) end)
  end_of at None is end = last_of at (at == length tokens) refl end

  pub end_at : (at : ℕ) → sign_at text tokens at ≡ sign.End → length tokens ≤ at
  unfolding sign_at
  end_at at end = end_of at (slice_get tokens at) refl end

  feature_of_none : (at : ℕ) (found : Option Token) → slice_get tokens at ≡ found → sign_of_token text tokens at found ≡ sign.Feature → at < length tokens
  feature_of_none at (Some token) is end = slice_get_within tokens at token is
  feature_of_none at None is end = absurd (no_feature (at == length tokens) end)

  pub feature_within : (at : ℕ) → sign_at text tokens at ≡ sign.Feature → at < length tokens
  unfolding sign_at
  feature_within at is = feature_of_none at (slice_get tokens at) refl is

module _ (names : List (List ℕ)) (text : List ℕ) (tokens : List Token) where
  -- what is spelled has known features alone
  pub known_spelled : (part : Part) (at : ℕ) (expr : Expr) (end : ℕ) → Spells names text tokens part at expr end → AreKnown names text tokens at end
  known_spelled p a x z (one_conjunction n at end expr d) = known_spelled (Conjunction n) at expr end d
  known_spelled p a x z (disjunction n at middle end left right d is d') =
      known_join names text tokens at middle end (known_spelled (Disjunction n) at left middle d) (known_join names text tokens middle (middle + 1) end (known_other names text tokens middle (λ e. cc (is, e))) (known_spelled (Conjunction n) (middle + 1) right end d'))
  known_spelled p a x z (one_negation n at end expr d) = known_spelled (Negation n) at expr end d
  known_spelled p a x z (conjunction n at middle end left right d is d') =
      known_join names text tokens at middle end (known_spelled (Conjunction n) at left middle d) (known_join names text tokens middle (middle + 1) end (known_other names text tokens middle (λ e. cc (is, e))) (known_spelled (Negation n) (middle + 1) right end d'))
  known_spelled p a x z (negation n at end inner is d) = known_join names text tokens at (at + 1) end (known_other names text tokens at (λ e. cc (is, e))) (known_spelled (Negation (n + 1)) (at + 1) inner end d)
  known_spelled p a x z (truth n at is) = known_other names text tokens at (λ e. cc (is, e))
  known_spelled p a x z (falsehood n at is) = known_other names text tokens at (λ e. cc (is, e))
  known_spelled p a x z (feature n at i is known) = known_feature names text tokens at i known
  known_spelled p a x z (brackets n at end expr is d close) =
      known_join names text tokens at (at + 1) (end + 1) (known_other names text tokens at (λ e. cc (is, e))) (known_join names text tokens (at + 1) end (end + 1) (known_spelled (Disjunction (n + 1)) (at + 1) expr end d) (known_close names text tokens end close))

  -- a whole expression has no fault
  faultless : (most : ℕ) (expr : Expr) (end : ℕ) → sign_at text tokens end ≡ sign.End → IsViable text tokens most (end + 1) → Spells names text tokens (Disjunction 0) 0 expr end → (f : Fault) → IsFault names text tokens most f → IsFirst names text tokens 0 f → f ≡ fault.Memory
  faultless most expr end ends viable spelled (fault.Syntax at) is first =
      let last = end_at text tokens end ends in
      absurd ((is most (omega arith)).never (end + 1) (omega (arith, last, first.0)) viable)
  faultless most expr end ends viable spelled (fault.TooDeep at) is first =
      let last = end_at text tokens end ends in
      let within = viable_within text tokens (most + 1) (at + 1) (is.1 (most + 1) (omega arith)) in
      absurd (is.0.never (end + 1) (omega (arith, last, within)) viable)
  faultless most expr end ends viable spelled (fault.UnknownFeature at) is first =
      let last = end_at text tokens end ends in
      let within = feature_within text tokens at is.1 in
      absurd ((known_spelled (Disjunction 0) 0 expr end spelled).known at (omega arith) (omega (arith, last, within)) is.1 is.2)
  faultless most expr end ends viable spelled fault.Memory is first = refl

refused_memory : (names : List (List ℕ)) (text : List ℕ) (most : ℕ) (expr : Expr) (why : ExprRefused) → IsText names text most expr → Refusal names text most why → why ≡ refused.Memory
refused_memory names text most expr why t r =
    let same : r.tokens ≡ t.tokens = one_tokens text r.tokens t.tokens r.are_tokens t.are_tokens in
    let none : r.fault ≡ fault.Memory = faultless names text t.tokens most expr t.end t.ends t.viable t.spelled r.fault (rw same at r.is_fault) (rw same at r.is_first) in
    rw (r.placed, none) refl

pub refused_for_memory : (names : List (List ℕ)) (text : List ℕ) (most : ℕ) (expr : Expr) (why : ExprRefused) → IsText names text most expr → IsRefusedText names text most why → why ≡ refused.Memory
refused_for_memory names text most expr (refused.Syntax place) t r = refused_memory names text most expr (refused.Syntax place) t r
refused_for_memory names text most expr (refused.UnknownFeature place) t r = refused_memory names text most expr (refused.UnknownFeature place) t r
refused_for_memory names text most expr (refused.TooDeep place) t r = refused_memory names text most expr (refused.TooDeep place) t r
refused_for_memory names text most expr refused.Memory t r = refl
