-- Reading from left to right: chains grow link by link, and each token decides how it goes on. So tokens are at most one
-- expression.
use Rattle.std.proofs.Common.{◌≡◌, ◌≢◌, ℕ, ◌+◌, List, Some, refl}
use Rattle.feature_expr.specs.declared.expr.Expr.{Expr}
use Rattle.feature_expr.specs.declared.expr.Expr as e
use Rattle.feature_expr.specs.declared.parse.Sign.{Sign}
use Rattle.feature_expr.specs.declared.parse.Sign.TheVariants as sign
use Rattle.word_tokens.specs.declared.token.Token.{Token}
use Rattle.feature_expr.specs.ExprGrammar.{Part, Disjunction, MoreOr, Conjunction, MoreAnd, Negation, sign_at, feature_at, Spells, one_conjunction, disjunction, one_negation, conjunction, negation, truth, falsehood, feature, brackets}

-- a part that is read, or what stands behind the first token of one
pub data Stage : Type 0 where
  Whole : (part : Part) → Stage
  Begun : (sign : Sign) (nesting : ℕ) → Stage

-- what is read from a place on, behind what was read before, and where it ends
pub data Reads (names : List (List ℕ)) (text : List ℕ) (tokens : List Token) : Stage → Expr → ℕ → Expr → ℕ → Type 0 where
  first_or : (n at middle end : ℕ) (before first expr : Expr) → Reads names text tokens (Whole (Conjunction n)) before at first middle → Reads names text tokens (Whole (MoreOr n)) first middle expr end → Reads names text tokens (Whole (Disjunction n)) before at expr end
  no_or : (n at : ℕ) (before : Expr) → sign_at text tokens at ≢ sign.Or → Reads names text tokens (Whole (MoreOr n)) before at before at
  next_or : (n at middle end : ℕ) (before right expr : Expr) → sign_at text tokens at ≡ sign.Or → Reads names text tokens (Whole (Conjunction n)) before (at + 1) right middle → Reads names text tokens (Whole (MoreOr n)) (e.Or before right) middle expr end → Reads names text tokens (Whole (MoreOr n)) before at expr end
  first_and : (n at middle end : ℕ) (before first expr : Expr) → Reads names text tokens (Whole (Negation n)) before at first middle → Reads names text tokens (Whole (MoreAnd n)) first middle expr end → Reads names text tokens (Whole (Conjunction n)) before at expr end
  no_and : (n at : ℕ) (before : Expr) → sign_at text tokens at ≢ sign.And → Reads names text tokens (Whole (MoreAnd n)) before at before at
  next_and : (n at middle end : ℕ) (before right expr : Expr) → sign_at text tokens at ≡ sign.And → Reads names text tokens (Whole (Negation n)) before (at + 1) right middle → Reads names text tokens (Whole (MoreAnd n)) (e.And before right) middle expr end → Reads names text tokens (Whole (MoreAnd n)) before at expr end
  begins : (n at end : ℕ) (before expr : Expr) (s : Sign) → sign_at text tokens at ≡ s → Reads names text tokens (Begun s n) before at expr end → Reads names text tokens (Whole (Negation n)) before at expr end
  behind_not : (n at end : ℕ) (before inner : Expr) → Reads names text tokens (Whole (Negation (n + 1))) before (at + 1) inner end → Reads names text tokens (Begun sign.Not n) before at (e.Not inner) end
  behind_true : (n at : ℕ) (before : Expr) → Reads names text tokens (Begun sign.True n) before at e.True (at + 1)
  behind_false : (n at : ℕ) (before : Expr) → Reads names text tokens (Begun sign.False n) before at e.False (at + 1)
  behind_feature : (n at i : ℕ) (before : Expr) → feature_at names text tokens at ≡ Some i → Reads names text tokens (Begun sign.Feature n) before at (e.Feature i) (at + 1)
  behind_open : (n at end : ℕ) (before expr : Expr) → Reads names text tokens (Whole (Disjunction (n + 1))) before (at + 1) expr end → Reads names text tokens (Begun sign.Open n) before at expr (end + 1)

module _ (names : List (List ℕ)) (text : List ℕ) (tokens : List Token) where
  one_reading : (stage : Stage) (before : Expr) (at : ℕ) (x : Expr) (m : ℕ) (y : Expr) (k : ℕ) → Reads names text tokens stage before at x m → Reads names text tokens stage before at y k → (x ≡ y) × (m ≡ k)
  one_reading stage b a x m y k (first_or n at middle end before first expr r s) (first_or n' at' middle' end' before' first' expr' r' s') =
      let a = one_reading (Whole (Conjunction n)) before at first middle first' middle' r r' in
      one_reading (Whole (MoreOr n)) first middle x m y k s (rw (a.0, a.1) s')
  one_reading stage b a x m y k (no_or n at before other) (no_or n' at' before' other') = (refl, refl)
  one_reading stage b a x m y k (no_or n at before other) (next_or n' at' middle' end' before' right' expr' is' r' s') = absurd (other is')
  one_reading stage b a x m y k (next_or n at middle end before right expr is r s) (no_or n' at' before' other') = absurd (other' is)
  one_reading stage b a x m y k (next_or n at middle end before right expr is r s) (next_or n' at' middle' end' before' right' expr' is' r' s') =
      let a = one_reading (Whole (Conjunction n)) before (at + 1) right middle right' middle' r r' in
      one_reading (Whole (MoreOr n)) (e.Or before right) middle x m y k s (rw (a.0, a.1) s')
  one_reading stage b a x m y k (first_and n at middle end before first expr r s) (first_and n' at' middle' end' before' first' expr' r' s') =
      let a = one_reading (Whole (Negation n)) before at first middle first' middle' r r' in
      one_reading (Whole (MoreAnd n)) first middle x m y k s (rw (a.0, a.1) s')
  one_reading stage b a x m y k (no_and n at before other) (no_and n' at' before' other') = (refl, refl)
  one_reading stage b a x m y k (no_and n at before other) (next_and n' at' middle' end' before' right' expr' is' r' s') = absurd (other is')
  one_reading stage b a x m y k (next_and n at middle end before right expr is r s) (no_and n' at' before' other') = absurd (other' is)
  one_reading stage b a x m y k (next_and n at middle end before right expr is r s) (next_and n' at' middle' end' before' right' expr' is' r' s') =
      let a = one_reading (Whole (Negation n)) before (at + 1) right middle right' middle' r r' in
      one_reading (Whole (MoreAnd n)) (e.And before right) middle x m y k s (rw (a.0, a.1) s')
  one_reading stage b a x m y k (begins n at end before expr s is r) (begins n' at' end' before' expr' s' is' r') =
      let same : s ≡ s' = cc (is, is') in
      one_reading (Begun s n) before at x m y k r (rw same r')
  one_reading stage b a x m y k (behind_not n at end before inner r) (behind_not n' at' end' before' inner' r') =
      let a = one_reading (Whole (Negation (n + 1))) before (at + 1) inner end inner' end' r r' in
      rw (a.0, a.1) (refl, refl)
  one_reading stage b a x m y k (behind_true n at before) (behind_true n' at' before') = (refl, refl)
  one_reading stage b a x m y k (behind_false n at before) (behind_false n' at' before') = (refl, refl)
  one_reading stage b a x m y k (behind_feature n at i before is) (behind_feature n' at' j before' is') =
      let same : i ≡ j = cc (is, is') in
      rw same (refl, refl)
  one_reading stage b a x m y k (behind_open n at end before expr r) (behind_open n' at' end' before' expr' r') =
      let a = one_reading (Whole (Disjunction (n + 1))) before (at + 1) expr end expr' end' r r' in
      rw (a.0, a.1) (refl, refl)

  -- what is spelled is read on from where it ends
  abbrev pub Onward : Part → ℕ → Expr → ℕ → Type 0
  Onward (Disjunction n) at expr end = (before y : Expr) (to : ℕ) → sign_at text tokens end ≢ sign.And → Reads names text tokens (Whole (MoreOr n)) expr end y to → Reads names text tokens (Whole (Disjunction n)) before at y to
  Onward (Conjunction n) at expr end = (before y : Expr) (to : ℕ) → Reads names text tokens (Whole (MoreAnd n)) expr end y to → Reads names text tokens (Whole (Conjunction n)) before at y to
  Onward (Negation n) at expr end = (before : Expr) → Reads names text tokens (Whole (Negation n)) before at expr end
  Onward _ at expr end = Unit {0}

  pub onward : (part : Part) (at : ℕ) (expr : Expr) (end : ℕ) → Spells names text tokens part at expr end → Onward part at expr end
  onward part a x z (one_conjunction n at end expr d) =
      λ before y to other more. first_or n at end to before expr y (onward (Conjunction n) at expr end d before expr end (no_and n end expr other)) more
  onward part a x z (disjunction n at middle end left right d is d') =
      λ before y to other more. onward (Disjunction n) at left middle d before y to (λ e. cc (is, e)) (next_or n middle end to left right y is (onward (Conjunction n) (middle + 1) right end d' left right end (no_and n end right other)) more)
  onward part a x z (one_negation n at end expr d) =
      λ before y to more. first_and n at end to before expr y (onward (Negation n) at expr end d before) more
  onward part a x z (conjunction n at middle end left right d is d') =
      λ before y to more. onward (Conjunction n) at left middle d before y to (next_and n middle end to left right y is (onward (Negation n) (middle + 1) right end d' left) more)
  onward part a x z (negation n at end inner is d) = λ before. begins n at end before (e.Not inner) sign.Not is (behind_not n at end before inner (onward (Negation (n + 1)) (at + 1) inner end d before))
  onward part a x z (truth n at is) = λ before. begins n at (at + 1) before e.True sign.True is (behind_true n at before)
  onward part a x z (falsehood n at is) = λ before. begins n at (at + 1) before e.False sign.False is (behind_false n at before)
  onward part a x z (feature n at i is known) = λ before. begins n at (at + 1) before (e.Feature i) sign.Feature is (behind_feature n at i before known)
  onward part a x z (brackets n at end expr is d close) =
      λ before. begins n at (end + 1) before expr sign.Open is (behind_open n at end before expr (onward (Disjunction (n + 1)) (at + 1) expr end d before expr end (λ e. cc (close, e)) (no_or (n + 1) end expr (λ e. cc (close, e)))))

  -- up to a place where no link follows, tokens spell at most one expression
  pub one_spelling : (n at : ℕ) (x : Expr) (m : ℕ) (y : Expr) (k : ℕ) → Spells names text tokens (Disjunction n) at x m → Spells names text tokens (Disjunction n) at y k → sign_at text tokens m ≢ sign.Or → sign_at text tokens m ≢ sign.And → sign_at text tokens k ≢ sign.Or → sign_at text tokens k ≢ sign.And → (x ≡ y) × (m ≡ k)
  one_spelling n at x m y k d d' or and or' and' =
      one_reading (Whole (Disjunction n)) x at x m y k (onward (Disjunction n) at x m d x x m and (no_or n m x or)) (onward (Disjunction n) at y k d' x y k and' (no_or n k y or'))
