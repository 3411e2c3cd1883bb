-- Which features are known, from place to place.
use Rattle.std.proofs.Common.{◌≡◌, ◌≢◌, ℕ, ◌+◌, ◌<◌, ◌≤◌, Bool, true, false, nat_lt, List, Some, None, refl, arith}
use Rattle.std.proofs.lemmas.Bool.Decides.{nat_tests}
use Rattle.feature_expr.specs.declared.parse.Fault.{Fault}
use Rattle.feature_expr.specs.declared.parse.Fault.TheVariants as fault
use Rattle.feature_expr.specs.declared.parse.Sign.TheVariants as sign
use Rattle.word_tokens.specs.declared.token.Token.{Token}
use Rattle.feature_expr.specs.ExprGrammar.{sign_at, feature_at, AreKnown, IsFirst}

below_true : (k n : ℕ) → nat_lt k n ≡ true → k < n
below_true k n h = grind (arith, nat_tests)

below_false : (k n : ℕ) → nat_lt k n ≡ false → n ≤ k
below_false k n h = grind (arith, nat_tests)

module _ (names : List (List ℕ)) (text : List ℕ) (tokens : List Token) where
  pub known_none : (at : ℕ) → AreKnown names text tokens at at
  known_none at = record { known = λ k low high feature none. absurd (omega arith) }

  joined_at : (at middle to k : ℕ) → AreKnown names text tokens at middle → AreKnown names text tokens middle to → at ≤ k → k < to → sign_at text tokens k ≡ sign.Feature → feature_at names text tokens k ≡ None → (before : Bool) → nat_lt k middle ≡ before → ⊥
  joined_at at middle to k left right low high feature none true h = left.known k low (below_true k middle h) feature none
  joined_at at middle to k left right low high feature none false h = right.known k (below_false k middle h) high feature none

  pub known_join : (at middle to : ℕ) → AreKnown names text tokens at middle → AreKnown names text tokens middle to → AreKnown names text tokens at to
  known_join at middle to left right = record { known = λ k low high feature none. joined_at at middle to k left right low high feature none (nat_lt k middle) refl }

  pub known_other : (at : ℕ) → sign_at text tokens at ≢ sign.Feature → AreKnown names text tokens at (at + 1)
  known_other at other = record { known = λ k low high feature none. let here : k ≡ at = omega arith in other (rw here at feature) }

  pub known_close : (at : ℕ) → sign_at text tokens at ≡ sign.Close → AreKnown names text tokens at (at + 1)
  known_close at close = known_other at (λ e. cc (close, e))

  pub known_feature : (at i : ℕ) → feature_at names text tokens at ≡ Some i → AreKnown names text tokens at (at + 1)
  known_feature at i is = record { known = λ k low high feature none. let here : k ≡ at = omega arith in absurd (cc (is, rw here at none)) }

  pub first_join : (at middle : ℕ) (f : Fault) → AreKnown names text tokens at middle → IsFirst names text tokens middle f → IsFirst names text tokens at f
  first_join at middle (fault.Syntax place) left right = (right.0, known_join at middle place left right.1)
  first_join at middle (fault.TooDeep place) left right = known_join at middle place left right
  first_join at middle (fault.UnknownFeature place) left right = known_join at middle place left right
  first_join at middle fault.Memory left right = tt
