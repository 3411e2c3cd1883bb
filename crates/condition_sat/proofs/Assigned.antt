-- Features that are assigned, and those that no configuration has.
use Rattle.std.proofs.Common.{◌≡◌, ◌≢◌, ℕ, ◌+◌, ◌≤◌, ◌==◌, ◌||◌, Bool, true, false, not, List, [], ◌∷◌, refl, sym, ◌∙◌, ap, arith, inl, inr}
use mathlib.Core.Bool.{beq}
use Rattle.std.proofs.lemmas.Bool.Decides.{eqb_tells}
use Rattle.feature_expr.specs.Config.{IsConfig, IsBetween, has_feature}

pub beq_true : (a b : Bool) → beq a b ≡ true → a ≡ b
beq_true true true h = refl
beq_true false false h = refl
beq_true true false h = sym h
beq_true false true h = h

pub beq_false : (a b : Bool) → beq a b ≡ false → a ≡ not b
beq_false true true h = h
beq_false false false h = sym h
beq_false true false h = refl
beq_false false true h = refl

pub same_number : (i : ℕ) → (i == i) ≡ true
same_number i = elim (eqb_tells i i) [ inl same ↦ same.0 | inr other ↦ absurd (other.1 refl) ]

not_same : (k i : ℕ) → k ≢ i → (k == i) ≡ false
not_same k i apart = elim (eqb_tells k i) [ inl same ↦ absurd (apart same.1) | inr other ↦ other.0 ]

none_above : (low high i : ℕ) (xs : List ℕ) → IsBetween low high xs → high ≤ i → has_feature xs i ≡ false
none_above low high i [] within above = refl
none_above low high i (x ∷ xs) within above =
    let apart : x ≢ i = omega (arith, within.1) in
    ap (λ b. b || has_feature xs i) (not_same x i apart) ∙ none_above (x + 1) high i xs within.2 above

-- a feature at or above the limit holds in no configuration
pub lacks_above : (c : List ℕ) (i : ℕ) → IsConfig c → 64 ≤ i → has_feature c i ≡ false
lacks_above c i is above = none_above 0 64 i c is.between above
