-- What a configuration's list says of the bits that it is kept in.
use Rattle.std.proofs.Common.{◌≡◌, ◌≢◌, ℕ, zero, suc, ◌+◌, ◌*◌, ◌%◌, ◌/◌, ◌^◌, ◌<◌, ◌≤◌, ◌==◌, ◌||◌, ◌&&◌, ◌⊎◌, inl, inr, ap₂, nat_eq, nat_lt, bit_and, subst, lit<, Bool, true, false, if◌then◌else◌, List, [], ◌∷◌, ◌++◌, refl, sym, ◌∙◌, ap, arith}
use Rattle.std.specs.Int.{bit_at, w64}
use Rattle.std.specs.Int.RustNames.{bit_or}
use Rattle.std.proofs.lemmas.Nat.{or_lt}
use Rattle.std.proofs.Math.Nat.{mod-lt}
use Rattle.std.proofs.lemmas.List.{append-nil}
use Rattle.std.proofs.lemmas.List.Folds.{list_any-append}
use Rattle.std.proofs.lemmas.Bool.Decides.{eqb_tells, leb_tells, nat_tests}
use Rattle.std.proofs.lemmas.Nat.Bits.{shr_and_one, bit_at-zero, bit_at_set_same, bit_at_set_other}
use Rattle.feature_expr.specs.Config.{ones_below, has_feature, IsBetween, IsConfig}

or-false : (b : Bool) → (b || false) ≡ b
or-false true = refl
or-false false = refl

and-false : (b : Bool) → (b && false) ≡ false
and-false true = refl
and-false false = refl

and-true : (b : Bool) → (b && true) ≡ b
and-true true = refl
and-true false = refl

not_same : (k i : ℕ) → k ≢ i → (k == i) ≡ false
not_same k i apart = elim (eqb_tells k i) [ inl same ↦ absurd (apart same.1) | inr other ↦ other.0 ]

lt_or_ge : (a b : ℕ) → (a < b) ⊎ (b ≤ a)
lt_or_ge a b = elim (leb_tells b a) [ inl le ↦ inr le.1 | inr lt ↦ inl lt.1 ]

bit_with : (n k i : ℕ) → k < 64 → (bit_at (bit_or n (1 * 2 ^ k % 2 ^ 64)) i == 1) ≡ (i == k || bit_at n i == 1)
bit_with n k i h =
    elim (eqb_tells i k) [
      | inl same ↦ ap (λ b. b == 1) (ap (λ j. bit_at (bit_or n (1 * 2 ^ k % 2 ^ 64)) j) same.1 ∙ bit_at_set_same w64 n k h) ∙ sym (ap (λ b. b || bit_at n i == 1) same.0)
      | inr other ↦ ap (λ b. b == 1) (bit_at_set_other w64 n k h i other.1) ∙ sym (ap (λ b. b || bit_at n i == 1) other.0)
    ]

IsBetween-weaken : (low high : ℕ) (xs : List ℕ) → IsBetween low high xs → IsBetween low (suc high) xs
IsBetween-weaken low high [] h = tt
IsBetween-weaken low high (x ∷ xs) h = (h.0, omega arith, IsBetween-weaken (x + 1) high xs h.2)

IsBetween-push : (low high : ℕ) (xs : List ℕ) → low ≤ high → IsBetween low high xs → IsBetween low (suc high) (xs ++ high ∷ [])
IsBetween-push low high [] le h = (le, omega arith, tt)
IsBetween-push low high (x ∷ xs) le h = (h.0, omega arith, IsBetween-push (x + 1) high xs (omega arith) h.2)

IsBetween-push_if : (test : Bool) (high : ℕ) (xs : List ℕ) → IsBetween 0 high xs → IsBetween 0 (suc high) (xs ++ (if test then high ∷ [] else []))
IsBetween-push_if true high xs h = IsBetween-push 0 high xs (omega arith) h
IsBetween-push_if false high xs h = rw append-nil (IsBetween-weaken 0 high xs h)

IsBetween-ones_below : (k n : ℕ) → IsBetween 0 k (ones_below k n)
unfolding ones_below
IsBetween-ones_below zero n = tt
IsBetween-ones_below (suc k) n = IsBetween-push_if (bit_at n k == 1) k (ones_below k n) (IsBetween-ones_below k n)

pub IsConfig-ones_below : (n : ℕ) → IsConfig (ones_below 64 n)
IsConfig-ones_below n = record { between = IsBetween-ones_below 64 n }

has_feature-push_if : (test : Bool) (k : ℕ) (xs : List ℕ) (i : ℕ) → has_feature (xs ++ (if test then k ∷ [] else [])) i ≡ (has_feature xs i || (test && k == i))
has_feature-push_if true k xs i = list_any-append (λ x. x == i) xs (k ∷ []) ∙ ap (λ b. has_feature xs i || b) (or-false (k == i))
has_feature-push_if false k xs i = list_any-append (λ x. x == i) xs []

has_feature_above : (k n i : ℕ) → k ≤ i → has_feature (ones_below k n) i ≡ false
unfolding ones_below
has_feature_above zero n i h = refl
has_feature_above (suc k) n i h =
    let before = has_feature_above k n i (omega arith) in
    let apart : k ≢ i = omega arith in
    let other = not_same k i apart in
    let pushed = has_feature-push_if (bit_at n k == 1) k (ones_below k n) i in
    pushed ∙ ap₂ ◌||◌ before (ap (λ b. bit_at n k == 1 && b) other ∙ and-false (bit_at n k == 1))

pub has_feature-ones_below : (k n i : ℕ) → i < k → has_feature (ones_below k n) i ≡ (bit_at n i == 1)
unfolding ones_below
has_feature-ones_below zero n i h = absurd (omega arith)
has_feature-ones_below (suc k) n i h =
    let pushed = has_feature-push_if (bit_at n k == 1) k (ones_below k n) i in
    pushed ∙ elim (eqb_tells k i) [
      | inl same ↦ ap₂ ◌||◌ (has_feature_above k n i (omega arith)) (ap (λ b. bit_at n k == 1 && b) same.0 ∙ and-true (bit_at n k == 1) ∙ ap (λ j. bit_at n j == 1) same.1)
      | inr other ↦ ap₂ ◌||◌ (has_feature-ones_below k n i (omega arith)) (ap (λ b. bit_at n k == 1 && b) other.0 ∙ and-false (bit_at n k == 1)) ∙ or-false (bit_at n i == 1)
    ]

pub ones_below-zero : (k : ℕ) → ones_below k 0 ≡ []
unfolding ones_below
ones_below-zero zero = refl
ones_below-zero (suc k) = ap₂ ◌++◌ (ones_below-zero k) (ap (λ bit. if bit == 1 then k ∷ [] else []) (bit_at-zero k))

pub has_feature-with : (n k i : ℕ) → k < 64 → has_feature (ones_below 64 (bit_or n (1 * 2 ^ k % 2 ^ 64))) i ≡ (i == k || has_feature (ones_below 64 n) i)
has_feature-with n k i h =
    elim (lt_or_ge i 64) [
      | inl below ↦ has_feature-ones_below 64 _ i below ∙ bit_with n k i h ∙ ap (λ b. i == k || b) (sym (has_feature-ones_below 64 n i below))
      | inr above ↦ has_feature_above 64 _ i above ∙ sym (ap₂ ◌||◌ (let apart : i ≢ k = omega arith in not_same i k apart) (has_feature_above 64 n i above))
    ]

pub holds_below : (bits feature : ℕ) (c : List ℕ) → ones_below 64 bits ≡ c → feature < 64 → nat_eq (bit_and (bits / 2 ^ feature) 1) 1 ≡ has_feature c feature
holds_below bits feature c view below =
    ap (λ bit. nat_eq bit 1) (shr_and_one bits feature) ∙ sym (has_feature-ones_below 64 bits feature below) ∙ ap (λ list. has_feature list feature) view

not_below : (k : ℕ) → 64 ≤ k → nat_lt k 64 ≡ false
not_below k above = grind (arith, nat_tests)

pub holds_above : (bits feature : ℕ) (c : List ℕ) → ones_below 64 bits ≡ c → 64 ≤ feature → nat_lt feature 64 ≡ has_feature c feature
holds_above bits feature c view above = not_below feature above ∙ sym (has_feature_above 64 bits feature above) ∙ ap (λ list. has_feature list feature) view

pub IsConfig-view : (bits : ℕ) (c : List ℕ) → ones_below 64 bits ≡ c → IsConfig c
IsConfig-view bits c view = subst IsConfig view (IsConfig-ones_below bits)

pub holds_with : (bits k : ℕ) (c : List ℕ) → ones_below 64 bits ≡ c → k < 64 → (i : ℕ) → has_feature (ones_below 64 (bit_or bits (1 * 2 ^ k % 2 ^ 64))) i ≡ (i == k || has_feature c i)
holds_with bits k c view below i = has_feature-with bits k i below ∙ ap (λ list. i == k || has_feature list i) view

pub with_within : (bits k : ℕ) → bits < 2 ^ 64 → bit_or bits (1 * 2 ^ k % 2 ^ 64) < 2 ^ 64
with_within bits k within = or_lt 64 bits _ within (mod-lt (1 * 2 ^ k) (lit< tt))
