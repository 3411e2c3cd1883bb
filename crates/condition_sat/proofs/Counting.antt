-- The number of features that aren't assigned falls as one is assigned.
use Rattle.std.proofs.Common.{◌≡◌, ℕ, zero, suc, ◌+◌, ◌<◌, ◌≤◌, ◌||◌, Bool, true, false, if◌then◌else◌, refl, sym, ◌∙◌, ap, inl, inr, arith}
use Rattle.std.proofs.lemmas.Bool.Decides.{eqb_tells}
use Rattle.feature_expr.specs.Config.{has_feature}
use Rattle.condition_sat.specs.declared.search.Assignment.{Assignment}

-- whether a feature is assigned
abbrev pub assigned : Assignment → ℕ → Bool
assigned assignment i = has_feature assignment.held i || has_feature assignment.lacking i

-- the number of features below k that aren't assigned
unfoldable pub unassigned_below : Assignment → ℕ → ℕ
unassigned_below assignment zero = 0
unassigned_below assignment (suc k) = unassigned_below assignment k + (if assigned assignment k then 0 else 1)

one_less : (a b : Bool) → (a ≡ true → b ≡ true) → (if b then 0 else 1) ≤ (if a then 0 else 1)
one_less true b keeps = rw (keeps refl) omega arith
one_less false true keeps = omega arith
one_less false false keeps = omega arith

never_more : (p q : Assignment) (k : ℕ) → ((i : ℕ) → assigned p i ≡ true → assigned q i ≡ true) → unassigned_below q k ≤ unassigned_below p k
unfolding unassigned_below
never_more p q zero keeps = omega arith
never_more p q (suc k) keeps = omega (arith, never_more p q k keeps, one_less (assigned p k) (assigned q k) (keeps k))

pub fewer : (p q : Assignment) (f k : ℕ) → f < k → ((i : ℕ) → assigned p i ≡ true → assigned q i ≡ true) → assigned p f ≡ false → assigned q f ≡ true → unassigned_below q k < unassigned_below p k
unfolding unassigned_below
fewer p q f zero below keeps before after = absurd (omega arith)
fewer p q f (suc k) below keeps before after =
    elim (eqb_tells f k) [
      | inl same ↦
          let last_p : assigned p k ≡ false = ap (λ i. assigned p i) (sym same.1) ∙ before in
          let last_q : assigned q k ≡ true = ap (λ i. assigned q i) (sym same.1) ∙ after in
          rw (last_p, last_q) (omega (arith, never_more p q k keeps))
      | inr other ↦ omega (arith, fewer p q f k (omega (arith, other.1)) keeps before after, one_less (assigned p k) (assigned q k) (keeps k))
    ]
