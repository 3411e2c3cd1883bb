-- A search that splits on one feature.
use Rattle.std.proofs.Common.{◌≡◌, ◌⊎◌, ℕ, ◌<◌, ◌==◌, ◌||◌, Bool, true, false, true≢false, List, Option, Some, None, refl, sym, ◌∙◌, ap, inl, inr}
use Rattle.std.specs.Prelude.{IfNone}
use Rattle.std.proofs.lemmas.Bool.Decides.{eqb_tells}
use Rattle.feature_expr.specs.Config.{has_feature}
use Rattle.condition_sat.specs.declared.search.Assignment.{Assignment}
use Rattle.condition_sat.specs.Search.{Extends, IsUnassigned}
use Rattle.condition_sat.proofs.Assigned.{same_number}
use Rattle.condition_sat.proofs.Counting.{unassigned_below, fewer}

or_keeps : (a b : Bool) → b ≡ true → (a || b) ≡ true
or_keeps true b h = refl
or_keeps false b h = h

both-false : (a b : Bool) → a ≡ false → b ≡ false → (a || b) ≡ false
both-false a b ha hb = ap (λ x. x || b) ha ∙ hb

kept_left : (a b c d : Bool) → (a ≡ true → c ≡ true) → (b ≡ true → d ≡ true) → (a || b) ≡ true → (c || d) ≡ true
kept_left true b c d left right h = ap (λ x. x || d) (left refl)
kept_left false b c d left right h = or_keeps c d (right h)

-- the feature is assigned to hold
pub record IsHolding (p q : Assignment) (f : ℕ) : Type 0 where
  pub held : (i : ℕ) → has_feature q.held i ≡ (i == f || has_feature p.held i)
  pub lacking : q.lacking ≡ p.lacking

-- the feature is assigned not to hold
pub record IsWithout (p q : Assignment) (f : ℕ) : Type 0 where
  pub held : q.held ≡ p.held
  pub lacking : (i : ℕ) → has_feature q.lacking i ≡ (i == f || has_feature p.lacking i)

pub fewer_holding : (p q : Assignment) (f : ℕ) → IsUnassigned p f → IsHolding p q f → unassigned_below q 64 < unassigned_below p 64
fewer_holding p q f «open» now =
    fewer p q f 64 «open».below
    (λ i. kept_left _ _ _ _ (λ h. now.held i ∙ or_keeps _ _ h) (λ h. ap (λ l. has_feature l i) now.lacking ∙ h))
    (both-false _ _ «open».not_held «open».not_lacking)
    (ap (λ x. x || has_feature q.lacking f) (now.held f ∙ ap (λ x. x || has_feature p.held f) (same_number f)))

pub fewer_without : (p q : Assignment) (f : ℕ) → IsUnassigned p f → IsWithout p q f → unassigned_below q 64 < unassigned_below p 64
fewer_without p q f «open» now =
    fewer p q f 64 «open».below
    (λ i. kept_left _ _ _ _ (λ h. ap (λ l. has_feature l i) now.held ∙ h) (λ h. now.lacking i ∙ or_keeps _ _ h))
    (both-false _ _ «open».not_held «open».not_lacking)
    (or_keeps _ _ (now.lacking f ∙ ap (λ x. x || has_feature p.lacking f) (same_number f)))

either : (a b : Bool) → (a || b) ≡ true → (a ≡ true) ⊎ (b ≡ true)
either true b h = inl refl
either false b h = inr h

number_is : (i f : ℕ) → (i == f) ≡ true → i ≡ f
number_is i f h = elim (eqb_tells i f) [ inl same ↦ same.1 | inr other ↦ absurd (true≢false (sym h ∙ other.0)) ]

extends_holding : (p q : Assignment) (f : ℕ) (c : List ℕ) → IsHolding p q f → Extends c p → has_feature c f ≡ true → Extends c q
extends_holding p q f c now extends has = record {
  config = extends.config;
  held = λ i h. elim (either _ _ (sym (now.held i) ∙ h)) [
    | inl same ↦ ap (λ j. has_feature c j) (number_is i f same) ∙ has
    | inr before ↦ extends.held i before
  ];
  lacking = λ i h. extends.lacking i (ap (λ l. has_feature l i) (sym now.lacking) ∙ h);
}

extends_without : (p q : Assignment) (f : ℕ) (c : List ℕ) → IsWithout p q f → Extends c p → has_feature c f ≡ false → Extends c q
extends_without p q f c now extends lacks = record {
  config = extends.config;
  held = λ i h. extends.held i (ap (λ l. has_feature l i) (sym now.held) ∙ h);
  lacking = λ i h. elim (either _ _ (sym (now.lacking i) ∙ h)) [
    | inl same ↦ ap (λ j. has_feature c j) (number_is i f same) ∙ lacks
    | inr before ↦ extends.lacking i before
  ];
}

true_or_false : (b : Bool) → (b ≡ true) ⊎ (b ≡ false)
true_or_false true = inl refl
true_or_false false = inr refl

unmet_both_ways : (met : List ℕ → Bool) (p holding_it without_it : Assignment) (f : ℕ) → IsHolding p holding_it f → IsWithout p without_it f → ((c : List ℕ) → Extends c holding_it → met c ≡ false) → ((c : List ℕ) → Extends c without_it → met c ≡ false) → (c : List ℕ) → Extends c p → met c ≡ false
unmet_both_ways met p holding_it without_it f holding without unmet_yes unmet_no c extends =
    elim (true_or_false (has_feature c f)) [
      | inl has ↦ unmet_yes c (extends_holding p holding_it f c holding extends has)
      | inr lacks ↦ unmet_no c (extends_without p without_it f c without extends lacks)
    ]

-- what the two halves of a split find, the whole finds
pub none_of_both : (met : List ℕ → Bool) (p holding_it without_it : Assignment) (f : ℕ) (found : Option (List ℕ)) → IsHolding p holding_it f → IsWithout p without_it f → ((c : List ℕ) → Extends c holding_it → met c ≡ false) → IfNone found ((c : List ℕ) → Extends c without_it → met c ≡ false) → IfNone found ((c : List ℕ) → Extends c p → met c ≡ false)
none_of_both met p holding_it without_it f None holding without unmet_yes unmet_no = unmet_both_ways met p holding_it without_it f holding without unmet_yes unmet_no
none_of_both met p holding_it without_it f (Some c) holding without unmet_yes unmet_no = unmet_no
