-- What is found for one expression alone.
use Rattle.std.proofs.Common.{◌≡◌, ℕ, ◌||◌, Bool, true, false, true≢false, List, [], ◌∷◌, Option, Some, None, refl, sym, ◌∙◌, ap}
use Rattle.std.specs.Prelude.{IfSome}
use Rattle.feature_expr.specs.declared.expr.Expr.{Expr}
use Rattle.feature_expr.specs.Config.{has_feature}
use Rattle.feature_expr.specs.Expressions.{mentions}
use Rattle.condition_sat.specs.declared.asked.Asked.{Asked}
use Rattle.condition_sat.specs.Admitted.{IsAdmitted}
use Rattle.condition_sat.specs.Asked.{all_met}
use Rattle.condition_sat.specs.Samples.{IsMeeting, IsSample}

or-false : (b : Bool) → (b || false) ≡ b
or-false true = refl
or-false false = refl

-- where one expression is asked about, only the model and it have features
pub occurring_alone : (model x : Expr) (one : Asked) (found : Option (List ℕ)) → one.expr.now ≡ x → IfSome found (λ c. IsMeeting model (one ∷ []) c) → IfSome found (λ c. (i : ℕ) → has_feature c i ≡ true → (mentions i model || mentions i x) ≡ true)
occurring_alone model x one None is_x met = tt
occurring_alone model x one (Some c) is_x met = λ i has.
    ap (λ y. mentions i model || mentions i y) (sym is_x)
    ∙ ap (λ b. mentions i model || b) (sym (or-false (mentions i one.expr.now)))
    ∙ met.occurring i has

-- where nothing is asked, what is found is of the model's features
pub is_sample : (model : Expr) (c : List ℕ) → IsMeeting model [] c → IsSample model c
is_sample model c met = record { admitted = met.admitted; occurring = λ i has. sym (or-false (mentions i model)) ∙ met.occurring i has }

-- and where nothing is found, none is admitted
pub none_at_all : (model : Expr) → ((c : List ℕ) → IsAdmitted model c → all_met c [] ≡ false) → (c : List ℕ) → IsAdmitted model c → ⊥
none_at_all model unmet c admitted = true≢false (unmet c admitted)
