-- A condition that is settled, and the constant `true`.
use Rattle.std.proofs.Common.{◌≡◌, ℕ, ◌+◌, ◌≤◌, ◌&&◌, ◌||◌, Bool, true, false, not, if◌then◌else◌, List, refl, sym, ◌∙◌, ap, subst, rules, arith, ◌⊎◌, inl, inr}
use Rattle.feature_expr.specs.declared.expr.Expr.{Expr, out-Expr}
use Rattle.feature_expr.specs.declared.expr.Expr as e
use Rattle.feature_expr.specs.declared.expr.Expr.TheOpen.{Expr-F}
use Rattle.feature_expr.specs.declared.expr.Expr.TheFolds.{fold_out-Expr}
use Rattle.feature_expr.specs.Expressions.{mentions, weight_of, weight_step}
use Rattle.feature_expr.specs.Satisfaction.{satisfies}
use Rattle.condition_sat.specs.Admitted.{IsAdmitted}
use Rattle.condition_sat.specs.Possible.{can_hold, can_meet, always_holds, is_true, settled, is_settled}
use Rattle.condition_sat.proofs.PossibleLaws.{true_or_false, not_both, each_fails, some_admitted_same, none_admitted, or_left, or_right, both}

step_pos : (x : Expr-F ℕ) → 1 ≤ weight_step x
step_pos Expr-F.True = search rules
step_pos Expr-F.False = search rules
step_pos (Expr-F.Feature i) = search rules
step_pos (Expr-F.Not inner) = omega arith
step_pos (Expr-F.And left right) = omega arith
step_pos (Expr-F.Or left right) = omega arith

and-true : (b : Bool) → (b && true) ≡ b
and-true true = refl
and-true false = refl

pub weight_pos : (cond : Expr) → 1 ≤ weight_of cond
weight_pos cond = subst (λ n. 1 ≤ n) (sym (fold_out-Expr ℕ weight_step cond)) (step_pos _)

satisfies_true : (c : List ℕ) → satisfies c e.True ≡ true
satisfies_true c = search (rules, e.the_lemmas)

true_is_true : is_true e.True ≡ true
true_is_true = search (rules, e.the_lemmas)

weight_true : weight_of e.True ≡ 1
weight_true = search (rules, e.the_lemmas)

not_true : (b : Bool) → not b ≡ true → b ≡ false
not_true true h = sym h
not_true false h = refl

not_false : (b : Bool) → not b ≡ false → b ≡ true
not_false true h = refl
not_false false h = sym h

settled_always : (model cond : Expr) → always_holds model cond ≡ true → settled model cond ≡ e.True
settled_always model cond h = ap (λ (b : Bool). if b then e.True else cond) h

settled_else : (model cond : Expr) → always_holds model cond ≡ false → settled model cond ≡ cond
settled_else model cond h = ap (λ (b : Bool). if b then e.True else cond) h

pub always_here : (model cond : Expr) → always_holds model cond ≡ true → (c : List ℕ) → IsAdmitted model c → satisfies c cond ≡ true
always_here model cond h c admitted = not_false _ (each_fails model (λ d. not (satisfies d cond)) (not_true _ h) c admitted)

-- it holds where the condition did
pub settled_holds : (model cond : Expr) (c : List ℕ) → IsAdmitted model c → satisfies c (settled model cond) ≡ satisfies c cond
settled_holds model cond c admitted =
    elim (true_or_false (always_holds model cond)) [
      | inl always ↦ ap (satisfies c) (settled_always model cond always) ∙ satisfies_true c ∙ sym (always_here model cond always c admitted)
      | inr sometimes ↦ ap (satisfies c) (settled_else model cond sometimes)
    ]

pub settled_weight : (model cond : Expr) → weight_of (settled model cond) ≤ weight_of cond
settled_weight model cond =
    elim (true_or_false (always_holds model cond)) [
      | inl always ↦ subst (λ n. n ≤ weight_of cond) (sym (ap weight_of (settled_always model cond always) ∙ weight_true)) (weight_pos cond)
      | inr sometimes ↦ subst (λ n. n ≤ weight_of cond) (sym (ap weight_of (settled_else model cond sometimes))) (search rules)
    ]

mentions_true : (i : ℕ) → mentions i e.True ≡ false
mentions_true i = search (rules, e.the_lemmas)

-- no other feature occurs in it
pub settled_known : (model cond : Expr) (i : ℕ) → mentions i (settled model cond) ≡ true → mentions i cond ≡ true
settled_known model cond i h =
    elim (true_or_false (always_holds model cond)) [
      | inl always ↦ absurd (not_both (mentions i e.True) (sym (ap (mentions i) (settled_always model cond always)) ∙ h) (mentions_true i))
      | inr sometimes ↦ sym (ap (mentions i) (settled_else model cond sometimes)) ∙ h
    ]

-- conditions that agree in all admitted configurations can hold alike
pub can_hold_same : (model one other : Expr) → ((c : List ℕ) → IsAdmitted model c → satisfies c one ≡ satisfies c other) → can_hold model one ≡ can_hold model other
can_hold_same model one other same = some_admitted_same model (λ c. satisfies c one) (λ c. satisfies c other) same

pub can_hold_settled : (model cond : Expr) → can_hold model (settled model cond) ≡ can_hold model cond
can_hold_settled model cond = can_hold_same model _ _ (settled_holds model cond)

settled_so : (model cond : Expr) → (always_holds model cond ≡ true) ⊎ (always_holds model cond ≡ false) → (not (always_holds model (settled model cond)) || is_true (settled model cond)) ≡ true
settled_so model cond (inl always) = ap (λ x. not (always_holds model x) || is_true x) (settled_always model cond always) ∙ or_right _ _ true_is_true
settled_so model cond (inr sometimes) = ap (λ x. not (always_holds model x) || is_true x) (settled_else model cond sometimes) ∙ or_left _ _ (ap not sometimes)

pub settled_is : (model cond : Expr) → can_hold model cond ≡ true → is_settled model (settled model cond) ≡ true
settled_is model cond holds = both _ _ (can_hold_settled model cond ∙ holds) (settled_so model cond (true_or_false (always_holds model cond)))

-- the constant `true` always holds, and together with whatever can hold
pub always_true : (model cond : Expr) → cond ≡ e.True → true ≡ always_holds model cond
always_true model cond is = sym (ap not (none_admitted model (λ c. not (satisfies c cond)) (λ c admitted. ap not (ap (satisfies c) is ∙ satisfies_true c))))

pub meets_true : (model cond column : Expr) → column ≡ e.True → can_hold model cond ≡ true → true ≡ can_meet model cond column
meets_true model cond column is holds =
    sym (some_admitted_same model (λ c. satisfies c cond && satisfies c column) (λ c. satisfies c cond) (λ c admitted. ap (λ b. satisfies c cond && b) (ap (satisfies c) is ∙ satisfies_true c) ∙ and-true (satisfies c cond)) ∙ holds)
