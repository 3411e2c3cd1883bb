use Rattle.std.proofs.Common.{◌≡◌, Bool, true, false, ◌&&◌, ◌||◌, ℕ, List, refl, sym, ◌∙◌, ap}
use Rattle.feature_expr.specs.Satisfaction.{satisfies}
use Rattle.feature_expr.specs.declared.expr.Expr.{Expr}
use Rattle.feature_expr.specs.declared.expr.Expr as e
use Rattle.simple_conditions.proofs.NodeLaws.{satisfies-And, satisfies-Or}
use Rattle.simple_conditions.proofs.known.is_link.Goals as goal

either_false : (a b : Bool) → (a ≡ false → (a && b) ≡ false) × (b ≡ false → (a && b) ≡ false)
either_false true b = (λ h. absurd (cc h), λ h. h)
either_false false b = (λ h. refl, λ h. refl)

either_true : (a b : Bool) → (a ≡ true → (a || b) ≡ true) × (b ≡ true → (a || b) ≡ true)
either_true true b = (λ h. refl, λ h. refl)
either_true false b = (λ h. absurd (cc h), λ h. h)

left_of_and : (k : List ℕ) (at l r : Expr) (value : Bool) → at ≡ e.And l r → value ≡ false → satisfies k l ≡ value → satisfies k at ≡ value
left_of_and k at l r value is fails h = ap (satisfies k) is ∙ satisfies-And k l r ∙ (either_false (satisfies k l) (satisfies k r)).0 (h ∙ fails) ∙ sym fails

right_of_and : (k : List ℕ) (at l r : Expr) (value : Bool) → at ≡ e.And l r → value ≡ false → satisfies k r ≡ value → satisfies k at ≡ value
right_of_and k at l r value is fails h = ap (satisfies k) is ∙ satisfies-And k l r ∙ (either_false (satisfies k l) (satisfies k r)).1 (h ∙ fails) ∙ sym fails

left_of_or : (k : List ℕ) (at l r : Expr) (value : Bool) → at ≡ e.Or l r → value ≡ true → satisfies k l ≡ value → satisfies k at ≡ value
left_of_or k at l r value is holds h = ap (satisfies k) is ∙ satisfies-Or k l r ∙ (either_true (satisfies k l) (satisfies k r)).0 (h ∙ holds) ∙ sym holds

right_of_or : (k : List ℕ) (at l r : Expr) (value : Bool) → at ≡ e.Or l r → value ≡ true → satisfies k r ≡ value → satisfies k at ≡ value
right_of_or k at l r value is holds h = ap (satisfies k) is ∙ satisfies-Or k l r ∙ (either_true (satisfies k l) (satisfies k r)).1 (h ∙ holds) ∙ sym holds

pub returns-then-value : goal.returns-then-value
returns-then-value c = λ same k h. c.loop-at.invariant k (ap (satisfies k) (sym (c.is_same_expr.ensures.yes same)) ∙ h)

pub returns-then-is_same_expr : goal.returns-then-is_same_expr
returns-then-is_same_expr c = λ same k h. c.loop-at.invariant k (right_of_and k c.loop-at.at.now c.in-And.left c.get.result.now c.args.value (cc) c.if-value.false (ap (satisfies k) (sym (c.if-is_same_expr.ensures.yes refl)) ∙ h))

pub loop-at-preserved-in-And : goal.loop-at-preserved-in-And
loop-at-preserved-in-And c = λ k h. c.loop-at.invariant k (left_of_and k c.loop-at.at.now c.get-at.result.now c.get.result.now c.args.value (cc) c.if-value.false h)

pub returns-then-not-value : goal.returns-then-not-value
returns-then-not-value c = λ same k h. c.loop-at.invariant k (ap (satisfies k) (sym (c.is_same_expr-then-not-value.ensures.yes same)) ∙ h)

pub returns-then-is_same_expr-2 : goal.returns-then-is_same_expr-2
returns-then-is_same_expr-2 c = λ same k h. c.loop-at.invariant k (right_of_or k c.loop-at.at.now c.in-Or.left c.get-in-Or.result.now c.args.value (cc) c.if-not-value.false (ap (satisfies k) (sym (c.if-is_same_expr-2.ensures.yes refl)) ∙ h))

pub loop-at-preserved : goal.loop-at-preserved
loop-at-preserved c = λ k h. c.loop-at.invariant k (left_of_or k c.loop-at.at.now c.get-at-in-Or.result.now c.get-in-Or.result.now c.args.value (cc) c.if-not-value.false h)

pub returns-in_default : goal.returns-in_default
returns-in_default c = λ same k h. c.loop-at.invariant k (ap (satisfies k) (sym (c.is_same_expr-in_default.ensures.yes same)) ∙ h)
