-- What becomes of an expression of two sides, from what becomes of each.
use Rattle.std.proofs.Common.{◌≡◌, ℕ, Bool, true, false, not, ◌&&◌, ◌||◌, List, Option, None, Some, if◌then◌else◌, refl, sym, ◌∙◌, ap, ap₂, subst}
use Rattle.feature_expr.specs.declared.expr.Expr.{Expr}
use Rattle.feature_expr.specs.declared.expr.Expr as e
use Rattle.feature_expr.specs.Satisfaction.{satisfies}
use Rattle.condition_sat.specs.declared.search.Assignment.{Assignment}
use Rattle.condition_sat.specs.declared.search.Status.{Status}
use Rattle.condition_sat.specs.declared.search.Status.TheVariants as status
use Rattle.condition_sat.specs.Search.{Extends, IsStatus, IsOf, IsOfBoth, IsOfEither, IsOfSides, IsStatusOf}
use Rattle.condition_sat.proofs.Nodes.{satisfies-And, satisfies-Or, mentions-And, mentions-Or}

and-false : (b : Bool) → (b && false) ≡ false
and-false true = refl
and-false false = refl

or-true : (b : Bool) → (b || true) ≡ true
or-true true = refl
or-true false = refl

both-true : (a b : Bool) → a ≡ true → b ≡ true → (a && b) ≡ true
both-true a b ha hb = ap₂ ◌&&◌ ha hb

left-false : (a b : Bool) → a ≡ false → (a && b) ≡ false
left-false a b h = ap (λ x. x && b) h

right-false : (a b : Bool) → b ≡ false → (a && b) ≡ false
right-false a b h = ap (λ x. a && x) h ∙ and-false a

both-false : (a b : Bool) → a ≡ false → b ≡ false → (a || b) ≡ false
both-false a b ha hb = ap₂ ◌||◌ ha hb

left-true : (a b : Bool) → a ≡ true → (a || b) ≡ true
left-true a b h = ap (λ x. x || b) h

right-true : (a b : Bool) → b ≡ true → (a || b) ≡ true
right-true a b h = ap (λ x. a || x) h ∙ or-true a

is_of_and : (value : Bool) (l r : Expr) → IsOf value (e.And l r) l r value
is_of_and true l r = record {
  met = λ c hl hr. satisfies-And c l r ∙ both-true _ _ hl hr;
  left_unmet = λ c h. satisfies-And c l r ∙ left-false _ _ h;
  right_unmet = λ c h. satisfies-And c l r ∙ right-false _ _ h;
  occurs_left = λ i h. mentions-And i l r ∙ left-true _ _ h;
  occurs_right = λ i h. mentions-And i l r ∙ right-true _ _ h;
}
is_of_and false l r = record {
  unmet = λ c hl hr. satisfies-And c l r ∙ both-true _ _ hl hr;
  left_met = λ c h. satisfies-And c l r ∙ left-false _ _ h;
  right_met = λ c h. satisfies-And c l r ∙ right-false _ _ h;
  occurs_left = λ i h. mentions-And i l r ∙ left-true _ _ h;
  occurs_right = λ i h. mentions-And i l r ∙ right-true _ _ h;
}

is_of_or : (value : Bool) (l r : Expr) → IsOf (not value) (e.Or l r) l r value
is_of_or true l r = record {
  unmet = λ c hl hr. satisfies-Or c l r ∙ both-false _ _ hl hr;
  left_met = λ c h. satisfies-Or c l r ∙ left-true _ _ h;
  right_met = λ c h. satisfies-Or c l r ∙ right-true _ _ h;
  occurs_left = λ i h. mentions-Or i l r ∙ left-true _ _ h;
  occurs_right = λ i h. mentions-Or i l r ∙ right-true _ _ h;
}
is_of_or false l r = record {
  met = λ c hl hr. satisfies-Or c l r ∙ both-false _ _ hl hr;
  left_unmet = λ c h. satisfies-Or c l r ∙ left-true _ _ h;
  right_unmet = λ c h. satisfies-Or c l r ∙ right-true _ _ h;
  occurs_left = λ i h. mentions-Or i l r ∙ left-true _ _ h;
  occurs_right = λ i h. mentions-Or i l r ∙ right-true _ _ h;
}

-- what becomes of a node, from its parts as the code reads them
pub and_status : (whole l r left right : Expr) (value : Bool) (assignment : Assignment) (right_status : Status) (answer : Option Status) → whole ≡ e.And l r → left ≡ l → right ≡ r → IsStatus right value assignment right_status → IsOfSides value left right_status value assignment answer → IsStatusOf whole l value assignment answer
and_status whole l r left right value assignment right_status answer is left_is right_is known sides =
    let sides' = subst (λ x. IsOfSides value x right_status value assignment answer) left_is sides in
    sides' whole r (subst (λ w. IsOf value w l r value) (sym is) (is_of_and value l r)) (subst (λ x. IsStatus x value assignment right_status) right_is known)

pub or_status : (whole l r left right : Expr) (value : Bool) (assignment : Assignment) (right_status : Status) (answer : Option Status) → whole ≡ e.Or l r → left ≡ l → right ≡ r → IsStatus right value assignment right_status → IsOfSides (not value) left right_status value assignment answer → IsStatusOf whole l value assignment answer
or_status whole l r left right value assignment right_status answer is left_is right_is known sides =
    let sides' = subst (λ x. IsOfSides (not value) x right_status value assignment answer) left_is sides in
    sides' whole r (subst (λ w. IsOf (not value) w l r value) (sym is) (is_of_or value l r)) (subst (λ x. IsStatus x value assignment right_status) right_is known)

pub status_same : (x y : Expr) (value : Bool) (assignment : Assignment) (f : Status) → x ≡ y → IsStatus x value assignment f → IsStatus y value assignment f
status_same x y value assignment f same known = subst (λ z. IsStatus z value assignment f) same known

-- the whole of which both sides are constrainted, where the right one is met, is as the left one is
both_met : (whole left right : Expr) (value : Bool) (assignment : Assignment) → IsOfBoth whole left right value → satisfies assignment.held right ≡ value → (f : Status) → IsStatus left value assignment f → IsStatus whole value assignment f
both_met whole left right value assignment of right_met status.Satisfied left_met = of.met assignment.held left_met right_met
both_met whole left right value assignment of right_met status.Falsified never = λ c extends. of.left_unmet c (never c extends)
both_met whole left right value assignment of right_met (status.Undecided f) «open» = («open».0, of.occurs_left f «open».1)

-- the whole of which a side is constrainted, where the right one never is met, is as the left one is
either_never : (whole left right : Expr) (value : Bool) (assignment : Assignment) → IsOfEither whole left right value → ((c : List ℕ) → Extends c assignment → satisfies c right ≡ not value) → (f : Status) → IsStatus left value assignment f → IsStatus whole value assignment f
either_never whole left right value assignment of right_never status.Satisfied left_met = of.left_met assignment.held left_met
either_never whole left right value assignment of right_never status.Falsified never = λ c extends. of.unmet c (never c extends) (right_never c extends)
either_never whole left right value assignment of right_never (status.Undecided f) «open» = («open».0, of.occurs_left f «open».1)

pub sides_met : (both : Bool) (left : Expr) (value : Bool) (assignment : Assignment) → IsOfSides both left status.Satisfied value assignment (if both then None else Some status.Satisfied)
sides_met true left value assignment = λ whole right of met. both_met whole left right value assignment of met
sides_met false left value assignment = λ whole right of met. of.right_met assignment.held met

pub sides_never : (both : Bool) (left : Expr) (value : Bool) (assignment : Assignment) → IsOfSides both left status.Falsified value assignment (if both then Some status.Falsified else None)
sides_never true left value assignment = λ whole right of never. λ c extends. of.right_unmet c (never c extends)
sides_never false left value assignment = λ whole right of never. either_never whole left right value assignment of never
