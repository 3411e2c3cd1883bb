-- A map of what was found, with one more.
use Rattle.std.proofs.Common.{◌≡◌, ◌∙◌, Bool, true, false, cond, not, is_some, List, ℕ, Option, Some, None, refl, sym, ap, subst}
use Rattle.condition_sat.proofs.PossibleLaws.{none_admitted, some_admitted_of, some_admitted_same}
use Rattle.condition_sat.specs.Possible.{can_hold, always_holds}
use Rattle.feature_expr.specs.Satisfaction.{satisfies}
use Rattle.asked_conditions.specs.Found.{IsFound, AreFound}
use Rattle.feature_expr.specs.Same.{same_expr}
use Rattle.feature_expr.specs.SameLaws.{same_yes}
use Rattle.feature_expr.specs.declared.expr.Expr.{Expr}
use Rattle.indexmap.specs.IndexMap.{IndexMap, Updates, get}

some_is : {X : Type 0} (x y : X) → Some x ≡ Some y → x ≡ y
some_is x y is = cc is

pub found_more : {S : Type 0} (model key : Expr) (found : Option (List ℕ)) (old new : IndexMap Expr (Option (List ℕ)) S) → AreFound model old → IsFound model key found → Updates same_expr old new key (Some found) → AreFound model new
found_more model key found old new kept is updates expr other there = by (same_expr key expr) refl where
  by : (same : Bool) → same_expr key expr ≡ same → IsFound model expr other
  by true same =
      let is_there : Some other ≡ Some found = sym there ∙ updates.0 expr ∙ ap (λ b. cond b (Some found) (get same_expr old expr)) same in
      subst (λ e. IsFound model e other) (same_yes key expr same) (subst (IsFound model key) (sym (some_is other found is_there)) is)
  by false same = kept expr other (sym (updates.0 expr ∙ ap (λ b. cond b (Some found) (get same_expr old expr)) same) ∙ there)

-- what is found says whether the condition can hold
pub somewhere : (model cond : Expr) (found : Option (List ℕ)) → IsFound model cond found → is_some found ≡ can_hold model cond
somewhere model cond None none = sym (none_admitted model (λ c. satisfies c cond) none)
somewhere model cond (Some c) found = sym (some_admitted_of model (λ d. satisfies d cond) c found.0 found.1)

-- and of its negation, whether it always holds
pub always : (model cond fails : Expr) (found : Option (List ℕ)) → ((c : List ℕ) → satisfies c fails ≡ not (satisfies c cond)) → IsFound model fails found → not (is_some found) ≡ always_holds model cond
always model cond fails found is says =
    ap not (somewhere model fails found says ∙ some_admitted_same model (λ c. satisfies c fails) (λ c. not (satisfies c cond)) (λ c admitted. is c))

-- the negation of a copy is that of the condition
pub negates : (cond copied negated : Expr) → copied ≡ cond → ((c : List ℕ) → satisfies c negated ≡ not (satisfies c copied)) → (c : List ℕ) → satisfies c negated ≡ not (satisfies c cond)
negates cond copied negated same is c = is c ∙ ap (λ e. not (satisfies c e)) same
