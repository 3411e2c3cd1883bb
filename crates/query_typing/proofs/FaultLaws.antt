-- Cases that are asked about, one after another.
use Rattle.std.proofs.Common.{◌≡◌, ◌<◌, ◌&&◌, ℕ, suc, Bool, true, false, List, [], ◌∷◌, ◌++◌, Option, Some, None, refl, sym, ◌∙◌, ap, subst, inl, inr, length, take, drop, get_or}
use Rattle.std.proofs.Math.Seq.{drop-cons}
use Rattle.std.proofs.lemmas.List.{take-append-drop}
use Rattle.std.proofs.lemmas.Grind.{flat_map-append}
use Rattle.asked_conditions.specs.Found.{IsFound}
use Rattle.condition_sat.proofs.PossibleLaws.{and_first, and_second}
use Rattle.condition_sat.specs.Admitted.{IsAdmitted}
use Rattle.conditional_columns.proofs.Connectives.{holds_True}
use Rattle.feature_expr.specs.Satisfaction.{satisfies}
use Rattle.feature_expr.specs.declared.expr.Expr.{Expr}
use Rattle.feature_expr.specs.declared.expr.Expr as e
use Rattle.query_meaning.specs.Cases.{Case, IsOneOf, case, case_of}
use Rattle.query_meaning.specs.declared.ill.IllTyped.{IllTyped}
use Rattle.query_typing.specs.Faults.{IsFoundOfBoth, NoCase, RefusesCase, ShowsIn, fault_at, faults_at, name_at}
use Rattle.query_typing.specs.declared.fault.Fault.{Fault}
use Rattle.query_typing.specs.declared.refused.CaseRefused.{CaseRefused}
use Rattle.query_typing.specs.declared.refused.CaseRefused.TheVariants as refused

second_fails : (a b : Bool) → a ≡ true → (a && b) ≡ false → b ≡ false
second_fails true b reached h = h
second_fails false b reached h = cc

pub both_found : (model reach cond both : Expr) (found : Option (List ℕ)) → ((c : List ℕ) → satisfies c both ≡ (satisfies c reach && satisfies c cond)) → IsFound model both found → IsFoundOfBoth model reach cond found
both_found model reach cond both None is none = λ c admitted reached.
    second_fails (satisfies c reach) (satisfies c cond) reached (sym (is c) ∙ none c admitted)
both_found model reach cond both (Some c) is found =
    let holds : (satisfies c reach && satisfies c cond) ≡ true = sym (is c) ∙ found.1 in
    (found.0, and_first (satisfies c reach) (satisfies c cond) holds, and_second (satisfies c reach) (satisfies c cond) holds)

pub true_found : (model reach cond : Expr) (found : Option (List ℕ)) → reach ≡ e.True → IsFound model cond found → IsFoundOfBoth model reach cond found
true_found model reach cond None is none = λ c admitted reached. none c admitted
true_found model reach cond (Some c) is found = (found.0, ap (satisfies c) is ∙ holds_True c, found.1)

-- one case

pub no_fault : (model reach : Expr) (fault : Fault) → ((c : List ℕ) → IsAdmitted model c → satisfies c reach ≡ true → satisfies c fault.cond ≡ false) → NoCase model reach (λ c. fault_at c fault)
no_fault model reach fault none = record { none = λ c admitted reached. rw (none c admitted reached) refl }

pub shows_fault : (model reach : Expr) (fault : Fault) (c : List ℕ) (it : IllTyped) → IsAdmitted model c → satisfies c reach ≡ true → satisfies c fault.cond ≡ true → it.config ≡ Some c → it.case ≡ fault.case → it.name ≡ name_at c fault.name → ShowsIn model reach (λ d. fault_at d fault) it
shows_fault model reach fault c it admitted reached holds is why name = record {
  config = c;
  is = is;
  admitted = admitted;
  reached = reached;
  shown = rw holds (inl (ap (λ w. case w (name_at c fault.name)) (sym why) ∙ ap (case it.case) (sym name)));
}

-- a list of them

whole_is : {A : Type 0} (xs : List A) (i : ℕ) (x : A) → i < length xs → x ≡ get_or xs i x → xs ≡ take i xs ++ x ∷ drop (suc i) xs
whole_is xs i x below is = sym (take-append-drop i xs) ∙ ap (λ ys. take i xs ++ ys) (drop-cons xs i x below ∙ ap (λ y. y ∷ drop (suc i) xs) (sym is))

one_of_left : (left right : List Case) (one : Case) → IsOneOf left one → IsOneOf (left ++ right) one
one_of_left (x ∷ left) right one (inl is) = inl is
one_of_left (x ∷ left) right one (inr is) = inr (one_of_left left right one is)
one_of_left [] right one is = absurd is

one_of_right : (left right : List Case) (one : Case) → IsOneOf right one → IsOneOf (left ++ right) one
one_of_right [] right one is = is
one_of_right (x ∷ left) right one is = inr (one_of_right left right one is)

pub asked_refused : (model before reach : Expr) (faults : List Fault) (fault : Fault) (i : ℕ) (why : CaseRefused) → before ≡ model → i < length faults → fault ≡ get_or faults i fault → RefusesCase before reach (λ c. fault_at c fault) why → RefusesCase model reach (λ c. faults_at c faults) why
asked_refused model before reach faults fault i refused.Memory same below is shows = tt
asked_refused model before reach faults fault i (refused.Ill it) same below is shows = record {
  config = shows.config;
  is = shows.is;
  admitted = subst (λ m. IsAdmitted m shows.config) same shows.admitted;
  reached = shows.reached;
  shown = subst (λ xs. IsOneOf xs (case_of it)) (sym (ap (faults_at shows.config) (whole_is faults i fault below is) ∙ flat_map-append (fault_at shows.config) (take i faults) (fault ∷ drop (suc i) faults)))
      (one_of_right (faults_at shows.config (take i faults)) (faults_at shows.config (fault ∷ drop (suc i) faults)) (case_of it)
      (one_of_left (fault_at shows.config fault) (faults_at shows.config (drop (suc i) faults)) (case_of it) shows.shown));
}
