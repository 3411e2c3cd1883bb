-- What is asked about a part of a query: cases, each with the condition of the variants in which it holds.
use Rattle.std.specs.Prelude.{ℕ, ◌≡◌, true, false, List, [], ◌∷◌, Option, Some, None, if◌then◌else◌}
use Rattle.std.specs.List.{flat_map}
use Rattle.condition_sat.specs.Admitted.{IsAdmitted}
use Rattle.feature_expr.specs.Satisfaction.{satisfies}
use Rattle.feature_expr.specs.declared.expr.Expr.{Expr}
use Rattle.values.specs.declared.column_name.ColName.{ColName}
use Rattle.relational_algebra.specs.Columns.{empty_name, first_name}
use Rattle.query_meaning.specs.Cases.{Case, IsOneOf, case, case_of}
use Rattle.query_meaning.specs.Typing.{columns_at}
use Rattle.query_meaning.specs.declared.ill.IllTyped.{IllTyped}
use Rattle.query_typing.specs.declared.fault.Fault.{Fault}
use Rattle.query_typing.specs.declared.fault.ShownName.{ShownName}
use Rattle.query_typing.specs.declared.fault.ShownName.TheVariants as shown
use Rattle.query_typing.specs.declared.refused.CaseRefused.{CaseRefused}
use Rattle.query_typing.specs.declared.refused.CaseRefused.TheVariants as refused

-- the name that is shown in a variant
abbrev pub name_at : List ℕ → ShownName → ColName
name_at c (shown.Of name) = name.now
name_at c (shown.First columns) = first_name (columns_at c columns.now)
name_at c shown.Empty = empty_name

abbrev pub fault_at : List ℕ → Fault → List Case
fault_at c fault = if satisfies c fault.cond then case fault.case (name_at c fault.name) ∷ [] else []

-- the cases that hold in a variant
abbrev pub faults_at : List ℕ → List Fault → List Case
faults_at c faults = flat_map (fault_at c) faults

-- in no admitted variant in which the part is reached does a case hold
pub record NoCase (model reach : Expr) (cases : List ℕ → List Case) : Type 0 where
  pub none : (c : List ℕ) → IsAdmitted model c → satisfies c reach ≡ true → cases c ≡ []

-- the case that is shown holds in the admitted variant that is shown, in which the part is reached
pub record ShowsIn (model reach : Expr) (cases : List ℕ → List Case) (it : IllTyped) : Type 0 where
  pub config : List ℕ
  pub is : it.config ≡ Some config
  pub admitted : IsAdmitted model config
  pub reached : satisfies config reach ≡ true
  pub shown : IsOneOf (cases config) (case_of it)

-- what a refusal says of a part; want of memory says nothing
abbrev pub RefusesCase : Expr → Expr → (List ℕ → List Case) → CaseRefused → Type 0
RefusesCase model reach cases (refused.Ill it) = ShowsIn model reach cases it
RefusesCase model reach cases refused.Memory = Unit {0}

-- what is found of two conditions together: an admitted variant in which both hold, or that there is none
abbrev pub IsFoundOfBoth : Expr → Expr → Expr → Option (List ℕ) → Type 0
IsFoundOfBoth model reach cond None = (c : List ℕ) → IsAdmitted model c → satisfies c reach ≡ true → satisfies c cond ≡ false
IsFoundOfBoth model reach cond (Some c) = IsAdmitted model c × (satisfies c reach ≡ true) × (satisfies c cond ≡ true)
