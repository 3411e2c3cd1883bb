-- Partial assignments, and what becomes of what is asked under one.
use Rattle.std.specs.Prelude.{◌≡◌, ℕ, ◌<◌, ◌&&◌, ◌||◌, Bool, true, false, not, List, Option, Some, None}
use Rattle.feature_expr.specs.declared.expr.Expr.{Expr}
use Rattle.feature_expr.specs.Config.{IsConfig, feature_limit, has_feature}
use Rattle.feature_expr.specs.Satisfaction.{satisfies}
use Rattle.feature_expr.specs.Expressions.{mentions}
use Rattle.condition_sat.specs.Asked.{all_met, occurs}
use Rattle.condition_sat.specs.declared.asked.Asked.{Asked}
use Rattle.condition_sat.specs.declared.search.Assignment.{Assignment}
use Rattle.condition_sat.specs.declared.search.Status.{Status}
use Rattle.condition_sat.specs.declared.search.Status.TheVariants as status

-- a configuration that extends the assignment
pub record Extends (c : List ℕ) (assignment : Assignment) : Type 0 where
  pub config : IsConfig c
  pub held : (i : ℕ) → has_feature assignment.held i ≡ true → has_feature c i ≡ true
  pub lacking : (i : ℕ) → has_feature assignment.lacking i ≡ true → has_feature c i ≡ false

-- an unassigned feature
pub record IsUnassigned (assignment : Assignment) (feature : ℕ) : Type 0 where
  pub below : feature < feature_limit
  pub not_held : has_feature assignment.held feature ≡ false
  pub not_lacking : has_feature assignment.lacking feature ≡ false

-- a feature's value in all configurations that extend the assignment; None where it is unassigned
abbrev pub IsAssigned : Assignment → ℕ → Option Bool → Type 0
IsAssigned assignment feature (Some value) = (has_feature assignment.held feature ≡ value) × ((c : List ℕ) → Extends c assignment → has_feature c feature ≡ value)
IsAssigned assignment feature None = IsUnassigned assignment feature

-- what becomes of the demand that an expression has a value
abbrev pub IsStatus : Expr → Bool → Assignment → Status → Type 0
IsStatus e value assignment status.Satisfied = satisfies assignment.held e ≡ value
IsStatus e value assignment status.Falsified = (c : List ℕ) → Extends c assignment → satisfies c e ≡ not value
IsStatus e value assignment (status.Undecided feature) = IsUnassigned assignment feature × (mentions feature e ≡ true)

-- what becomes of all that is asked
abbrev pub IsStatusOfAll : List Asked → Assignment → Status → Type 0
IsStatusOfAll asked assignment status.Satisfied = all_met assignment.held asked ≡ true
IsStatusOfAll asked assignment status.Falsified = (c : List ℕ) → Extends c assignment → all_met c asked ≡ false
IsStatusOfAll asked assignment (status.Undecided feature) = IsUnassigned assignment feature × (occurs feature asked ≡ true)

-- whether a model holds, and all that is asked is met
abbrev pub admits_all : Expr → List Asked → List ℕ → Bool
admits_all model asked c = satisfies c model && all_met c asked

-- what becomes of a model and all that is asked under it
abbrev pub IsStatusUnder : Expr → List Asked → Assignment → Status → Type 0
IsStatusUnder model asked assignment status.Satisfied = admits_all model asked assignment.held ≡ true
IsStatusUnder model asked assignment status.Falsified = (c : List ℕ) → Extends c assignment → admits_all model asked c ≡ false
IsStatusUnder model asked assignment (status.Undecided feature) = IsUnassigned assignment feature × ((mentions feature model || occurs feature asked) ≡ true)

-- an expression that has a value exactly where both of its sides have it
pub record IsOfBoth (whole left right : Expr) (value : Bool) : Type 0 where
  pub met : (c : List ℕ) → satisfies c left ≡ value → satisfies c right ≡ value → satisfies c whole ≡ value
  pub left_unmet : (c : List ℕ) → satisfies c left ≡ not value → satisfies c whole ≡ not value
  pub right_unmet : (c : List ℕ) → satisfies c right ≡ not value → satisfies c whole ≡ not value
  pub occurs_left : (i : ℕ) → mentions i left ≡ true → mentions i whole ≡ true
  pub occurs_right : (i : ℕ) → mentions i right ≡ true → mentions i whole ≡ true

-- an expression that has a value exactly where one of its sides has it
pub record IsOfEither (whole left right : Expr) (value : Bool) : Type 0 where
  pub unmet : (c : List ℕ) → satisfies c left ≡ not value → satisfies c right ≡ not value → satisfies c whole ≡ not value
  pub left_met : (c : List ℕ) → satisfies c left ≡ value → satisfies c whole ≡ value
  pub right_met : (c : List ℕ) → satisfies c right ≡ value → satisfies c whole ≡ value
  pub occurs_left : (i : ℕ) → mentions i left ≡ true → mentions i whole ≡ true
  pub occurs_right : (i : ℕ) → mentions i right ≡ true → mentions i whole ≡ true

abbrev pub IsOf : Bool → Expr → Expr → Expr → Bool → Type 0
IsOf true whole left right value = IsOfBoth whole left right value
IsOf false whole left right value = IsOfEither whole left right value

-- what becomes of the whole; None where it is what becomes of the left side
abbrev pub IsStatusOf : Expr → Expr → Bool → Assignment → Option Status → Type 0
IsStatusOf whole left value assignment None = (f : Status) → IsStatus left value assignment f → IsStatus whole value assignment f
IsStatusOf whole left value assignment (Some f) = IsStatus whole value assignment f

-- what becomes of each expression with this left side and a right side of this status
abbrev pub IsOfSides : Bool → Expr → Status → Bool → Assignment → Option Status → Type 0
IsOfSides both left right_status value assignment answer =
    (whole right : Expr) → IsOf both whole left right value → IsStatus right value assignment right_status → IsStatusOf whole left value assignment answer
