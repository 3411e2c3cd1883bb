-- Configurations that are kept with a model, and those that answer what is asked.
use Rattle.std.specs.Prelude.{◌≡◌, ℕ, true, ◌||◌, List}
use Rattle.feature_expr.specs.declared.expr.Expr.{Expr}
use Rattle.feature_expr.specs.Config.{has_feature}
use Rattle.feature_expr.specs.Expressions.{mentions}
use Rattle.condition_sat.specs.declared.asked.Asked.{Asked}
use Rattle.condition_sat.specs.Admitted.{IsAdmitted}
use Rattle.condition_sat.specs.Asked.{all_met, occurs}

-- an admitted configuration of features that occur in the model
pub record IsSample (model : Expr) (c : List ℕ) : Type 0 where
  pub admitted : IsAdmitted model c
  pub occurring : (i : ℕ) → has_feature c i ≡ true → mentions i model ≡ true

-- an admitted configuration that meets all that is asked, of features that occur
pub record IsMeeting (model : Expr) (asked : List Asked) (c : List ℕ) : Type 0 where
  pub admitted : IsAdmitted model c
  pub met : all_met c asked ≡ true
  pub occurring : (i : ℕ) → has_feature c i ≡ true → (mentions i model || occurs i asked) ≡ true
