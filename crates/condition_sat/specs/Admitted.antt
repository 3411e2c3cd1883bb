-- Admitted configurations: those that satisfy the feature model.
use Rattle.std.specs.Prelude.{◌≡◌, ℕ, true, List}
use Rattle.feature_expr.specs.declared.expr.Expr.{Expr}
use Rattle.feature_expr.specs.Config.{IsConfig}
use Rattle.feature_expr.specs.Satisfaction.{satisfies}

-- a configuration that the model admits
pub record IsAdmitted (model : Expr) (c : List ℕ) : Type 0 where
  pub config : IsConfig c
  pub model_holds : satisfies c model ≡ true

-- some admitted configuration has it
pub record SomeAdmitted (model : Expr) (Has : List ℕ → Type 0) : Type 0 where
  pub config : List ℕ
  pub admitted : IsAdmitted model config
  pub has : Has config
