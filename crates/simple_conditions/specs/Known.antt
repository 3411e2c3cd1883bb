-- What is known where a part of a condition stands, and the configurations in which it is so.
use Rattle.std.specs.Prelude.{◌≡◌, ℕ, Bool, true, false, List}
use Rattle.feature_expr.specs.Config.{has_feature}
use Rattle.feature_expr.specs.Satisfaction.{satisfies}
use Rattle.feature_expr.specs.declared.expr.Expr.{Expr}
use Rattle.simple_conditions.specs.declared.literals.Literals.{Literals}

-- a configuration in which the features have the values that are known
pub record Has (c : List ℕ) (literals : Literals) : Type 0 where
  pub held : (i : ℕ) → has_feature literals.held i ≡ true → has_feature c i ≡ true
  pub lacking : (i : ℕ) → has_feature literals.lacking i ≡ true → has_feature c i ≡ false

-- a configuration in which the features have the values that are known, one expression holds and one doesn't
pub record Fits (literals : Literals) (holds fails : Expr) (c : List ℕ) : Type 0 where
  pub has : Has c literals
  pub held : satisfies c holds ≡ true
  pub failed : satisfies c fails ≡ false

-- the same, and the links beside a part in a chain hold (in one of `and`) or don't (in one of `or`)
pub record FitsBeside (literals : Literals) (holds fails : Expr) (all : Bool) (links : Expr) (c : List ℕ) : Type 0 where
  pub fits : Fits literals holds fails c
  pub beside : satisfies c links ≡ all
