-- What is found of a condition under a feature model, and what a map of such answers says.
use Rattle.std.specs.Prelude.{◌≡◌, ℕ, true, false, ◌||◌, List, Option, Some, None}
use Rattle.condition_sat.specs.Admitted.{IsAdmitted}
use Rattle.feature_expr.specs.Config.{has_feature}
use Rattle.feature_expr.specs.Expressions.{mentions}
use Rattle.feature_expr.specs.Same.{same_expr}
use Rattle.feature_expr.specs.Satisfaction.{satisfies}
use Rattle.feature_expr.specs.declared.expr.Expr.{Expr}
use Rattle.indexmap.specs.IndexMap.{IndexMap, get}

-- An admitted configuration that satisfies the condition, in which only features hold that occur in it or in the model;
-- or that no admitted configuration does.
abbrev pub IsFound : Expr → Expr → Option (List ℕ) → Type 0
IsFound model expr None = (c : List ℕ) → IsAdmitted model c → satisfies c expr ≡ false
IsFound model expr (Some c) =
    IsAdmitted model c × (satisfies c expr ≡ true) × ((i : ℕ) → has_feature c i ≡ true → (mentions i model || mentions i expr) ≡ true)

-- what is kept of each condition was found of it
abbrev pub AreFound : {S : Type 0} → Expr → IndexMap Expr (Option (List ℕ)) S → Type 0
AreFound model kept = (expr : Expr) (found : Option (List ℕ)) → get same_expr kept expr ≡ Some found → IsFound model expr found
