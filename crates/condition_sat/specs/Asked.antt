-- What is asked of a configuration: that expressions have values in it.
use Rattle.std.specs.Prelude.{ℕ, Bool, List}
use Rattle.std.specs.List.{list_all, list_any}
use Rattle.std.proofs.Math.Bool.{beq}
use Rattle.feature_expr.specs.Satisfaction.{satisfies}
use Rattle.feature_expr.specs.Expressions.{mentions}
use Rattle.condition_sat.specs.declared.asked.Asked.{Asked}

-- whether an expression has its value in a configuration
abbrev pub meets : List ℕ → Asked → Bool
meets c asked = beq (satisfies c asked.expr.now) asked.value

-- whether each has
abbrev pub all_met : List ℕ → List Asked → Bool
all_met c asked = list_all (meets c) asked

-- whether a feature occurs in one of the expressions
abbrev pub occurs : ℕ → List Asked → Bool
occurs feature asked = list_any (λ (one : Asked). mentions feature one.expr.now) asked
