-- Which conditions can hold, and which always hold, under a feature model. The definitions go through all
-- configurations, and nothing computes them: `possible_laws` of the crate ties them to the admitted configurations.
use Rattle.std.specs.Prelude.{ℕ, zero, suc, ◌+◌, Bool, true, false, not, ◌&&◌, ◌||◌, List, [], ◌∷◌, if◌then◌else◌}
use Rattle.feature_expr.specs.Config.{feature_limit}
use Rattle.feature_expr.specs.declared.expr.Expr.{Expr, out-Expr}
use Rattle.feature_expr.specs.declared.expr.Expr as e
use Rattle.feature_expr.specs.declared.expr.Expr.TheOpen.{Expr-F}
use Rattle.feature_expr.specs.Satisfaction.{satisfies}

-- whether a configuration passes that has none but the `count` features from `low` on
unfoldable pub some_config : ℕ → ℕ → (List ℕ → Bool) → Bool
some_config zero low passes = passes []
some_config (suc count) low passes = some_config count (low + 1) passes || some_config count (low + 1) (λ c. passes (low ∷ c))

-- whether an admitted configuration passes
unfoldable pub some_admitted : Expr → (List ℕ → Bool) → Bool
some_admitted model passes = some_config feature_limit 0 (λ c. satisfies c model && passes c)

-- whether the condition holds in an admitted configuration
abbrev pub can_hold : Expr → Expr → Bool
can_hold model cond = some_admitted model (λ c. satisfies c cond)

-- whether both conditions hold together in an admitted configuration
abbrev pub can_meet : Expr → Expr → Expr → Bool
can_meet model one other = some_admitted model (λ c. satisfies c one && satisfies c other)

-- whether the condition holds in all admitted configurations
abbrev pub always_holds : Expr → Expr → Bool
always_holds model cond = not (some_admitted model (λ c. not (satisfies c cond)))

abbrev pub is_constant_true : Expr-F Expr → Bool
is_constant_true Expr-F.True = true
is_constant_true _ = false

-- whether it is the constant `true`
abbrev pub is_true : Expr → Bool
is_true cond = is_constant_true (out-Expr cond)

-- whether the condition can hold, and is `true` where it always does
abbrev pub is_settled : Expr → Expr → Bool
is_settled model cond = can_hold model cond && (not (always_holds model cond) || is_true cond)

-- the condition `true` in place of one that always holds
abbrev pub settled : Expr → Expr → Expr
settled model cond = if always_holds model cond then e.True else cond
