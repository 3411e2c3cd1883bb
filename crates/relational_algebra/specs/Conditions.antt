-- When a row satisfies a condition in a variant, and what finding that out may cost.
use Rattle.std.specs.Prelude.{ℕ, ◌+◌, ◌*◌, Bool, true, false, not, ◌&&◌, ◌||◌, List, Option, Some, None, if◌then◌else◌}
use Rattle.feature_expr.specs.Expressions.{weight_of}
use Rattle.feature_expr.specs.Satisfaction.{satisfies}
use Rattle.values.specs.declared.value.Value.{Value}
use Rattle.plain_relation.specs.Relations.{Cell, cell_of}
use Rattle.vra_syntax.specs.declared.cond.Cond.{Cond, fold-Cond}
use Rattle.vra_syntax.specs.declared.cond.Cond.TheOpen.{Cond-F}
use Rattle.vra_syntax.specs.declared.cond.Operand.{Operand}
use Rattle.vra_syntax.specs.declared.cond.Operand.TheVariants as operand
use Rattle.relational_algebra.specs.Values.{compares}

-- a parameter has no value yet
abbrev pub value_of : List Cell → Operand → Option Value
value_of row (operand.Column name) = cell_of row name
value_of row (operand.Literal value) = Some value
value_of row (operand.Param number) = None

-- one layer of a condition, whose parts are known to hold or not
abbrev pub holds_step : List ℕ → List Cell → Cond-F Bool → Bool
holds_step c row (Cond-F.Cmp left sign right) = compares sign (value_of row left) (value_of row right)
holds_step c row (Cond-F.Not inner) = not inner
holds_step c row (Cond-F.And left right) = left && right
holds_step c row (Cond-F.Or left right) = left || right
holds_step c row (Cond-F.Choice expr left right) = if satisfies c expr then left else right
holds_step c row Cond-F.True = true
holds_step c row Cond-F.False = false

-- Whether the configured condition is true of a row. A choice is the side that the variant chooses, and the other side
-- isn't looked at.
abbrev pub holds : List ℕ → Cond → List Cell → Bool
holds c cond row = fold-Cond Bool (holds_step c row) cond

-- one layer of a condition, with what its parts cost
abbrev pub cost_step : ℕ → Cond-F ℕ → ℕ
cost_step columns (Cond-F.Cmp left sign right) = (columns + 8) * (columns + 8)
cost_step columns (Cond-F.Not inner) = 1 + inner
cost_step columns (Cond-F.And left right) = 1 + left + right
cost_step columns (Cond-F.Or left right) = 1 + left + right
cost_step columns (Cond-F.Choice expr left right) = 2 * weight_of expr + 4 + left + right
cost_step columns Cond-F.True = 1
cost_step columns Cond-F.False = 1

-- The most that the condition's truth of one row may weigh, as an expression over the features, where the conditions
-- of the row's columns weigh so much in total.
abbrev pub condition_cost : Cond → ℕ → ℕ
condition_cost cond columns = fold-Cond ℕ (cost_step columns) cond
