-- The expression that is made of a condition and a row's cells. A row goes as its slots: each of its cells, with the
-- column in which it stands.
use Rattle.std.specs.Prelude.{Bool, false, ◌&&◌, List, [], ◌∷◌, fold, Option, Some, None, if◌then◌else◌}
use Rattle.feature_expr.specs.Expressions.{and_of, or_of, not_of}
use Rattle.feature_expr.specs.declared.expr.Expr.{Expr}
use Rattle.feature_expr.specs.declared.expr.Expr as e
use Rattle.values.specs.declared.column_name.ColName.{ColName}
use Rattle.values.specs.declared.value.Value.{Value}
use Rattle.plain_relation.specs.Relations.{same_name}
use Rattle.relational_algebra.specs.Values.{compares_values}
use Rattle.row_conditions.specs.declared.comparison.Test.{Test}
use Rattle.row_conditions.specs.declared.comparison.Test.TheVariants as test
use Rattle.row_conditions.specs.declared.truth.TruthStep.{TruthStep}
use Rattle.row_conditions.specs.declared.truth.TruthStep.TheVariants as tstep
use Rattle.vra_syntax.specs.declared.cond.Cond.{Cond, fold-Cond}
use Rattle.vra_syntax.specs.declared.cond.Cond.TheOpen.{Cond-F}
use Rattle.vra_syntax.specs.declared.cond.Op.{Op}
use Rattle.vra_syntax.specs.declared.cond.Operand.{Operand}
use Rattle.vra_syntax.specs.declared.cond.Operand.TheVariants as operand
use Rattle.vtable.specs.declared.table.VColumn.{VColumn}

pub record Slot : Type 0 where
  pub column : VColumn
  pub cell : Option Value

abbrev pub slots_of : List VColumn → List (Option Value) → List Slot
slots_of [] cells = []
slots_of (column ∷ columns) [] = []
slots_of (column ∷ columns) (cell ∷ cells) = record { column = column; cell = cell } ∷ slots_of columns cells

-- whether a value is there that passes the test
abbrev pub passes : (Value → Bool) → Option Value → Bool
passes test None = false
passes test (Some value) = test value

-- the tests of a comparison: a value is on its left, or on its right, or the cell is on both sides
abbrev pub left_test : Op → Value → Value → Bool
left_test sign value cell = compares_values sign value cell

abbrev pub right_test : Op → Value → Value → Bool
right_test sign value cell = compares_values sign cell value

abbrev pub own_test : Op → Value → Bool
own_test sign cell = compares_values sign cell cell

abbrev pub test_of : Test → Value → Bool
test_of (test.Left sign value) = left_test sign value.now
test_of (test.Right sign value) = right_test sign value.now
test_of (test.Own sign) = own_test sign

abbrev pub is_fitting : ColName → (Value → Bool) → Slot → Bool
is_fitting name test slot = same_name slot.column.name name && passes test slot.cell

-- or where the column is there, if its cell passes
abbrev pub with_slot : ColName → (Value → Bool) → Expr → Slot → Expr
with_slot name test out slot = if is_fitting name test slot then or_of out slot.column.cond else out

-- where a column of the name is there whose cell passes
abbrev pub passing : ColName → (Value → Bool) → Expr → List Slot → Expr
passing name test out slots = fold (with_slot name test) out slots

-- or where the column is there, and one of the other name to whose cell its own compares
abbrev pub with_pairs_of : ColName → Op → List Slot → Expr → Expr → Option Value → Expr
with_pairs_of name sign slots out cond None = out
with_pairs_of name sign slots out cond (Some value) = or_of out (and_of cond (passing name (left_test sign value) e.False slots))

abbrev pub with_pairs : ColName → Op → ColName → List Slot → Expr → Slot → Expr
with_pairs name sign other slots out slot =
    if same_name slot.column.name name then with_pairs_of other sign slots out slot.column.cond slot.cell else out

-- where two columns of two names are there whose cells compare
abbrev pub pairing : ColName → Op → ColName → List Slot → Expr → List Slot → Expr
pairing name sign other slots out rest = fold (with_pairs name sign other slots) out rest

abbrev pub constant : Bool → Expr
constant b = if b then e.True else e.False

abbrev pub comparing : List Slot → Operand → Op → Operand → Expr
comparing slots (operand.Column name) sign (operand.Column other) =
    if same_name name other then passing name (own_test sign) e.False slots else pairing name sign other slots e.False slots
comparing slots (operand.Column name) sign (operand.Literal value) = passing name (right_test sign value) e.False slots
comparing slots (operand.Literal value) sign (operand.Column other) = passing other (left_test sign value) e.False slots
comparing slots (operand.Literal value) sign (operand.Literal other) = constant (compares_values sign value other)
comparing slots _ sign _ = e.False

-- the left expression where the first holds, else the right one
abbrev pub choice_of : Expr → Expr → Expr → Expr
choice_of expr left right = or_of (and_of expr left) (and_of (not_of expr) right)

-- one layer of a condition, whose parts are expressions
abbrev pub truth_step : List Slot → Cond-F Expr → Expr
truth_step slots (Cond-F.Cmp left sign right) = comparing slots left sign right
truth_step slots (Cond-F.Not inner) = not_of inner
truth_step slots (Cond-F.And left right) = and_of left right
truth_step slots (Cond-F.Or left right) = or_of left right
truth_step slots (Cond-F.Choice expr left right) = choice_of expr left right
truth_step slots Cond-F.True = e.True
truth_step slots Cond-F.False = e.False

abbrev pub truth_of : List Slot → Cond → Expr
truth_of slots cond = fold-Cond Expr (truth_step slots) cond

-- what goes round the left side's expression
abbrev pub wrapped_truth : TruthStep → Expr → Expr
wrapped_truth tstep.Not inner = not_of inner
wrapped_truth (tstep.And right) left = and_of left right
wrapped_truth (tstep.Or right) left = or_of left right
wrapped_truth (tstep.Choice expr right) left = choice_of expr left right

-- the whole chain round its innermost left side; the first step is the outermost
abbrev pub rewrapped_truth : List TruthStep → Expr → Expr
rewrapped_truth [] left = left
rewrapped_truth (s ∷ ss) left = wrapped_truth s (rewrapped_truth ss left)
