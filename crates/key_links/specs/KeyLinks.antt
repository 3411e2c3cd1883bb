-- Links of a condition that compare a column by `=`, and what they say of rows and of pairs of rows.
use Rattle.std.specs.Prelude.{◌≡◌, ℕ, zero, suc, Bool, true, false, not, ◌&&◌, List, [], ◌∷◌, ◌++◌, Option, Some, None, slice_get}
use Rattle.std.specs.List.{list_all, list_any}
use Rattle.feature_expr.specs.declared.expr.Expr as e
use Rattle.key_links.specs.declared.columns.ColumnLink.{ColumnLink}
use Rattle.key_links.specs.declared.literals.ValueLink.{ValueLink}
use Rattle.plain_relation.specs.Relations.{same_name}
use Rattle.relational_algebra.specs.Values.{compares_values}
use Rattle.row_conditions.specs.Truths.{Slot, slots_of, truth_of}
use Rattle.values.specs.declared.column_name.ColName.{ColName}
use Rattle.values.specs.declared.value.Value.{Value}
use Rattle.vra_syntax.specs.declared.cond.Cond.{Cond}
use Rattle.vra_syntax.specs.declared.cond.Cond as cond
use Rattle.vra_syntax.specs.declared.cond.Operand.TheVariants as operand
use Rattle.vra_syntax.specs.declared.cond.Op.TheVariants as op
use Rattle.vtable.specs.TableForm.{same_cells}
use Rattle.vtable.specs.declared.table.VColumn.{VColumn}

abbrev pub is_named : ColName → VColumn → Bool
is_named name column = same_name column.name name

-- whether the column at a place has the name, and no other does
abbrev pub is_only_at : ColName → ℕ → List VColumn → Bool
is_only_at name place [] = false
is_only_at name zero (column ∷ columns) = is_named name column && not (list_any (is_named name) columns)
is_only_at name (suc place) (column ∷ columns) = not (is_named name column) && is_only_at name place columns

abbrev pub is_equal : Value → Value → Bool
is_equal one other = compares_values op.Eq one other

abbrev pub is_value : Option (Option Value) → Value → Bool
is_value (Some (Some other)) value = is_equal other value
is_value _ value = false

-- whether the cell at a place has the value
abbrev pub has_value : List (Option Value) → ℕ → Value → Bool
has_value cells place value = is_value (slice_get cells place) value

abbrev pub meets_links : List ValueLink → List (Option Value) → Bool
meets_links links cells = list_all (λ (link : ValueLink). has_value cells link.place link.value) links

abbrev pub equals_value : ColName → Value → Cond
equals_value name value = cond.Cmp (operand.Column name) op.Eq (operand.Literal value)

abbrev pub equals_column : ColName → ColName → Cond
equals_column one other = cond.Cmp (operand.Column one) op.Eq (operand.Column other)

-- of a row that doesn't meet the links the condition is true nowhere
pub record AreNeeded (whole : Cond) (columns : List VColumn) (links : List ValueLink) : Type 0 where
  pub nowhere : (cells : List (Option Value)) → meets_links links cells ≡ false → truth_of (slots_of columns cells) whole ≡ e.False

-- the condition is true nowhere where this part of it is
pub record IsPart (whole part : Cond) : Type 0 where
  pub nowhere : (slots : List Slot) → truth_of slots part ≡ e.False → truth_of slots whole ≡ e.False

-- with these links more, what was needed wherever a condition has this part is so still
pub record PutsNeeded (part : Cond) (columns : List VColumn) (old new : List ValueLink) : Type 0 where
  pub still : (whole : Cond) → IsPart whole part → AreNeeded whole columns old → AreNeeded whole columns new

abbrev pub cell_or_none : Option (Option Value) → Option Value
cell_or_none None = None
cell_or_none (Some cell) = cell

abbrev pub cell_at : ℕ → List (Option Value) → Option Value
cell_at place cells = cell_or_none (slice_get cells place)

-- of two rows with different cells at these places the condition is true nowhere
pub record IsColumnLink (whole : Cond) (left right : List VColumn) (link : ColumnLink) : Type 0 where
  pub nowhere : (cells others : List (Option Value)) → same_cells (cell_at link.right others ∷ []) (cell_at link.left cells ∷ []) ≡ false
      → truth_of (slots_of left cells ++ slots_of right others) whole ≡ e.False

-- the columns at these places alone have these names, each on its side
pub record ArePlacesOf (one other : ColName) (left right : List VColumn) (link : ColumnLink) : Type 0 where
  pub first : is_only_at one link.left left ≡ true
  pub second : is_only_at other link.right right ≡ true
  pub not_right : list_any (is_named one) right ≡ false
  pub not_left : list_any (is_named other) left ≡ false
