-- What the operators make of tables, in all variants at once.
use Rattle.std.specs.Prelude.{ℕ, Bool, ◌||◌, List, ◌++◌, filter, fold, Option, if◌then◌else◌}
use Rattle.std.specs.List.{filter_map}
use Rattle.std.specs.Option.{option_cmp}
use Rattle.std.specs.Ordering.{is_eq}
use Rattle.feature_expr.specs.Expressions.{and_of, or_of, not_of}
use Rattle.feature_expr.specs.Same.{same_expr}
use Rattle.feature_expr.specs.declared.expr.Expr.{Expr}
use Rattle.feature_expr.specs.declared.expr.Expr as e
use Rattle.values.specs.declared.value.Value.{Value}
use Rattle.plain_relation.specs.Values.{value_cmp}
use Rattle.row_places.specs.Places.{AreKeyed}
use Rattle.row_conditions.specs.Truths.{Slot, slots_of, truth_of}
use Rattle.vra_syntax.specs.declared.cond.Cond.{Cond}
use Rattle.vtable.specs.TableForm.{same_cells}
use Rattle.vtable.specs.declared.table.VColumn.{VColumn}
use Rattle.vtable.specs.declared.table.VRow.{VRow}
use Rattle.vtable.specs.declared.table.VTable.{VTable}
use Rattle.plan_tables.specs.Tables.{any_of, cell_under, columns_under, heading, is_true, laid_cells, row_under, rows_laid, settled}

-- the row in the variants in which it is there and the condition is true of it
abbrev pub row_meeting : Cond → List VColumn → VRow → Option VRow
row_meeting cond columns row = row_under row.cells (and_of row.cond (truth_of (slots_of columns row.cells) cond))

abbrev pub rows_meeting : Cond → List VColumn → List VRow → List VRow
rows_meeting cond columns rows = filter_map (row_meeting cond columns) rows

abbrev pub filtered_table : Cond → VTable → VTable
filtered_table cond table = record { columns = table.columns; rows = rows_meeting cond table.columns table.rows }

-- A row is there only where its side is: where a side is absent, its rows say nothing.
abbrev pub united_table : VTable → VTable → VTable
united_table left right =
    let to = settled (left.columns ++ right.columns) in
    record { columns = to; rows = rows_laid to left.columns (any_of left.columns) left.rows ++ rows_laid to right.columns (any_of right.columns) right.rows }

abbrev pub chosen_table : Expr → VTable → VTable → VTable
chosen_table expr left right =
    let to = settled (columns_under expr left.columns ++ columns_under (not_of expr) right.columns) in
    record { columns = to; rows = rows_laid to left.columns expr left.rows ++ rows_laid to right.columns (not_of expr) right.rows }

abbrev pub same_cell : Option Value → Option Value → Bool
same_cell one other = is_eq (option_cmp value_cmp one other)

-- in the variants in which the column isn't there, if its cells differ
abbrev pub with_alike : List Slot → Expr → Slot → Expr
with_alike right out slot = if same_cell slot.cell (cell_under right (heading slot.column)) then out else and_of out (not_of slot.column.cond)

-- where two rows have the same cells, both sides having the same columns
abbrev pub alike : List Slot → List Slot → Expr
alike left right = fold (with_alike right) e.True left

abbrev pub with_match : List VColumn → List Slot → Expr → VRow → Expr
with_match columns left out row = or_of out (and_of row.cond (alike left (slots_of columns row.cells)))

-- where one of the rows is there and has the same cells
abbrev pub matched : List VColumn → List Slot → List VRow → Expr
matched columns left rows = fold (with_match columns left) e.False rows

-- whether a column is there whenever its side is, which is there under a condition
abbrev pub is_sure : Expr → VColumn → Bool
is_sure there column = is_true column.cond || same_expr column.cond there

abbrev pub sure_columns : Expr → List VColumn → List VColumn
sure_columns there columns = filter (is_sure there) columns

-- whether a row has these cells in some columns
abbrev pub has_key : List VColumn → List VColumn → List (Option Value) → VRow → Bool
has_key keys columns key row = same_cells (laid_cells keys (slots_of columns row.cells)) key

abbrev pub rows_with : List VColumn → List VColumn → List (Option Value) → List VRow → List VRow
rows_with keys columns key rows = filter (has_key keys columns key) rows

-- The same of the rows of a side that is there. Rows that differ in a sure column are never the same there: only
-- those are looked at that don't.
abbrev pub matching : List Slot → VTable → Expr
matching left right =
    let keys = sure_columns (any_of right.columns) right.columns in
    matched right.columns left (rows_with keys right.columns (laid_cells keys left) right.rows)

-- under each list of cells stand the places of the rows that have them
abbrev pub ArePlaces : List VColumn → List VColumn → List VRow → List (List (Option Value) × List ℕ) → Type 0
ArePlaces keys columns rows places = AreKeyed (λ (row : VRow). laid_cells keys (slots_of columns row.cells)) rows places

abbrev pub row_without : List VColumn → VTable → VRow → Option VRow
row_without columns right row =
    row_under row.cells (and_of row.cond (not_of (and_of (any_of right.columns) (matching (slots_of columns row.cells) right))))

abbrev pub excepted_table : VTable → VTable → VTable
excepted_table left right = record { columns = left.columns; rows = filter_map (row_without left.columns right) left.rows }
