-- The one table in which an answer is given, and what becomes of a table that is brought into this form.
use Rattle.std.specs.Prelude.{Bool, true, false, not, IsTrue, ◌≡◌, ◌≤◌, ◌+◌, ◌&&◌, ◌||◌, ℕ, List, [], ◌∷◌, map, length, Option, Some, None, is_some, if◌then◌else◌}
use Rattle.std.specs.List.{list_all, list_any, filter_map, sum_by}
use Rattle.std.specs.Option.{option_cmp}
use Rattle.std.specs.Ordering.{is_lt, is_eq}
use Rattle.std.specs.declared.cmp.Ordering.{Ordering}
use Rattle.std.specs.Cmp.Lexicographic.{slice_cmp}
use Rattle.std.proofs.Math.Bool.{beq}
use Rattle.feature_expr.specs.Expressions.{mentions, weight_of}
use Rattle.feature_expr.specs.Satisfaction.{satisfies}
use Rattle.feature_expr.specs.declared.expr.Expr.{Expr}
use Rattle.values.specs.declared.value.Value.{Value}
use Rattle.condition_sat.specs.Admitted.{IsAdmitted}
use Rattle.condition_sat.specs.Possible.{can_hold, can_meet, is_settled, settled}
use Rattle.plain_relation.specs.Relations.{SameRelation, same_name}
use Rattle.plain_relation.specs.Values.{same_kind, value_cmp}
use Rattle.vtable.specs.Answers.{IsAnswerAt, answer_at}
use Rattle.vtable.specs.declared.table.VColumn.{VColumn}
use Rattle.vtable.specs.declared.table.VRow.{VRow}
use Rattle.vtable.specs.declared.table.VTable.{VTable}

abbrev pub same_column : VColumn → VColumn → Bool
same_column one other = same_name one.name other.name && same_kind one.kind other.kind

-- whether each pair of name and kind stands once
abbrev pub columns_are_distinct : List VColumn → Bool
columns_are_distinct [] = true
columns_are_distinct (column ∷ columns) = not (list_any (same_column column) columns) && columns_are_distinct columns

-- cells are compared in the order of the columns, an absent one before every value
abbrev pub cells_cmp : List (Option Value) → List (Option Value) → Ordering
cells_cmp one other = slice_cmp (option_cmp value_cmp) one other

abbrev pub same_cells : List (Option Value) → List (Option Value) → Bool
same_cells one other = is_eq (cells_cmp one other)

-- whether each row is before the next by its cells, so that no list of cells stands twice
abbrev pub rows_ascend : List VRow → Bool
rows_ascend [] = true
rows_ascend (row ∷ []) = true
rows_ascend (row ∷ next ∷ rows) = is_lt (cells_cmp row.cells next.cells) && rows_ascend (next ∷ rows)

-- whether a cell is there exactly where the row's condition and the column's can hold together
abbrev pub cells_stand : Expr → Expr → List VColumn → List (Option Value) → Bool
cells_stand model cond [] [] = true
cells_stand model cond (column ∷ columns) (cell ∷ cells) = beq (is_some cell) (can_meet model cond column.cond) && cells_stand model cond columns cells
cells_stand model cond _ _ = false

-- whether a cell is there
abbrev pub has_cell : List (Option Value) → Bool
has_cell cells = list_any is_some cells

abbrev pub is_row_formed : Expr → List VColumn → VRow → Bool
is_row_formed model columns row = is_settled model row.cond && cells_stand model row.cond columns row.cells && has_cell row.cells

-- The table form. Each pair of name and kind stands once among the columns. The rows are strictly ascending by their
-- cells. Each condition can hold, and is `true` where it always holds. A cell is there exactly where the row's
-- condition and the column's can hold together, and each row has a cell.
pub record IsTableForm (model : Expr) (table : VTable) : Type 0 where
  pub distinct : columns_are_distinct table.columns ≡ true
  pub settled : list_all (λ (column : VColumn). is_settled model column.cond) table.columns ≡ true
  pub formed : list_all (is_row_formed model table.columns) table.rows ≡ true
  pub ascending : rows_ascend table.rows ≡ true

-- the table form under some model
pub record HasTableForm (table : VTable) : Type 0 where
  pub model : Expr
  pub form : IsTableForm model table

abbrev pub settled_column : Expr → VColumn → VColumn
settled_column model column = record { name = column.name; kind = column.kind; cond = settled model column.cond }

-- a column stays where its condition can hold
abbrev pub column_staying : Expr → VColumn → Option VColumn
column_staying model column = if can_hold model column.cond then Some (settled_column model column) else None

-- the columns that stay, in their order
abbrev pub columns_staying : Expr → List VColumn → List VColumn
columns_staying model columns = filter_map (column_staying model) columns

-- A row's cells cut to the columns that stay: where the row's condition and the column's can't hold together, no cell
-- is there.
abbrev pub cut_cells : Expr → Expr → List VColumn → List (Option Value) → List (Option Value)
cut_cells model cond [] cells = []
cut_cells model cond (column ∷ columns) [] = []
cut_cells model cond (column ∷ columns) (cell ∷ cells) =
    if can_hold model column.cond then (if can_meet model cond column.cond then cell else None) ∷ cut_cells model cond columns cells else cut_cells model cond columns cells

abbrev pub cut_row : Expr → List VColumn → VRow → VRow
cut_row model columns row = record { cells = cut_cells model row.cond columns row.cells; cond = row.cond }

-- what the rows of a list weigh by their conditions
abbrev pub rows_weight : List VRow → ℕ
rows_weight rows = sum_by (λ (row : VRow). weight_of row.cond) rows

-- whether a feature occurs in the condition of a row
abbrev pub rows_mention : ℕ → List VRow → Bool
rows_mention feature rows = list_any (λ (row : VRow). mentions feature row.cond) rows

-- whether, among the rows that are there in the variant, one has these cells
abbrev pub has_row_with : List ℕ → List (Option Value) → List VRow → Bool
has_row_with c cells rows = list_any (λ (row : VRow). satisfies c row.cond && same_cells row.cells cells) rows

-- What a table is in table form. The columns that stay keep their order, and their condition or `true`. A list of cells
-- is there, in an admitted configuration, exactly where it has a cell and a row that is there is cut to it: since
-- no list of cells stands twice, its condition is the disjunction of those of the rows that had it. In each admitted
-- configuration it is a well-formed answer, and the same relation as before. It has no more rows than before, and their
-- conditions weigh at most one more for each row, and mention no feature that no row's condition mentioned.
pub record IsNormalOf (model : Expr) (before after : VTable) : Type 0 where
  pub form : IsTableForm model after
  pub columns : after.columns ≡ columns_staying model before.columns
  pub rows : (c : List ℕ) → IsAdmitted model c → (cells : List (Option Value)) → has_row_with c cells after.rows ≡ (has_cell cells && has_row_with c cells (map (cut_row model before.columns) before.rows))
  pub answer : (c : List ℕ) → IsAdmitted model c → IsAnswerAt c after
  pub same : (c : List ℕ) → IsAdmitted model c → SameRelation (answer_at c after) (answer_at c before)
  pub fewer : length after.rows ≤ length before.rows
  pub lighter : rows_weight after.rows ≤ rows_weight before.rows + length before.rows
  pub known : (i : ℕ) → IsTrue (rows_mention i after.rows) → IsTrue (rows_mention i before.rows)
