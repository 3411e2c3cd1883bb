-- What a table is in one variant, as a list of columns and a list of rows.
use Rattle.std.specs.Prelude.{Bool, true, false, ◌≡◌, ◌==◌, ◌&&◌, ◌++◌, ℕ, List, [], ◌∷◌, map, length, Option, Some, None, if◌then◌else◌}
use Rattle.std.specs.List.{list_any, filter_map}
use Rattle.std.specs.Option.{option_to_list}
use Rattle.std.specs.Ordering.{is_lt, is_eq}
use Rattle.std.specs.Cmp.Lexicographic.{slice_cmp}
use Rattle.feature_expr.specs.Satisfaction.{satisfies}
use Rattle.feature_expr.specs.declared.expr.Expr as e
use Rattle.values.specs.declared.value.Value.{Value}
use Rattle.plain_relation.specs.Relations.{Cell, Relation, SameRelation, columns_of, relation_with}
use Rattle.plain_relation.specs.Relations as plain
use Rattle.vtable.specs.Answers.{places_at, rows_at, answer_at}
use Rattle.plain_relation.specs.Values.{value_cmp}
use Rattle.vtable.specs.Passes.{cells_by}
use Rattle.vtable.specs.declared.decision.Fate.{Fate}
use Rattle.vtable.specs.declared.decision.Fate.TheVariants as fate
use Rattle.vtable.specs.declared.group.Group.{Group}
use Rattle.vtable.specs.declared.plain.Plain.{Plain}
use Rattle.vtable.specs.declared.plain.Plain.TheVariants as form
use Rattle.vtable.specs.declared.plain.PlainColumn.{PlainColumn}
use Rattle.vtable.specs.declared.table.VColumn.{VColumn}
use Rattle.vtable.specs.declared.table.VRow.{VRow}
use Rattle.vtable.specs.declared.table.VTable.{VTable}

abbrev pub plain_column : PlainColumn → plain.Column
plain_column column = record { name = column.name; kind = column.kind }

-- a row's values in the columns that are there
abbrev pub values_of : List (Option plain.Column) → List (Option Value) → List Value
values_of [] cells = []
values_of (place ∷ places) [] = []
values_of (None ∷ places) (cell ∷ cells) = values_of places cells
values_of (Some column ∷ places) (cell ∷ cells) = option_to_list cell ++ values_of places cells

abbrev pub same_values : List Value → List Value → Bool
same_values one other = is_eq (slice_cmp value_cmp one other)

-- whether each row is before the next, so that none stands twice
abbrev pub values_ascend : List (List Value) → Bool
values_ascend [] = true
values_ascend (row ∷ []) = true
values_ascend (row ∷ next ∷ rows) = is_lt (slice_cmp value_cmp row next) && values_ascend (next ∷ rows)

-- the values of a row under the names of the columns
abbrev pub cells_of : List plain.Column → List Value → List Cell
cells_of [] values = []
cells_of (column ∷ columns) [] = []
cells_of (column ∷ columns) (value ∷ values) = record { name = column.name; value = value } ∷ cells_of columns values

-- the relation of these columns and rows
abbrev pub relation_in : List PlainColumn → List (List Value) → Relation
relation_in columns rows = relation_with (map plain_column columns) (map (cells_of (map plain_column columns)) rows)

-- The columns are those that are there, in their order, and some are. The rows are those that are there, cut to the
-- columns, each once, ascending: together the relation that the configured answer is.
pub record IsPresent (c : List ℕ) (table : VTable) (columns : List PlainColumn) (rows : List (List Value)) : Type 0 where
  pub some : (length columns == 0) ≡ false
  pub same_columns : map plain_column columns ≡ columns_of (places_at c table)
  pub ascending : values_ascend rows ≡ true
  pub same_rows : (values : List Value) → list_any (same_values values) rows ≡ list_any (λ cells. same_values values (values_of (places_at c table) cells)) (rows_at c table)
  pub same : SameRelation (relation_in columns rows) (answer_at c table)

-- what the table is in the variant: absent exactly where no column is there
abbrev pub IsConfigured : List ℕ → VTable → Plain → Type 0
IsConfigured c table form.Absent = columns_of (places_at c table) ≡ []
IsConfigured c table (form.Rel columns rows) = IsPresent c table columns rows

-- what becomes of the cells of a column
abbrev pub fate_at : List ℕ → VColumn → Fate
fate_at c column = if satisfies c column.cond then fate.Kept else fate.Dropped

-- a row that is there, cut
abbrev pub row_there : List ℕ → List Fate → VRow → Option VRow
row_there c fates row = if satisfies c row.cond then Some (record { cells = cells_by fates row.cells; cond = e.True }) else None

-- the values among the cells
abbrev pub some_values : List (Option Value) → List Value
some_values cells = filter_map (λ cell. cell) cells

abbrev pub group_values : Group → List Value
group_values group = some_values group.cells
