-- What a table says in one variant.
use Rattle.std.specs.Prelude.{Bool, true, false, not, ◌≡◌, ◌==◌, ◌&&◌, ℕ, List, [], ◌∷◌, map, filter, length, Option, Some, None, if◌then◌else◌}
use Rattle.std.specs.List.{list_all, list_any}
use Rattle.feature_expr.specs.Satisfaction.{satisfies}
use Rattle.values.specs.Value.{kind_of}
use Rattle.values.specs.declared.value.Value.{Value}
use Rattle.plain_relation.specs.Relations.{Relation, columns_of, has_name, relation_of}
use Rattle.plain_relation.specs.Relations as plain
use Rattle.plain_relation.specs.Values.{same_kind}
use Rattle.vtable.specs.declared.table.VColumn.{VColumn}
use Rattle.vtable.specs.declared.table.VRow.{VRow}
use Rattle.vtable.specs.declared.table.VTable.{VTable}

-- a column is there where its condition is satisfied
abbrev pub column_at : List ℕ → VColumn → Option plain.Column
column_at c column = if satisfies c column.cond then Some (record { name = column.name; kind = column.kind }) else None

-- the places of a table's columns
abbrev pub places_at : List ℕ → VTable → List (Option plain.Column)
places_at c table = map (column_at c) table.columns

-- the cells of the rows that are there
abbrev pub rows_at : List ℕ → VTable → List (List (Option Value))
rows_at c table = map (λ (row : VRow). row.cells) (filter (λ (row : VRow). satisfies c row.cond) table.rows)

-- The configured answer: what the table is in the variant. It is absent where no column is there, else it is the
-- columns that are there, and the rows that are there, cut to them.
abbrev pub answer_at : List ℕ → VTable → Relation
answer_at c table = relation_of (places_at c table) (rows_at c table)

-- whether no two columns have one name
abbrev pub names_are_distinct : List plain.Column → Bool
names_are_distinct [] = true
names_are_distinct (column ∷ columns) = not (has_name column.name columns) && names_are_distinct columns

-- whether a list of cells has one place per column, and in each column that is there a cell of its kind
abbrev pub fits : List (Option plain.Column) → List (Option Value) → Bool
fits [] [] = true
fits (None ∷ places) (cell ∷ cells) = fits places cells
fits (Some column ∷ places) (Some value ∷ cells) = same_kind (kind_of value) column.kind && fits places cells
fits _ _ = false

-- whether a row has one cell place per column
abbrev pub is_whole : VTable → VRow → Bool
is_whole table row = length row.cells == length table.columns

-- The answer is well formed in the variant: the columns that are there have distinct names, every row has one cell
-- place per column, and each row that is there has a cell of the column's kind in each column that is there.
pub record IsAnswerAt (c : List ℕ) (table : VTable) : Type 0 where
  pub distinct : names_are_distinct (columns_of (places_at c table)) ≡ true
  pub whole : list_all (is_whole table) table.rows ≡ true
  pub filled : list_all (fits (places_at c table)) (rows_at c table) ≡ true
