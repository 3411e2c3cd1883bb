-- Gaps of a catalogue in one variant: a table that is there without a column, a row that is there without a value in a
-- column that is there.
use Rattle.std.specs.Prelude.{Bool, true, not, ◌&&◌, ℕ, List, [], ◌∷◌, Option, Some, None, slice_get}
use Rattle.std.specs.List.{list_any, list_all}
use Rattle.feature_expr.specs.Satisfaction.{satisfies}
use Rattle.values.specs.declared.value.Value.{Value}
use Rattle.vschema.specs.declared.catalog.Column.{Column}
use Rattle.vschema.specs.declared.catalog.OpeningRow.{OpeningRow}
use Rattle.vschema.specs.declared.catalog.Table.{Table}

abbrev pub is_column_there : List ℕ → Column → Bool
is_column_there c column = satisfies c column.cond

-- whether a table is there without a column
abbrev pub lacks_columns : List ℕ → Table → Bool
lacks_columns c table = satisfies c table.cond && not (list_any (is_column_there c) table.columns)

-- whether a row of a table is there
abbrev pub has_row : List ℕ → Table → OpeningRow → Bool
has_row c table row = satisfies c table.cond && satisfies c row.cond

-- the columns of a table for which a list of cells has no value
abbrev pub columns_without : List Column → List (Option Value) → List Column
columns_without [] cells = []
columns_without (column ∷ columns) [] = column ∷ columns_without columns []
columns_without (column ∷ columns) (None ∷ cells) = column ∷ columns_without columns cells
columns_without (column ∷ columns) (Some value ∷ cells) = columns_without columns cells

-- whether a row of a table is there, and a column for which it has no value
abbrev pub misses_value : List ℕ → Table → OpeningRow → Column → Bool
misses_value c table row column = has_row c table row && is_column_there c column

-- whether a row, where it is there, has a value in each column that is there
abbrev pub has_all_values_in : List ℕ → Option Table → OpeningRow → Bool
has_all_values_in c None row = true
has_all_values_in c (Some table) row = not (list_any (misses_value c table row) (columns_without table.columns row.cells))

abbrev pub has_all_values : List ℕ → List Table → OpeningRow → Bool
has_all_values c tables row = has_all_values_in c (slice_get tables row.table) row

-- whether each table that is there has a column
abbrev pub have_columns : List ℕ → List Table → Bool
have_columns c tables = not (list_any (lacks_columns c) tables)

-- whether each row that is there has a value in each column that is there
abbrev pub have_all_values : List ℕ → List Table → List OpeningRow → Bool
have_all_values c tables rows = list_all (has_all_values c tables) rows
