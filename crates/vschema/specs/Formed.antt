-- When a catalogue and its opening rows are formed. Their types alone let through more: two tables of one name, a row of
-- no table, a feature that has no name.
use Rattle.std.specs.Prelude.{Bool, true, false, not, ◌≡◌, ◌&&◌, ◌<◌, ◌^◌, ℕ, List, [], ◌∷◌, map, length, Option, Some, None, slice_get}
use Rattle.std.specs.List.{All, list_all}
use Rattle.word_tokens.specs.Words.{is_name_of}
use Rattle.feature_expr.specs.Names.{among}
use Rattle.feature_expr.specs.Printing.{HasNames}
use Rattle.values.specs.Value.{kind_of}
use Rattle.values.specs.declared.value.Value.{Value}
use Rattle.vschema.specs.declared.catalog.Catalog.{Catalog}
use Rattle.vschema.specs.declared.catalog.Column.{Column}
use Rattle.vschema.specs.declared.catalog.OpeningRow.{OpeningRow}
use Rattle.vschema.specs.declared.catalog.Table.{Table}

-- whether no name stands twice
abbrev pub distinct : List (List ℕ) → Bool
distinct [] = true
distinct (name ∷ names) = not (among name names) && distinct names

abbrev pub table_names : List Table → List (List ℕ)
table_names tables = map (λ (table : Table). table.name) tables

abbrev pub column_names : List Column → List (List ℕ)
column_names columns = map (λ (column : Column). column.name) columns

-- whether a table and its columns have names
abbrev pub has_names : Table → Bool
has_names table = is_name_of table.name && list_all is_name_of (column_names table.columns)

-- each feature of the table's condition and of its columns' conditions has a name
pub record TableKnown (features : List (List ℕ)) (table : Table) : Type 0 where
  pub table_known : HasNames features table.cond
  pub columns_known : All (λ (column : Column). HasNames features column.cond) table.columns

abbrev pub RowKnown : List (List ℕ) → OpeningRow → Type 0
RowKnown features row = HasNames features row.cond

abbrev pub has_distinct_columns : Table → Bool
has_distinct_columns table = distinct (column_names table.columns)

-- a cell of the column's kind, or no cell
abbrev pub CellFits : Column → Option Value → Type 0
CellFits column None = Unit {0}
CellFits column (Some value) = kind_of value ≡ column.kind

-- one cell place per column
abbrev pub CellsFit : List Column → List (Option Value) → Type 0
CellsFit [] [] = Unit {0}
CellsFit (column ∷ columns) (cell ∷ cells) = CellFits column cell × CellsFit columns cells
CellsFit _ _ = ⊥

abbrev pub FitsTable : Option Table → OpeningRow → Type 0
FitsTable None row = ⊥
FitsTable (Some table) row = CellsFit table.columns row.cells

-- a row of one of these tables
abbrev pub RowFits : List Table → OpeningRow → Type 0
RowFits tables row = FitsTable (slice_get tables row.table) row

-- What is said of a catalogue and its opening rows together. That the features have names, each its own, is said by
-- their type.
pub record IsFormed (catalog : Catalog) (rows : List OpeningRow) : Type 0 where
  -- a table's number fits into 32 bits
  pub countable : length catalog.tables < 2 ^ 32
  -- tables and columns have names
  pub named : list_all has_names catalog.tables ≡ true
  -- every feature that stands in a condition is one of the catalogue's
  pub model_known : HasNames catalog.features catalog.model
  pub tables_known : All (TableKnown catalog.features) catalog.tables
  pub rows_known : All (RowKnown catalog.features) rows
  -- no two tables have one name
  pub distinct_tables : distinct (table_names catalog.tables) ≡ true
  -- no two columns of one table have one name
  pub distinct_columns : list_all has_distinct_columns catalog.tables ≡ true
  -- each row is one of a table's, and has one cell place per column, with a value of the column's kind or none
  pub fitting : All (RowFits catalog.tables) rows
