-- What contracts see of row versions.
use Rattle.std.specs.Prelude.{ℕ, ◌+◌, List, [], ◌∷◌, ◌++◌, length, map}
use Rattle.plan_tables.specs.declared.rows.TableRows.{TableRows}
use Rattle.version_lists.specs.Versions.{Version, begun_versions, newest_rows}
use Rattle.vtable.specs.declared.table.VColumn.{VColumn}

-- the columns of the tables, the versions of their rows in the order of their numbers, the number of the next version, and
-- how many commits were applied
pub record Stored : Type 0 where
  pub columns : List (List VColumn)
  pub versions : List Version
  pub next : ℕ
  pub applied : ℕ

abbrev pub columns_of : List TableRows → List (List VColumn)
columns_of tables = map (λ (table : TableRows). table.rows.columns) tables

-- the tables from a number on, with their newest rows
abbrev pub newest_tables : ℕ → List (List VColumn) → List Version → List TableRows
newest_tables number [] versions = []
newest_tables number (columns ∷ others) versions =
    record { table = number; rows = record { columns = columns; rows = newest_rows number versions } } ∷ newest_tables (number + 1) others versions

-- The rows of tables as versions before any commit: their numbers go up from this one, table by table.
abbrev pub first_versions : ℕ → List TableRows → List Version
first_versions number [] = []
first_versions number (table ∷ tables) = begun_versions number 0 table.table table.rows.rows ++ first_versions (number + length table.rows.rows) tables

abbrev pub row_count : List TableRows → ℕ
row_count [] = 0
row_count (table ∷ tables) = length table.rows.rows + row_count tables

-- before any commit
abbrev pub opened : List TableRows → Stored
opened tables = record { columns = columns_of tables; versions = first_versions 0 tables; next = row_count tables; applied = 0 }
