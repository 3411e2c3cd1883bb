-- What a table says in every variant before any commit.
use Rattle.std.specs.Prelude.{ℕ, ◌==◌, Bool, List, [], ◌∷◌, map, filter, if◌then◌else◌}
use Rattle.vschema.specs.declared.catalog.OpeningRow.{OpeningRow}
use Rattle.vschema.specs.declared.catalog.Table.{Table}
use Rattle.vtable.specs.declared.table.VRow.{VRow}
use Rattle.vtable.specs.declared.table.VTable.{VTable}
use Rattle.query_answers.specs.Held.{held_column}

abbrev pub is_of : ℕ → OpeningRow → Bool
is_of number row = row.table == number

abbrev pub scanned_row : OpeningRow → VRow
scanned_row row = record { cells = row.cells; cond = row.cond }

abbrev pub scanned_rows : ℕ → List OpeningRow → List VRow
scanned_rows number rows = map scanned_row (filter (is_of number) rows)

-- a row, if it is one of the table's
abbrev pub row_of_table : ℕ → OpeningRow → List VRow
row_of_table number row = if is_of number row then scanned_row row ∷ [] else []

-- the table's columns, and its rows in the order of the file
abbrev pub scanned : ℕ → Table → List OpeningRow → VTable
scanned number table rows = record { columns = map (held_column table) table.columns; rows = scanned_rows number rows }
