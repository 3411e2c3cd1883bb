-- What the tables were opened over, and their rows before any commit.
use Rattle.std.specs.Prelude.{ℕ, ◌==◌, Bool, List, map, filter}
use Rattle.vschema.specs.declared.catalog.Catalog.{Catalog}
use Rattle.vschema.specs.declared.catalog.OpeningRow.{OpeningRow}
use Rattle.vtable.specs.declared.table.VRow.{VRow}

pub record Opening : Type 0 where
  pub catalog : Catalog
  pub rows : List OpeningRow

abbrev pub is_of : ℕ → OpeningRow → Bool
is_of number row = row.table == number

abbrev pub stored_row : OpeningRow → VRow
stored_row row = record { cells = row.cells; cond = row.cond }

-- a table's opening rows, in the order of the file
abbrev pub opening_rows : ℕ → List OpeningRow → List VRow
opening_rows number rows = map stored_row (filter (is_of number) rows)
