-- The newest rows of stored tables, and a change of each of them.
use Rattle.std.specs.Prelude.{ℕ, ◌+◌, ◌==◌, ◌≡◌, Bool, ◌&&◌, List, [], ◌∷◌, length, Some, slice_get}
use Rattle.plan_tables.specs.declared.rows.TableRows.{TableRows}
use Rattle.table_changes.specs.Changes.{ArePlaces}
use Rattle.table_changes.specs.declared.change.TableChange.{TableChange}
use Rattle.vschema.specs.declared.catalog.Table.{Table}
use Rattle.write_meaning.specs.StoredTables.{stored_columns}

-- these are the catalogue's tables from a number on, each under its number and with its stored columns
abbrev pub AreStored : ℕ → List Table → List TableRows → Type 0
AreStored number [] [] = Unit {0}
AreStored number (table ∷ tables) (rows ∷ newest) = (rows.table ≡ number) × (rows.rows.columns ≡ stored_columns table) × AreStored (number + 1) tables newest
AreStored number tables newest = ⊥

-- of a table's rows those end whose places these are
pub record IsOfTable (newest : List TableRows) (change : TableChange) : Type 0 where
  pub rows : TableRows
  pub named : slice_get newest change.table ≡ Some rows
  pub places : ArePlaces 0 (length rows.rows.rows) change.ends

-- each is the change of a table
abbrev pub AreOfTables : List TableRows → List TableChange → Type 0
AreOfTables newest [] = Unit {0}
AreOfTables newest (change ∷ changes) = IsOfTable newest change × AreOfTables newest changes

-- one change of each of the tables from a number on
abbrev pub ArePending : ℕ → List TableRows → List TableChange → Type 0
ArePending number [] [] = Unit {0}
ArePending number (rows ∷ newest) (change ∷ changes) = (change.table ≡ number) × ArePlaces 0 (length rows.rows.rows) change.ends × ArePending (number + 1) newest changes
ArePending number newest changes = ⊥

abbrev pub no_change : TableRows → TableChange
no_change rows = record { table = rows.table; ends = []; begun = [] }

-- whether it changes nothing
abbrev pub is_idle : TableChange → Bool
is_idle change = (length change.ends == 0) && (length change.begun == 0)
