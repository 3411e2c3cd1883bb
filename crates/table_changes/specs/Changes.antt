-- Changes of tables: of each table's newest rows some end, and others begin behind those that stay.
use Rattle.std.specs.Prelude.{ℕ, ◌+◌, ◌==◌, ◌<◌, ◌≤◌, List, [], ◌∷◌, ◌++◌, length, if◌then◌else◌}
use Rattle.table_changes.specs.declared.change.TableChange.{TableChange}
use Rattle.vtable.specs.declared.table.VRow.{VRow}

-- the rows from a place on, without those at these places
abbrev pub rows_without : ℕ → List ℕ → List VRow → List VRow
rows_without place ends [] = []
rows_without place [] (row ∷ rows) = row ∷ rows
rows_without place (e ∷ ends) (row ∷ rows) = if e == place then rows_without (place + 1) ends rows else row ∷ rows_without (place + 1) (e ∷ ends) rows

-- a table's newest rows after a change of it
abbrev pub after_change : TableChange → List VRow → List VRow
after_change change rows = rows_without 0 change.ends rows ++ change.begun

-- the newest rows of the table with a number, after changes of tables
abbrev pub after_changes : ℕ → List TableChange → List VRow → List VRow
after_changes number [] rows = rows
after_changes number (change ∷ changes) rows = if change.table == number then after_change change rows else after_changes number changes rows

-- the places rise, from the first number on and below the second one
abbrev pub ArePlaces : ℕ → ℕ → List ℕ → Type 0
ArePlaces low count [] = Unit {0}
ArePlaces low count (place ∷ places) = (low ≤ place) × (place < count) × ArePlaces (place + 1) count places

-- the changes are of tables from this number on, each of one with a greater number than the one before
abbrev pub RiseFrom : ℕ → List TableChange → Type 0
RiseFrom low [] = Unit {0}
RiseFrom low (change ∷ changes) = (low ≤ change.table) × RiseFrom (change.table + 1) changes
