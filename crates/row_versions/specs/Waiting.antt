-- Tables that are taken out for their changes, as they are and as they will be.
use Rattle.std.specs.Prelude.{ℕ, ◌+◌, ◌≤◌, ◌≡◌, List, [], ◌∷◌, ◌++◌, length, set}
use Rattle.plan_tables.specs.declared.rows.TableRows.{TableRows}
use Rattle.row_versions.specs.Marks.{begun_marks, marks_without, rows_ended}
use Rattle.row_versions.specs.Room.{IsRoom}
use Rattle.row_versions.specs.declared.ended.EndedRow.{EndedRow}
use Rattle.row_versions.specs.declared.mark.Mark.{Mark}
use Rattle.row_versions.specs.declared.opened.Opened.{Opened}
use Rattle.table_changes.specs.Changes.{rows_without}
use Rattle.table_changes.specs.declared.change.TableChange.{TableChange}

abbrev pub table_of : Opened → TableRows
table_of one = record { table = one.number; rows = record { columns = one.columns; rows = one.newest.rows.items } }

-- put back at their places, the first one first
abbrev pub tables_back : List Opened → List TableRows → List TableRows
tables_back [] tables = tables
tables_back (one ∷ opened) tables = tables_back opened (set tables one.change.table (table_of one))

abbrev pub marks_back : List Opened → List (List Mark) → List (List Mark)
marks_back [] marks = marks
marks_back (one ∷ opened) marks = marks_back opened (set marks one.change.table one.newest.marks.items)

abbrev pub changes_of : List Opened → List TableChange
changes_of [] = []
changes_of (one ∷ opened) = one.change ∷ changes_of opened

-- A table, its marks and its ended rows after its change by a commit, where this is the next number.
abbrev pub table_after : Opened → TableRows
table_after one = record { table = one.number; rows = record { columns = one.columns; rows = rows_without 0 one.change.ends one.newest.rows.items ++ one.change.begun } }

abbrev pub marks_after : ℕ → ℕ → Opened → List Mark
marks_after k next one = marks_without 0 one.change.ends one.newest.marks.items ++ begun_marks next k one.change.begun

abbrev pub ended_after : ℕ → Opened → List EndedRow
ended_after k one = rows_ended k one.number 0 one.change.ends one.newest.marks.items one.newest.rows.items

-- each row has a mark, and what the rows will be has room
abbrev pub HasRoom : Opened → Type 0
HasRoom one = (length one.newest.marks.items ≡ length one.newest.rows.items) × IsRoom one.change.ends (length one.newest.rows.items + length one.change.begun) one.newest one.kept

abbrev pub HaveRoom : List Opened → Type 0
HaveRoom [] = Unit {0}
HaveRoom (one ∷ opened) = HasRoom one × HaveRoom opened

abbrev pub ends_count : List TableChange → ℕ
ends_count [] = 0
ends_count (change ∷ changes) = length change.ends + ends_count changes

-- as many marks as rows in each table
abbrev pub AreAlike : List (List Mark) → List TableRows → Type 0
AreAlike [] [] = Unit {0}
AreAlike (marks ∷ others) (table ∷ tables) = (length marks ≡ length table.rows.rows) × AreAlike others tables
AreAlike marks tables = ⊥

-- room for those that end, behind the ended ones
abbrev pub HasEndedRoom : Opened → List EndedRow → ℕ → Type 0
HasEndedRoom one ended room = length ended + length one.change.ends ≤ room

-- the table, where it is put back, is the same one
abbrev pub AreTablesBack : List Opened → List TableRows → List Opened → List TableRows → Type 0
AreTablesBack opened tables old_opened old_tables = tables_back opened tables ≡ tables_back old_opened old_tables

abbrev pub AreMarksBack : List Opened → List (List Mark) → List Opened → List (List Mark) → Type 0
AreMarksBack opened marks old_opened old_marks = marks_back opened marks ≡ marks_back old_opened old_marks
