-- How row versions are held: the newest rows of each table, with a mark beside each, and apart from them, in the order of
-- their ends, those that have ended. Contracts see one list, in the order of the versions' numbers.
use Rattle.std.specs.Prelude.{ℕ, ◌+◌, ◌≤◌, ◌≡◌, List, [], ◌∷◌, ◌++◌, Some, None, map}
use Rattle.std.specs.List.{AllByRecursion}
use Rattle.plan_tables.specs.declared.rows.TableRows.{TableRows}
use Rattle.row_versions.specs.Stored.{Stored, columns_of}
use Rattle.row_versions.specs.declared.ended.EndedRow.{EndedRow}
use Rattle.row_versions.specs.declared.mark.Mark.{Mark}
use Rattle.version_lists.specs.Orders.{AreLower, in_order}
use Rattle.version_lists.specs.Versions.{AreNumbered, IsPlaced, Version}
use Rattle.vtable.specs.declared.table.VRow.{VRow}

abbrev pub ended_row : EndedRow → Version
ended_row e = record { number = e.number; table = e.table; begins = e.begins; ends = Some e.ends; row = e.row }

abbrev pub newest_row : ℕ → Mark → VRow → Version
newest_row table mark row = record { number = mark.number; table = table; begins = mark.begins; ends = None; row = row }

abbrev pub newest_of : ℕ → List Mark → List VRow → List Version
newest_of table [] rows = []
newest_of table (mark ∷ marks) [] = []
newest_of table (mark ∷ marks) (row ∷ rows) = newest_row table mark row ∷ newest_of table marks rows

-- of all tables
abbrev pub all_newest : List (List Mark) → List TableRows → List Version
all_newest [] tables = []
all_newest (marks ∷ others) [] = []
all_newest (marks ∷ others) (table ∷ tables) = newest_of table.table marks table.rows.rows ++ all_newest others tables

abbrev pub held : List EndedRow → List (List Mark) → List TableRows → List Version
held ended marks tables = map ended_row ended ++ all_newest marks tables

-- each row has its mark, and the numbers ascend
abbrev pub AreMarked : ℕ → List Mark → List VRow → Type 0
AreMarked low [] [] = Unit {0}
AreMarked low (mark ∷ marks) (row ∷ rows) = (low ≤ mark.number) × AreMarked (mark.number + 1) marks rows
AreMarked low marks rows = ⊥

-- each table has its number and its marks
abbrev pub AreTables : ℕ → List (List Mark) → List TableRows → Type 0
AreTables number [] [] = Unit {0}
AreTables number (marks ∷ others) (table ∷ tables) = (table.table ≡ number) × AreMarked 0 marks table.rows.rows × AreTables (number + 1) others tables
AreTables number marks tables = ⊥

-- none has ended before the one in front of it
abbrev pub AreEnded : ℕ → List EndedRow → Type 0
AreEnded low [] = Unit {0}
AreEnded low (e ∷ ended) = (low ≤ e.ends) × AreEnded e.ends ended

abbrev pub stored : List EndedRow → List (List Mark) → List TableRows → ℕ → ℕ → Stored
stored ended marks tables next applied = record { columns = columns_of tables; versions = in_order (held ended marks tables); next = next; applied = applied }

-- No number is given twice, those given are below the next one, and each version begins, and ends if it does, with an
-- applied commit, in this order.
pub record IsKept (it : Stored) : Type 0 where
  pub numbered : AreNumbered 0 it.versions
  pub lower : AreLower it.next it.versions
  pub placed : AllByRecursion (IsPlaced it.applied) it.versions

pub record IsHolding (ended : List EndedRow) (marks : List (List Mark)) (tables : List TableRows) (next applied : ℕ) : Type 0 where
  pub kept : IsKept (stored ended marks tables next applied)
  pub in_turn : AreEnded 0 ended
  pub marked : AreTables 0 marks tables
