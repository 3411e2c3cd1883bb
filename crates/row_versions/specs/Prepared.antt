-- Tables that are taken out for their changes, with all that is still to be done.
use Rattle.std.specs.Prelude.{ℕ, ◌+◌, ◌<◌, ◌≤◌, ◌≡◌, ◌^◌, List, length}
use Rattle.std.specs.VecDeque.{deque_capacity}
use Rattle.plan_tables.specs.declared.rows.TableRows.{TableRows}
use Rattle.row_versions.specs.Changing.{AreWithin, changed}
use Rattle.row_versions.specs.Holdings.{IsHolding, stored}
use Rattle.row_versions.specs.Stored.{Stored}
use Rattle.row_versions.specs.Waiting.{HaveRoom, changes_of, ends_count, marks_back, tables_back}
use Rattle.row_versions.specs.declared.ended.EndedRow.{EndedRow}
use Rattle.row_versions.specs.declared.held.Held.{Held}
use Rattle.row_versions.specs.declared.mark.Mark.{Mark}
use Rattle.row_versions.specs.declared.opened.Opened.{Opened}
use Rattle.table_changes.specs.Changes.{RiseFrom}
use Rattle.version_changes.specs.Changes.{begun_count}

-- as they are while nothing is changed
abbrev pub stored_back : List Opened → List EndedRow → List (List Mark) → List TableRows → ℕ → ℕ → Stored
stored_back opened ended marks tables next applied = stored ended (marks_back opened marks) (tables_back opened tables) next applied

-- Nothing is changed yet, and there is room for all that will be.
pub record IsPrepared (opened : List Opened) (ended : List EndedRow) (marks : List (List Mark)) (tables : List TableRows) (next applied ended_room : ℕ) : Type 0 where
  pub holding : IsHolding ended (marks_back opened marks) (tables_back opened tables) next applied
  pub rising : RiseFrom 0 (changes_of opened)
  pub within : AreWithin (length tables) (changes_of opened)
  pub many : length marks ≡ length tables
  pub room : HaveRoom opened
  pub ended_fit : length ended + ends_count (changes_of opened) ≤ ended_room
  pub numbers : next + begun_count (changes_of opened) < 2 ^ 64
  pub commits : applied + 1 < 2 ^ 64

-- The same of what is held as lists that can be written.

abbrev pub stored_held : Held → ℕ → Stored
stored_held held applied = stored held.ended.items held.marks.items held.tables.items held.next applied

abbrev pub IsHeld : Held → ℕ → Type 0
IsHeld held applied = IsHolding held.ended.items held.marks.items held.tables.items held.next applied

abbrev pub before : List Opened → Held → ℕ → Stored
before opened held applied = stored_back opened held.ended.items held.marks.items held.tables.items held.next applied

abbrev pub after : List Opened → Held → ℕ → Stored
after opened held applied = changed (changes_of opened) (before opened held applied)

abbrev pub IsReady : List Opened → Held → ℕ → Type 0
IsReady opened held applied = IsPrepared opened held.ended.items held.marks.items held.tables.items held.next applied (deque_capacity held.ended)
