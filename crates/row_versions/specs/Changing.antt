-- What changes of tables make of row versions.
use Rattle.std.specs.Prelude.{ℕ, ◌+◌, ◌≡◌, ◌<◌, ◌≤◌, List, [], ◌∷◌, length}
use Rattle.row_versions.specs.Stored.{Stored}
use Rattle.table_changes.specs.Changes.{after_changes}
use Rattle.table_changes.specs.declared.change.TableChange.{TableChange}
use Rattle.version_changes.specs.Changes.{begun_count, with_changes}
use Rattle.version_lists.specs.Versions.{newest_rows, seen_at}

-- each is of one of so many tables
abbrev pub AreWithin : ℕ → List TableChange → Type 0
AreWithin count [] = Unit {0}
AreWithin count (change ∷ changes) = (change.table < count) × AreWithin count changes

-- each is of a table that is there
abbrev pub AreChangesOf : List TableChange → Stored → Type 0
AreChangesOf changes old = AreWithin (length old.columns) changes

-- The next commit: the rows that end end with it, and those that begin, begin with it, under the next numbers.
abbrev pub changed : List TableChange → Stored → Stored
changed changes old = record {
  columns = old.columns;
  versions = with_changes (old.applied + 1) old.next changes old.versions;
  next = old.next + begun_count changes;
  applied = old.applied + 1;
}

-- So the store is the changed one, what a snapshot of the commits before sees stays, and the newest rows of each table are
-- those after its change.
pub record IsChanged (changes : List TableChange) (old new : Stored) : Type 0 where
  pub is : new ≡ changed changes old
  pub seen : (s : ℕ) → s ≤ old.applied → seen_at s new.versions ≡ seen_at s old.versions
  pub newest : (number : ℕ) → newest_rows number new.versions ≡ after_changes number changes (newest_rows number old.versions)
