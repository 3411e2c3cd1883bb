-- What the steps of calls make of versions.
use Rattle.std.specs.Prelude.{ℕ, ◌+◌, ◌≡◌, ◌≤◌, List, [], Some, take, slice_get}
use Rattle.std.specs.List.{AllByRecursion}
use Rattle.commit_log.specs.declared.append.Append.{Append}
use Rattle.commit_log.specs.declared.append.Append.TheVariants as append
use Rattle.commit_log.specs.declared.commit.Commit.{Commit}
use Rattle.live_snapshots.specs.Snapshots.{Seen, oldest}
use Rattle.row_versions.specs.Stored.{Stored as Versioned}
use Rattle.stored_versions.specs.Openings.{Opening}
use Rattle.stored_versions.specs.StoredViews.{IsStoredView}
use Rattle.version_lists.specs.Versions.{IsPlaced, cleaned, newest_rows, seen_at}
use Rattle.vschema.specs.declared.catalog.Catalog.{Catalog}
use Rattle.vschema.specs.declared.catalog.Table.{Table}

-- clean-up, where these snapshots live
pub record IsCleaned (live : List Seen) (old new : Versioned) : Type 0 where
  pub columns : new.columns ≡ old.columns
  pub applied : new.applied ≡ old.applied
  pub versions : new.versions ≡ cleaned (oldest live) old.versions

-- Where the newest rows of a table are what the log says before its next commit, they are what it says after it.
pub record IsCarried (log : List Commit) (catalog : Catalog) (old new : Versioned) : Type 0 where
  pub view : (opening : Opening) (number : ℕ) (table : Table) → catalog ≡ opening.catalog → slice_get opening.catalog.tables number ≡ Some table
      → IsStoredView opening (take old.applied log) [] number table (newest_rows number old.versions) → IsStoredView opening (take (old.applied + 1) log) [] number table (newest_rows number new.versions)

-- The next commit of the log was applied: no snapshot before it sees anything else.
pub record IsAdvanced (log : List Commit) (catalog : Catalog) (old new : Versioned) : Type 0 where
  pub columns : new.columns ≡ old.columns
  pub applied : new.applied ≡ old.applied + 1
  pub placed : AllByRecursion (IsPlaced new.applied) new.versions
  pub seen : (s : ℕ) → s ≤ old.applied → seen_at s new.versions ≡ seen_at s old.versions
  pub carried : IsCarried log catalog old new

-- The next commit of the log was applied where it was added, and nothing otherwise.
abbrev pub AppendsTo : List Commit → Catalog → Versioned → Append → Versioned → Type 0
AppendsTo log catalog old (append.At k) new = IsAdvanced log catalog old new
AppendsTo log catalog old answer new = new ≡ old
