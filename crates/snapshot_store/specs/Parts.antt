-- The parts of calls on a store, and what a refused one leaves.
use Rattle.std.specs.Prelude.{ℕ, ◌≡◌, List, [], ◌∷◌, ◌++◌, Some, take, slice_get}
use Rattle.causes.specs.Faults.{Rose}
use Rattle.commit_log.specs.Kept.{Refreshes}
use Rattle.commit_log.specs.declared.refresh.Refresh.{Refresh}
use Rattle.live_snapshots.specs.Snapshots.{NoMark, Seen}
use Rattle.snapshot_store.specs.declared.answers.BeginRefused.{BeginRefused}
use Rattle.snapshot_store.specs.declared.answers.BeginRefused.TheVariants as refused
use Rattle.store_states.specs.Promises.{Leaves, Refused}
use Rattle.store_states.specs.Stored.{Stored, log_of}
use Rattle.store_states.specs.Views.{IsStore}
use Rattle.stored_versions.specs.Catalogues.{written_number}
use Rattle.stored_versions.specs.Databases.{variant_database}
use Rattle.stored_versions.specs.Openings.{Opening}
use Rattle.stored_versions.specs.StoredViews.{IsStoredView}
use Rattle.version_lists.specs.Versions.{rows_seen}
use Rattle.vra_syntax.specs.declared.write.Write.{Write}
use Rattle.vschema.specs.declared.catalog.Table.{Table}
use Rattle.vtable.specs.declared.table.VRow.{VRow}
use Rattle.write_counts.specs.Counts.{IsCount}

-- the log was looked at
pub record IsLooked (old : Stored) (answer : Refresh) (new : Stored) : Type 0 where
  pub leaves : Leaves old new
  pub answered : Refreshes old.moment.kept answer new.moment.kept
  pub next : new.moment.next ≡ old.moment.next
  pub live : new.live ≡ old.live
  pub rows : new.rows ≡ old.rows

-- commits that were seen are applied
pub record Applies (old new : Stored) : Type 0 where
  pub leaves : Leaves old new
  pub moment : new.moment ≡ old.moment
  pub live : new.live ≡ old.live

-- a snapshot of all applied commits
pub record IsMarked (old : Stored) (snap : Seen) (new : Stored) : Type 0 where
  pub leaves : Leaves old new
  pub number : snap.1 ≡ old.rows.applied
  pub fresh : NoMark snap.0 old.live
  pub live : new.live ≡ old.live ++ snap ∷ []
  pub moment : new.moment ≡ old.moment
  pub rows : new.rows ≡ old.rows

abbrev pub RefusesBegin : Stored → BeginRefused → Stored → Type 0
RefusesBegin old refused.KeeperFault new = Refused old new × Rose old.moment.kept.faults new.moment.kept.faults
RefusesBegin old refused.Memory new = Refused old new

-- a table's rows after the snapshot's commits and these writes
pub record AreRowsAt (store : Stored) (snap : Seen) (number : ℕ) (table : Table) (writes : List Write) (rows : List VRow) : Type 0 where
  pub view : (opening : Opening) → IsStore opening store → IsStoredView opening (take snap.1 (log_of store)) writes number table rows
  pub plain : writes ≡ [] → rows ≡ rows_seen snap.1 number store.rows.versions

-- the number in the tag of a write that comes behind these writes
pub record IsCounted (store : Stored) (snap : Seen) (writes : List Write) (write : Write) (count : ℕ) : Type 0 where
  pub counted : (opening : Opening) (number : ℕ) (table : Table) → IsStore opening store → written_number store.catalog write ≡ Some number → slice_get store.catalog.tables number ≡ Some table →
      IsCount store.catalog.model table write (λ c. variant_database c opening (take snap.1 (log_of store)) writes number) count
