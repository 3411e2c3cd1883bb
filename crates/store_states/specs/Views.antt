-- A store over what it was opened over: from the oldest live snapshot on, its versions say what the log says.
use Rattle.std.specs.Prelude.{ℕ, ◌≡◌, ◌≤◌, true, List, [], Some, take, map, length, slice_get}
use Rattle.std.specs.List.{AllByRecursion, list_all}
use Rattle.commit_log.specs.declared.commit.Commit.{Commit}
use Rattle.feature_expr.specs.declared.expr.Expr.{Expr}
use Rattle.live_snapshots.specs.Snapshots.{Seen, oldest}
use Rattle.store_states.specs.Stored.{Stored, log_of, seen_from}
use Rattle.stored_versions.specs.Openings.{Opening}
use Rattle.stored_versions.specs.StoredViews.{IsStoredView}
use Rattle.version_lists.specs.Versions.{Version, may_stay, rows_seen}
use Rattle.vra_types.specs.Check.{Passes}
use Rattle.vschema.specs.Formed.{IsFormed}
use Rattle.vschema.specs.declared.catalog.Table.{Table}
use Rattle.write_meaning.specs.StoredTables.{stored_columns}

-- what the snapshot of so many commits sees of each table is that table after these commits
abbrev pub AreViews : Opening → List Commit → ℕ → List Version → Type 0
AreViews opening commits s versions = (number : ℕ) (table : Table) → slice_get opening.catalog.tables number ≡ Some table →
    IsStoredView opening commits [] number table (rows_seen s number versions)

-- The store was opened over this, and its versions say what the log says, for every snapshot from the oldest live one on.
pub record IsStore (opening : Opening) (store : Stored) : Type 0 where
  pub catalog : store.catalog ≡ opening.catalog
  pub views : (s : ℕ) → seen_from store ≤ s → s ≤ store.rows.applied → AreViews opening (take s (log_of store)) s store.rows.versions

abbrev pub SeesAtMost : ℕ → Seen → Type 0
SeesAtMost applied snap = snap.1 ≤ applied

-- What holds of every store, whatever it was opened over.
pub record IsTidy (store : Stored) : Type 0 where
  -- the catalogue is formed, and would pass its check
  pub formed : IsFormed store.catalog []
  pub passes : Passes store.catalog []
  pub columns : store.rows.columns ≡ map stored_columns store.catalog.tables
  pub applied : store.rows.applied ≤ length (log_of store)
  -- its own commits are no more than the log has
  pub own : store.moment.next ≤ length (log_of store)
  pub live : AllByRecursion (SeesAtMost store.rows.applied) store.live
  -- no version is kept that ended before every live snapshot
  pub clean : list_all (may_stay (oldest store.live)) store.rows.versions ≡ true

-- what it was opened over
pub record IsOpened (store : Stored) : Type 0 where
  pub opening : Opening
  pub is_store : IsStore opening store

-- What holds of a store with this feature model.
pub record IsStanding (model : Expr) (store : Stored) : Type 0 where
  pub model_is : model ≡ store.catalog.model
  pub tidy : IsTidy store
  pub opened : IsOpened store
