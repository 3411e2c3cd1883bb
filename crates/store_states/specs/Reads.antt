-- What is read of a store.
use Rattle.std.specs.Prelude.{ℕ, ◌+◌, ◌≡◌, List, [], ◌∷◌, Some, take, slice_get}
use Rattle.live_snapshots.specs.Snapshots.{Seen}
use Rattle.plan_tables.specs.declared.rows.TableRows.{TableRows}
use Rattle.store_states.specs.Stored.{Stored, log_of}
use Rattle.store_states.specs.Views.{IsStore}
use Rattle.stored_versions.specs.Openings.{Opening}
use Rattle.stored_versions.specs.StoredViews.{IsStoredView}
use Rattle.version_lists.specs.Versions.{Version, rows_seen}
use Rattle.vra_syntax.specs.declared.write.Write.{Write}
use Rattle.vschema.specs.declared.catalog.Table.{Table}
use Rattle.vtable.specs.declared.table.VTable.{VTable}
use Rattle.write_meaning.specs.StoredTables.{stored_columns, stored_table}

-- the tables from a number on, each with the rows that the snapshot of so many commits sees
abbrev pub seen_tables : ℕ → ℕ → List Table → List Version → List TableRows
seen_tables s number [] versions = []
seen_tables s number (table ∷ tables) versions = record { table = number; rows = stored_table table (rows_seen s number versions) } ∷ seen_tables s (number + 1) tables versions

-- A table after the snapshot's commits and these writes. Without writes its rows are those that the snapshot sees, one for
-- each version.
pub record IsRowsAt (store : Stored) (snap : Seen) (number : ℕ) (writes : List Write) (result : VTable) : Type 0 where
  pub columns : (table : Table) → slice_get store.catalog.tables number ≡ Some table → result.columns ≡ stored_columns table
  pub view : (opening : Opening) (table : Table) → IsStore opening store → slice_get store.catalog.tables number ≡ Some table →
      IsStoredView opening (take snap.1 (log_of store)) writes number table result.rows
  pub plain : writes ≡ [] → result.rows ≡ rows_seen snap.1 number store.rows.versions
