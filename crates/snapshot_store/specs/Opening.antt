-- How a store is opened.
use Rattle.std.specs.Prelude.{ℕ, ◌≡◌, [], length}
use Rattle.causes.specs.Faults.{Rose}
use Rattle.commit_log.specs.Kept.{Kept, Lasts}
use Rattle.opened_tables.specs.Opened.{opened_tables}
use Rattle.row_versions.specs.Stored.{opened}
use Rattle.snapshot_store.specs.declared.answers.OpenRefused.{OpenRefused}
use Rattle.snapshot_store.specs.declared.answers.OpenRefused.TheVariants as refused
use Rattle.store_states.specs.Stored.{Stored, log_of, stored}
use Rattle.store_states.specs.Views.{IsStore}
use Rattle.stored_versions.specs.Openings.{Opening}

-- no commit is applied yet
pub record IsFresh (opening : Opening) (kept : Kept) (loop_no : ℕ) (store : Stored) : Type 0 where
  pub is : store ≡ stored kept loop_no (length kept.seen) [] opening.catalog (opened (opened_tables opening.catalog.model opening.catalog.tables opening.rows))
  pub is_store : IsStore opening store

-- what a refused opening leaves of the keeper
pub record LeavesKeeper (before after : Kept) : Type 0 where
  pub lasts : Lasts before after
  pub own : after.own ≡ before.own

abbrev pub RefusesOpen : Kept → OpenRefused → Kept → Type 0
RefusesOpen before refused.KeeperFault after = LeavesKeeper before after × Rose before.faults after.faults
RefusesOpen before refused.Memory after = LeavesKeeper before after
