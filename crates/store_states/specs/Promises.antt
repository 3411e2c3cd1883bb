-- What the calls of a store promise: one relation each.
use Rattle.std.specs.Prelude.{ℕ, ◌≡◌, ◌≤◌, [], ◌∷◌, ◌++◌, length}
use Rattle.commit_log.specs.Kept.{Kept, Lasts}
use Rattle.live_snapshots.specs.Snapshots.{NoMark, Seen, without}
use Rattle.store_states.specs.Stored.{Stored, log_of, seen_from}
use Rattle.store_states.specs.Views.{IsStore}
use Rattle.stored_versions.specs.Openings.{Opening}
use Rattle.version_lists.specs.Versions.{seen_at}

-- What every call leaves: the log only grows, the catalogue and the loop's number stay, no commit is taken back, and from
-- the oldest live snapshot on each number of commits has the same versions. Whatever the store was opened over, it is a
-- store over that still.
pub record Leaves (old new : Stored) : Type 0 where
  pub lasts : Lasts old.moment.kept new.moment.kept
  pub catalog : new.catalog ≡ old.catalog
  pub loop_is : new.moment.loop_no ≡ old.moment.loop_no
  pub applied : old.rows.applied ≤ new.rows.applied
  pub later : seen_from old ≤ seen_from new
  pub seen : (s : ℕ) → seen_from new ≤ s → s ≤ old.rows.applied → seen_at s new.rows.versions ≡ seen_at s old.rows.versions
  pub still : (opening : Opening) → IsStore opening old → IsStore opening new

-- A store that was just opened: no snapshot lives, every commit that was seen is applied, and its own commits are
-- numbered from the length of the log.
pub record Opens (opening : Opening) (before : Kept) (loop_no : ℕ) (store : Stored) : Type 0 where
  pub lasts : Lasts before store.moment.kept
  pub own : store.moment.kept.own ≡ before.own
  pub live : store.live ≡ []
  pub loop_is : store.moment.loop_no ≡ loop_no
  pub next : store.moment.next ≡ length (log_of store)
  pub applied : store.rows.applied ≡ length (log_of store)
  pub catalog : store.catalog ≡ opening.catalog
  pub is_store : IsStore opening store

-- a snapshot of all commits that were seen, under a mark that no other has
pub record Begins (old : Stored) (snap : Seen) (new : Stored) : Type 0 where
  pub number : snap.1 ≡ length (log_of new)
  pub applied : new.rows.applied ≡ length (log_of new)
  pub live : new.live ≡ old.live ++ snap ∷ []
  pub fresh : NoMark snap.0 old.live
  pub own : new.moment.kept.own ≡ old.moment.kept.own
  pub next : new.moment.next ≡ old.moment.next

-- what a refused begin leaves: the live snapshots, and no place of its own more
pub record Refused (old new : Stored) : Type 0 where
  pub live : new.live ≡ old.live
  pub own : new.moment.kept.own ≡ old.moment.kept.own
  pub next : new.moment.next ≡ old.moment.next

-- the snapshot isn't live any more, and the log is as before
pub record Releases (old : Stored) (snap : Seen) (new : Stored) : Type 0 where
  pub live : new.live ≡ without snap old.live
  pub moment : new.moment ≡ old.moment
  pub applied : new.rows.applied ≡ old.rows.applied
