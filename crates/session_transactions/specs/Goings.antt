-- What the calls of one session's transaction leave of its store, and of the transactions of other sessions.
use Rattle.std.specs.Prelude.{◌≡◌, ◌≢◌, ◌⊎◌, true, List, Option, Some, None}
use Rattle.live_snapshots.specs.Snapshots.{IsLive, Seen}
use Rattle.session_transactions.specs.Transactions.{snap_of, transaction_of, writes_of}
use Rattle.session_transactions.specs.declared.transaction.Transaction.{Transaction as Held}
use Rattle.store_events.specs.Events.{Event}
use Rattle.store_events.specs.Ties.{Ties}
use Rattle.store_states.specs.Promises.{Leaves}
use Rattle.store_states.specs.Stored.{Stored}
use Rattle.stored_versions.specs.Logs.{all_taken}

-- the snapshot, if there is one, is live
abbrev pub IsHeld : Option Seen → List Seen → Type 0
IsHeld None live = Unit {0}
IsHeld (Some snap) live = IsLive live snap

-- a snapshot of another mark than the one that is held
abbrev pub IsApart : Option Seen → Seen → Type 0
IsApart None other = Unit {0}
IsApart (Some snap) other = snap.0 ≢ other.0

-- a snapshot of the mark of the one that is held
abbrev pub IsOwn : Option Seen → Seen → Type 0
IsOwn None other = ⊥
IsOwn (Some snap) other = snap.0 ≡ other.0

-- the two, if both are there, have two marks
abbrev pub AreApart : Option Seen → Option Seen → Type 0
AreApart one None = Unit {0}
AreApart one (Some other) = IsApart one other

-- It can go on over the store: its snapshot is live, and each of its own writes counts.
pub record FitsStore (it : Held) (store : Stored) : Type 0 where
  pub held : IsHeld (snap_of it) store.live
  pub taken : all_taken store.catalog (writes_of (transaction_of it)) ≡ true

-- From one moment of the store to another the transaction went on so, and this is all that the store answered it. The
-- snapshots of others that were live still are, and what is live is theirs or its own.
pub record Goes (old : Held) (before : Stored) (events : List Event) (new : Held) (after : Stored) : Type 0 where
  pub leaves : Leaves before after
  pub ties : Ties before.moment events after.moment
  pub fits : FitsStore old before → FitsStore new after
  pub others : (other : Seen) → IsLive before.live other → IsApart (snap_of old) other → IsLive after.live other × IsApart (snap_of new) other
  pub live : (other : Seen) → IsLive after.live other → (IsLive before.live other × IsApart (snap_of old) other) ⊎ IsOwn (snap_of new) other

-- A transaction of another session can go on, and its snapshot isn't this one's.
pub record IsBeside (it other : Held) (store : Stored) : Type 0 where
  pub fits : FitsStore other store
  pub apart : AreApart (snap_of it) (snap_of other)
