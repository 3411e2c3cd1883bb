-- How a transaction begins, and how it ends.
use Rattle.std.specs.Prelude.{◌≡◌, ◌≢◌, ℕ, List, [], ◌∷◌, Option, Some, None, Result, Ok, Err}
use Rattle.live_snapshots.specs.Snapshots.{Seen, without}
use Rattle.session_transactions.specs.Goings.{Goes}
use Rattle.session_transactions.specs.Transactions.{Transaction as transactions, Transaction, transaction_of, writes_of}
use Rattle.session_transactions.specs.declared.ending.Ending.{Ending}
use Rattle.session_transactions.specs.declared.ending.Ending.TheVariants as ending
use Rattle.session_transactions.specs.declared.transaction.Transaction.{Transaction as Held}
use Rattle.snapshot_store.specs.declared.answers.BeginRefused.{BeginRefused}
use Rattle.snapshot_store.specs.declared.answers.BeginRefused.TheVariants as refused
use Rattle.store_events.specs.Events.{Event, Event as event}
use Rattle.store_events.specs.Ties.{Moment, Ties}
use Rattle.store_states.specs.Promises.{Leaves}
use Rattle.store_states.specs.Stored.{Stored}
use Rattle.vra_syntax.specs.declared.write.Write.{Write}

-- none was open, and one began over the snapshot of so many commits
pub record IsBegun (old : Held) (before : Stored) (snapshot : ℕ) (new : Held) (after : Stored) : Type 0 where
  pub was_idle : transaction_of old ≡ transactions.Idle
  pub begun : transaction_of new ≡ transactions.Implicit snapshot []
  pub goes : Goes old before (event.Begun snapshot ∷ []) new after

-- one is open or has failed, and goes on
pub record IsLeft (old : Held) (before : Stored) (new : Held) (after : Stored) : Type 0 where
  pub not_idle : transaction_of old ≢ transactions.Idle
  pub same : new ≡ old
  pub same_store : after ≡ before

-- what the store answered where it refused a snapshot
abbrev pub refused_events : BeginRefused → List Event
refused_events refused.KeeperFault = event.KeeperFailed ∷ []
refused_events refused.Memory = []

-- none was open, and none is
pub record IsRefused (old : Held) (before : Stored) (why : BeginRefused) (new : Held) (after : Stored) : Type 0 where
  pub was_idle : transaction_of old ≡ transactions.Idle
  pub idle : transaction_of new ≡ transactions.Idle
  pub goes : Goes old before (refused_events why) new after

abbrev pub BeginsAs : Held → Stored → Result (Option ℕ) BeginRefused → Held → Stored → Type 0
BeginsAs old before (Ok (Some snapshot)) new after = IsBegun old before snapshot new after
BeginsAs old before (Ok None) new after = IsLeft old before new after
BeginsAs old before (Err why) new after = IsRefused old before why new after

-- the end came of itself exactly where there were no own writes
abbrev pub IsEndOf : List Write → Ending → Type 0
IsEndOf writes ending.Nothing = writes ≡ []
IsEndOf writes it = writes ≢ []

-- what the store answered to the end of a transaction over a snapshot, with these writes
abbrev pub answered : ℕ → List Write → Moment → Ending → List Event
answered snapshot writes m ending.Nothing = []
answered snapshot writes m (ending.At place) = event.Committed snapshot writes place m.loop_no m.next ∷ []
answered snapshot writes m (ending.Conflict table place) = event.Conflicted snapshot writes table place ∷ []
answered snapshot writes m (ending.Behind place) = event.CameFirst place ∷ []
answered snapshot writes m ending.KeeperFault = event.KeeperFailed ∷ []
answered snapshot writes m (ending.LogFull number) = event.LogFull number ∷ []
answered snapshot writes m ending.Memory = []

abbrev pub end_events : Transaction → Moment → Ending → List Event
end_events transactions.Idle m it = []
end_events (transactions.Implicit snapshot writes) m it = answered snapshot writes m it
end_events (transactions.Block snapshot writes) m it = answered snapshot writes m it
end_events transactions.Failed m it = []

-- Whatever comes of the end, none is open after it.
pub record EndsAs (old : Held) (before : Stored) (it : Ending) (new : Held) (after : Stored) : Type 0 where
  pub which : IsEndOf (writes_of (transaction_of old)) it
  pub idle : transaction_of new ≡ transactions.Idle
  pub goes : Goes old before (end_events (transaction_of old) before.moment it) new after

-- What the end of a transaction over a snapshot, with these writes, leaves of the store: the snapshot isn't live any more.
pub record Spends (before : Stored) (snap : Seen) (writes : List Write) (it : Ending) (after : Stored) : Type 0 where
  pub which : IsEndOf writes it
  pub leaves : Leaves before after
  pub ties : Ties before.moment (answered snap.1 writes before.moment it) after.moment
  pub live : after.live ≡ without snap before.live
