-- The transaction rule: where no transaction is open, one begins, and its snapshot is told. To tell it takes no memory.
use Rattle.std.specs.Prelude.{◌≡◌, ℕ, [], ◌∷◌, ◌⊎◌}
use Rattle.session_poll.specs.Courses.{Course, goes, stops}
use Rattle.session_poll.specs.State.{State, in_transaction}
use Rattle.session_replies.specs.Replies.{snapshot_told}
use Rattle.session_replies.specs.declared.refusal.Refusal.TheVariants as refusal
use Rattle.session_transactions.specs.Transactions.{Transaction, Transaction as transactions}
use Rattle.store_events.specs.Events.{Event as event}
use Rattle.stored_versions.specs.Openings.{Opening}

-- a transaction begins over a snapshot
pub record BeginsNew (old : State) (c : Course) : Type 0 where
  pub snapshot : ℕ
  pub course : c ≡ goes (event.Begun snapshot ∷ []) (snapshot_told snapshot ∷ []) (in_transaction (transactions.Implicit snapshot []) old)

-- the store answers a snapshot, that its keeper failed, or want of memory
abbrev pub BeginsIn : Transaction → State → Course → Type 0
BeginsIn transactions.Idle old c =
    BeginsNew old c ⊎ (c ≡ stops (event.KeeperFailed ∷ []) refusal.KeeperFault old) ⊎ (c ≡ stops [] refusal.OutOfMemory old)
BeginsIn (transactions.Implicit snapshot writes) old c = c ≡ goes [] [] old
BeginsIn (transactions.Block snapshot writes) old c = c ≡ goes [] [] old
BeginsIn transactions.Failed old c = c ≡ goes [] [] old

abbrev pub Begins : Opening → State → Course → Type 0
Begins opening old c = BeginsIn old.transaction old c
