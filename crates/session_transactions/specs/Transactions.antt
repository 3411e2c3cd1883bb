-- The transaction of one session, and what is made of it.
use Rattle.std.specs.Prelude.{ℕ, Bool, true, false, List, [], ◌∷◌, ◌++◌, Option, Some, None}
use Rattle.live_snapshots.specs.Snapshots.{Seen}
use Rattle.session_transactions.specs.declared.transaction.Transaction.{Transaction as Held}
use Rattle.session_transactions.specs.declared.transaction.Transaction.TheVariants as held
use Rattle.vra_syntax.specs.declared.write.Write.{Write}

-- None is open; a statement began one, over the snapshot of so many commits, with its own writes; BEGIN began it; an
-- error came in one that BEGIN began.
pub data Transaction : Type 0 where
  Idle : Transaction
  Implicit : (snapshot : ℕ) (writes : List Write) → Transaction
  Block : (snapshot : ℕ) (writes : List Write) → Transaction
  Failed : Transaction

-- what clients are told of it: of its snapshot the number
abbrev pub transaction_of : Held → Transaction
transaction_of held.Idle = Transaction.Idle
transaction_of (held.Implicit snap writes) = Transaction.Implicit snap.1 writes
transaction_of (held.Block snap writes) = Transaction.Block snap.1 writes
transaction_of held.Failed = Transaction.Failed

-- the snapshot of an open one
abbrev pub snap_of : Held → Option Seen
snap_of held.Idle = None
snap_of (held.Implicit snap writes) = Some snap
snap_of (held.Block snap writes) = Some snap
snap_of held.Failed = None

-- BEGIN
abbrev pub blocked : Transaction → Transaction
blocked Transaction.Idle = Transaction.Idle
blocked (Transaction.Implicit snapshot writes) = Transaction.Block snapshot writes
blocked (Transaction.Block snapshot writes) = Transaction.Block snapshot writes
blocked Transaction.Failed = Transaction.Failed

-- one more own write
abbrev pub wrote : Write → Transaction → Transaction
wrote write Transaction.Idle = Transaction.Idle
wrote write (Transaction.Implicit snapshot writes) = Transaction.Implicit snapshot (writes ++ write ∷ [])
wrote write (Transaction.Block snapshot writes) = Transaction.Block snapshot (writes ++ write ∷ [])
wrote write Transaction.Failed = Transaction.Failed

-- what an error leaves of it
abbrev pub broken : Transaction → Transaction
broken Transaction.Idle = Transaction.Idle
broken (Transaction.Implicit snapshot writes) = Transaction.Idle
broken (Transaction.Block snapshot writes) = Transaction.Failed
broken Transaction.Failed = Transaction.Failed

abbrev pub writes_of : Transaction → List Write
writes_of Transaction.Idle = []
writes_of (Transaction.Implicit snapshot writes) = writes
writes_of (Transaction.Block snapshot writes) = writes
writes_of Transaction.Failed = []

-- the number of the snapshot of an open one
abbrev pub snapshot_of : Transaction → Option ℕ
snapshot_of Transaction.Idle = None
snapshot_of (Transaction.Implicit snapshot writes) = Some snapshot
snapshot_of (Transaction.Block snapshot writes) = Some snapshot
snapshot_of Transaction.Failed = None

abbrev pub is_open : Transaction → Bool
is_open Transaction.Idle = false
is_open (Transaction.Implicit snapshot writes) = true
is_open (Transaction.Block snapshot writes) = true
is_open Transaction.Failed = false

-- BEGIN began it, and no error came in it
abbrev pub is_block : Transaction → Bool
is_block Transaction.Idle = false
is_block (Transaction.Implicit snapshot writes) = false
is_block (Transaction.Block snapshot writes) = true
is_block Transaction.Failed = false

abbrev pub is_failed : Transaction → Bool
is_failed Transaction.Idle = false
is_failed (Transaction.Implicit snapshot writes) = false
is_failed (Transaction.Block snapshot writes) = false
is_failed Transaction.Failed = true
