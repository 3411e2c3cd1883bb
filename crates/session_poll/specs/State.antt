-- Where a session stands between two steps: its phase and its transaction. Each change has a name.
use Rattle.pg_messages.specs.declared.back.Status.{Status}
use Rattle.pg_messages.specs.declared.back.Status.TheVariants as status
use Rattle.session_poll.specs.declared.state.Phase.{Phase}
use Rattle.session_poll.specs.declared.state.Phase.TheVariants as phases
use Rattle.session_transactions.specs.Transactions.{Transaction, Transaction as transactions, broken}

pub record State : Type 0 where
  pub phase : Phase
  pub transaction : Transaction

-- before the first packet
abbrev pub opening_state : State
opening_state = record { phase = phases.Start; transaction = transactions.Idle }

abbrev pub in_phase : Phase → State → State
in_phase phase state = record { phase = phase; transaction = state.transaction }

abbrev pub in_transaction : Transaction → State → State
in_transaction transaction state = record { phase = state.phase; transaction = transaction }

-- no transaction is open
abbrev pub between : State → State
between state = in_transaction transactions.Idle state

-- an error drops the own writes and the snapshot
abbrev pub after_error : State → State
after_error state = in_transaction (broken state.transaction) state

-- what a client is told of the transaction
abbrev pub status_of : Transaction → Status
status_of transactions.Idle = status.Idle
status_of (transactions.Implicit snapshot writes) = status.Idle
status_of (transactions.Block snapshot writes) = status.InBlock
status_of transactions.Failed = status.Failed

-- the transaction is dropped, and nothing is taken any more
abbrev pub ended : State → State
ended state = in_phase phases.Ended (between state)
