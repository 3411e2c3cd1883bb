-- What a session shows: its state, the bytes that it was fed and has not taken, those that wait to be sent, and whether
-- the input has ended.
use Rattle.std.specs.Prelude.{ℕ, Bool, List}
use Rattle.session_poll.specs.State.{State}
use Rattle.session_poll.specs.declared.session.Session.{Session}
use Rattle.session_transactions.specs.Transactions.{transaction_of}

abbrev pub state_of : Session → State
state_of session = record { phase = session.phase; transaction = transaction_of session.transaction }

abbrev pub held_of : Session → List ℕ
held_of session = session.inbox

abbrev pub waiting_of : Session → List ℕ
waiting_of session = session.output.bytes

-- what it still owes the client: all of it waits
abbrev pub owed_of : Session → List ℕ
owed_of session = waiting_of session

abbrev pub is_over : Session → Bool
is_over session = session.is_over
