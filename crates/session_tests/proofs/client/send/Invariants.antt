use Rattle.session_transactions.specs.Goings.{FitsStore, IsBeside}
use Rattle.session_transactions.specs.declared.transaction.Transaction.{Transaction}
use Rattle.session_tests.proofs.client.send.Given as goal

-- the session fits the store, and those beside it stay so
abbrev pub invariant-polls : goal.invariant-polls
invariant-polls g l = record {
  fits : FitsStore l.session.transaction l.store;
  beside : (other : Transaction) → IsBeside l.fn.session.transaction other l.fn.store → IsBeside l.session.transaction other l.store;
}
