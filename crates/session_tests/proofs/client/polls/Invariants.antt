use Rattle.session_transactions.specs.Goings.{FitsStore}
use Rattle.session_tests.proofs.client.polls.Given as goal

abbrev pub invariant-polls : goal.invariant-polls
invariant-polls g l = FitsStore l.session.transaction l.store
