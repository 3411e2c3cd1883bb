use Rattle.session_transactions.proofs.EndLaws.{begins_over}
use Rattle.session_transactions.proofs.transaction.Transaction.begin.Goals as goal

-- src/begin.rt
pub returns : goal.returns
returns g c =
    begins_over c.args.self.now c.args.store.now c.begin.new.self c.in_ok-snap.snap c.new.result c.number-number.result
    c.in-Idle.is c.number-number.ensures c.new.ensures c.in_ok-snap.ensures.leaves c.in_ok-snap.ensures.begun
