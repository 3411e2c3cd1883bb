use Rattle.session_poll.proofs.StatementLaws.{writes_err}
use Rattle.session_poll.proofs.session.Session.act.Goals as goal

pub returns-in-Write-clause-err : goal.returns-in-Write-clause-err
returns-in-Write-clause-err g c = writes_err c.args.statement c.in-Write.write c.write.result c.args.self.now c.write.new.self c.args.store.now c.args.store.now c.in-Write.is c.write.ensures.err
