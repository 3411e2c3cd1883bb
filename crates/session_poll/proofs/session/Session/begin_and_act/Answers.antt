use Rattle.std.proofs.Common.{rules}
use Rattle.session_poll.proofs.StatementLaws.{acts_ok}
use Rattle.session_poll.proofs.session.Session.begin_and_act.Goals as goal

pub returns-in-None-clause-ok : goal.returns-in-None-clause-ok
returns-in-None-clause-ok g c = acts_ok c.args.statement c.act.result c.args.self.now c.begin.new.self c.act.new.self c.args.store.now c.begin.new.store c.act.new.store (search rules) c.act.ensures.ok
