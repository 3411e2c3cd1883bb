use Rattle.std.proofs.Common.{rules}
use Rattle.session_poll.proofs.StatementLaws.{runs_ok}
use Rattle.session_poll.proofs.session.Session.run.Goals as goal

pub returns-in-None-clause-ok : goal.returns-in-None-clause-ok
returns-in-None-clause-ok g c = runs_ok c.args.statement c.begin_and_act.result c.args.self.now c.begin_and_act.new.self c.args.store.now c.begin_and_act.new.store (search rules) c.begin_and_act.ensures.ok
