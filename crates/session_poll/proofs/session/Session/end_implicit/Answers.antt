use Rattle.session_poll.proofs.CommitLaws.{block_stays, failed_stays, idle_stays}
use Rattle.session_poll.proofs.session.Session.end_implicit.Goals as goal

pub returns-in-Idle-clause-done : goal.returns-in-Idle-clause-done
returns-in-Idle-clause-done g c = idle_stays c.args.self.now c.args.store.now c.in-Idle.is

pub returns-in-Block-clause-done : goal.returns-in-Block-clause-done
returns-in-Block-clause-done g c = block_stays _ _ c.args.self.now c.args.store.now c.in-Block.is

pub returns-in-Failed-clause-done : goal.returns-in-Failed-clause-done
returns-in-Failed-clause-done g c = failed_stays c.args.self.now c.args.store.now c.in-Failed.is
