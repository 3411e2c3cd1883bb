use Rattle.query_typing.proofs.WaitingLaws.{waiting_pushed}
use Rattle.query_typing.proofs.cond_cases.put_one.Goals as goal

pub returns-clause-cases : goal.returns-clause-cases
returns-clause-cases c = λ d kinds columns. waiting_pushed d kinds columns c.args.waiting.now.items c.push.new.self.items (record { path = c.args.path; cond = c.args.inner }) c.in_ok-push.ensures.items
