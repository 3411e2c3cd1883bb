use Rattle.session_poll.proofs.MoveLaws.{gone_on, query_ended}
use Rattle.session_poll.proofs.session.Session.step.Goals as goal

pub returns-in-Statements : goal.returns-in-Statements
returns-in-Statements g c =
    gone_on c.args.self.now c.go_on.new.self c.args.store.now c.go_on.new.store c.in-Statements.field-0 c.in-Statements.field-1 c.in-Statements.is (c.go_on.ensures c.in-Statements.field-0 c.in-Statements.field-1 c.in-Statements.is)

pub returns-in-Query : goal.returns-in-Query
returns-in-Query g c =
    query_ended c.args.self.now c.end_query.new.self c.args.store.now c.end_query.new.store c.in-Query.field-0 c.in-Query.is (c.end_query.ensures c.in-Query.field-0 c.in-Query.is)
