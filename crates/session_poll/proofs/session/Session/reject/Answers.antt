use Rattle.std.proofs.Common.{rules}
use Rattle.session_poll.proofs.QueryLaws.{rejected}
use Rattle.session_poll.proofs.session.Session.reject.Goals as goal

pub returns : goal.returns
returns g c = rejected c.args.self.now _ c.end.new.self c.args.store.now c.end.new.store c.end.ensures c.refuse_fixed.ensures.bytes (search rules)
