use Rattle.session_poll.proofs.MoveLaws.{handled, message_bad}
use Rattle.session_poll.proofs.session.Session.take_message.Goals as goal

pub returns-in-Whole : goal.returns-in-Whole
returns-in-Whole g c =
    handled c.args.self.now c.discard.new.self c.handle.new.self c.args.store.now c.handle.new.store c.in-Whole.message c.in-Whole.count c.requires.phase c.discard.ensures c.handle.ensures c.in-Whole.ensures.whole c.in-Whole.ensures.exact

pub returns-in-Bad : goal.returns-in-Bad
returns-in-Bad g c =
    message_bad c.args.self.now c.discard_all.new.self c.reject.new.self c.args.store.now c.reject.new.store c.in-Bad._place c.in-Bad._why c.requires.phase c.in-Bad.ensures.exact c.discard_all.ensures c.reject.ensures
