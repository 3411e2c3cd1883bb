use Rattle.session_poll.proofs.MoveLaws.{started, start_bad}
use Rattle.session_poll.proofs.session.Session.take_startup.Goals as goal

pub returns-in-Whole : goal.returns-in-Whole
returns-in-Whole g c =
    started c.args.self.now c.discard.new.self c.start_up.new.self c.args.store.now c.start_up.new.store c.in-Whole.packet c.in-Whole.count c.requires.phase c.discard.ensures c.start_up.ensures c.in-Whole.ensures.whole c.in-Whole.ensures.exact

pub returns-in-Bad : goal.returns-in-Bad
returns-in-Bad g c =
    start_bad c.args.self.now c.discard_all.new.self c.reject.new.self c.args.store.now c.reject.new.store c.in-Bad._place c.in-Bad._why c.requires.phase c.in-Bad.ensures.exact c.discard_all.ensures c.reject.ensures
