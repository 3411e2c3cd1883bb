use Rattle.std.proofs.Common.{arith}
use Rattle.session_poll.proofs.session.Session.fail.Goals as goal

pub ready-requires : goal.ready-requires
ready-requires g c = omega (arith, c.refuse.ensures.room, c.requires.room)
