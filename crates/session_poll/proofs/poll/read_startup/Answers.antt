use Rattle.std.proofs.Common.{arith}
use Rattle.session_poll.proofs.UnreadLaws.{unread_startup}
use Rattle.session_poll.proofs.poll.read_startup.Goals as goal

pub returns-clause-unread : goal.returns-clause-unread
returns-clause-unread c =
    unread_startup c.args.bytes.now c.decode_startup.result (λ i. omega (arith, c.type_inv.bytes i)) c.decode_startup.ensures.memory c.decode_startup.ensures.kind c.decode_startup.ensures.sound
