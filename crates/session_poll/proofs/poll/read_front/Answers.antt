use Rattle.std.proofs.Common.{arith}
use Rattle.session_poll.proofs.UnreadLaws.{unread_query}
use Rattle.session_poll.proofs.poll.read_front.Goals as goal

pub returns-clause-unread : goal.returns-clause-unread
returns-clause-unread c =
    unread_query c.args.bytes.now c.decode_front.result (λ i. omega (arith, c.type_inv.bytes i)) c.decode_front.ensures.memory c.decode_front.ensures.kind c.decode_front.ensures.sound
