use Rattle.std.proofs.Common.{ap, ◌∙◌, arith}
use Rattle.pg_messages.specs.Front.{front_side, front_of}
use Rattle.pg_messages.proofs.FrontLaws.{front_is}
use Rattle.pg_messages.proofs.SideLaws.{again, takes, least}
use Rattle.pg_messages.proofs.Packets.{whole_from, answers_same}
use Rattle.pg_messages.proofs.front_codec.decode_front.Goals as goal

pub returns-clause-whole : goal.returns-clause-whole
returns-clause-whole c = whole_from _ _ _ c.front_at.ensures.exact (λ m n is. takes front_side front_is c.args.bytes.now m n (λ i. omega (arith, c.type_inv.bytes i)) is)

pub returns-clause-within : goal.returns-clause-within
returns-clause-within c = whole_from _ _ _ c.front_at.ensures.exact (λ m n is. let found = takes front_side front_is c.args.bytes.now m n (λ i. omega (arith, c.type_inv.bytes i)) is in (least front_side m n c.args.bytes.now found.1, found.0))

pub returns-clause-read : goal.returns-clause-read
returns-clause-read c = λ m packet rest is same. answers_same _ _ _ c.front_at.ensures.exact (ap front_of same ∙ again front_side front_is m packet rest is)
