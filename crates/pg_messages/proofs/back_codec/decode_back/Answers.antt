use Rattle.std.proofs.Common.{ap, ◌∙◌, arith}
use Rattle.pg_messages.specs.Back.{back_side, back_of}
use Rattle.pg_messages.proofs.BackLaws.{back_is}
use Rattle.pg_messages.proofs.SideLaws.{again, takes, least}
use Rattle.pg_messages.proofs.Packets.{whole_from, answers_same}
use Rattle.pg_messages.proofs.back_codec.decode_back.Goals as goal

pub returns-clause-whole : goal.returns-clause-whole
returns-clause-whole c = whole_from _ _ _ c.back_at.ensures.exact (λ m n is. takes back_side back_is c.args.bytes.now m n (λ i. omega (arith, c.type_inv.bytes i)) is)

pub returns-clause-within : goal.returns-clause-within
returns-clause-within c = whole_from _ _ _ c.back_at.ensures.exact (λ m n is. let found = takes back_side back_is c.args.bytes.now m n (λ i. omega (arith, c.type_inv.bytes i)) is in (least back_side m n c.args.bytes.now found.1, found.0))

pub returns-clause-read : goal.returns-clause-read
returns-clause-read c = λ m packet rest is same. answers_same _ _ _ c.back_at.ensures.exact (ap back_of same ∙ again back_side back_is m packet rest is)
