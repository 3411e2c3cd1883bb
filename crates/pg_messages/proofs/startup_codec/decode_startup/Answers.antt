use Rattle.std.proofs.Common.{ap, ◌∙◌, arith}
use Rattle.pg_messages.specs.Startup.{startup_of}
use Rattle.pg_messages.proofs.StartupLaws.{startup_again, startup_least, startup_takes}
use Rattle.pg_messages.proofs.Packets.{whole_from, answers_same}
use Rattle.pg_messages.proofs.startup_codec.decode_startup.Goals as goal

pub returns-clause-whole : goal.returns-clause-whole
returns-clause-whole c = whole_from _ _ _ c.startup_at.ensures.exact (λ m n is. startup_takes c.args.bytes.now m n (λ i. omega (arith, c.type_inv.bytes i)) is)

pub returns-clause-within : goal.returns-clause-within
returns-clause-within c = whole_from _ _ _ c.startup_at.ensures.exact (λ m n is. let found = startup_takes c.args.bytes.now m n (λ i. omega (arith, c.type_inv.bytes i)) is in (startup_least m n c.args.bytes.now found.1, found.0))

pub returns-clause-read : goal.returns-clause-read
returns-clause-read c = λ m packet rest is same. answers_same _ _ _ c.startup_at.ensures.exact (ap startup_of same ∙ startup_again m packet rest is)
