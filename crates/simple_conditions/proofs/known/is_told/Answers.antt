use Rattle.std.proofs.Common.{true, false}
use Rattle.simple_conditions.proofs.KnownLaws.{not_as_link}
use Rattle.simple_conditions.proofs.known.is_told.Goals as goal

pub returns-then-value : goal.returns-then-value
returns-then-value c = rw c.if-value.true (λ is k holds fails. not_as_link k c.args.expr.now c.args.fails.now true (c.is_link.ensures is k) fails)

pub returns-else-value : goal.returns-else-value
returns-else-value c = rw c.if-value.false (λ is k holds fails. not_as_link k c.args.expr.now c.args.holds.now false (c.is_link-else-value.ensures is k) holds)
