use Rattle.std.proofs.Common.{true, false}
use Rattle.simple_conditions.proofs.SimplerLaws.{of_sides}
use Rattle.simple_conditions.proofs.chain.joined.Goals as goal

pub returns-in_ok-whole : goal.returns-in_ok-whole
returns-in_ok-whole c = let e = c.in_ok-whole.ensures in rw c.if-all.true (of_sides true c.args.left c.args.right c.in_ok-whole.whole e.meaning e.weight e.features)

pub returns-in_ok-whole-2 : goal.returns-in_ok-whole-2
returns-in_ok-whole-2 c = let e = c.in_ok-whole-2.ensures in rw c.if-all.false (of_sides false c.args.left c.args.right c.in_ok-whole-2.whole e.meaning e.weight e.features)
