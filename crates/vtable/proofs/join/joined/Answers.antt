use Rattle.std.proofs.Common.{refl}
use Rattle.vtable.proofs.JoinLaws.{joined_more}
use Rattle.vtable.proofs.join.joined.Goals as goal

pub returns : goal.returns
returns c = joined_more _ c.args.group _ c.in_ok-whole.whole c.in_ok-whole.ensures.holds c.in_ok-whole.ensures.weight c.in_ok-whole.ensures.known refl c.in_ok-cond.ensures
