use Rattle.simple_conditions.proofs.SimplerLaws.{spread_links}
use Rattle.simple_conditions.proofs.chain.+spread.Goals as goal

pub spread_both-returns : goal.spread_both-returns
spread_both-returns t c = spread_links c.args.all c.args.left c.args.first.now c.args.last.now c.in_ok-left.left c.in_ok-whole.whole c.in_ok-left.ensures c.in_ok-whole.ensures
