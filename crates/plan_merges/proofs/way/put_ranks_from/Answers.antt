use Rattle.std.proofs.Common.{◌+◌, ◌++◌, map, ap, ◌∙◌}
use Rattle.plan_merges.proofs.WayLaws.{ranks_more}
use Rattle.plan_merges.specs.Merges.{way_with}
use Rattle.plan_merges.proofs.way.put_ranks_from.Goals as goal

pub loop-rank-preserved : goal.loop-rank-preserved
loop-rank-preserved c =
    ranks_more c.args.name.now c.args.columns.now c.args.ways.now c.args.out.now.items c.loop-rank.out.items c.put_with.new.out.items c.loop-rank.rank
    c.loop-rank.invariant
    (c.in_ok-put_with.ensures ∙ ap (λ cond. c.loop-rank.out.items ++ map (way_with cond c.args.name.now (c.loop-rank.rank + 1)) c.args.ways.now) c.in_ok-cond.ensures)
