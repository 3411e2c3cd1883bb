use Rattle.std.proofs.Common.{◌≡◌, ◌++◌}
use Rattle.plan_merges.specs.Merges.{ways_ranked}
use Rattle.plan_merges.proofs.way.put_ranks_from.Given as goal

abbrev pub invariant-loop-rank : goal.invariant-loop-rank
invariant-loop-rank l = l.out.items ≡ l.fn.out.items ++ ways_ranked l.name l.columns l.rank l.ways
