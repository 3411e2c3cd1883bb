use Rattle.std.proofs.Common.{◌≡◌, fold, length}
use Rattle.plan_merges.specs.Merges.{rank_cond, with_rank}
use Rattle.plan_merges.proofs.way.rank_cond.Given as goal

abbrev pub decreases-loop-x : goal.decreases-loop-x
decreases-loop-x l = length l.columns

abbrev pub invariant-loop-x : goal.invariant-loop-x
invariant-loop-x l = fold (with_rank l.name l.rank) l.out l.columns ≡ rank_cond l.name l.rank l.fn.columns
