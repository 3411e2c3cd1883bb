use Rattle.std.proofs.Common.{◌≡◌, length, max}
use Rattle.plan_merges.specs.Merges.{last_rank}
use Rattle.plan_merges.proofs.way.last_rank.Given as goal

abbrev pub decreases-loop-x : goal.decreases-loop-x
decreases-loop-x l = length l.columns

abbrev pub invariant-loop-x : goal.invariant-loop-x
invariant-loop-x l = max l.last (last_rank l.name l.columns) ≡ last_rank l.name l.fn.columns
