use Rattle.std.proofs.Common.{◌≡◌, length}
use Rattle.plan_merges.specs.Merges.{rank_in}
use Rattle.plan_merges.proofs.way.rank_in.Given as goal

abbrev pub decreases-loop-choice : goal.decreases-loop-choice
decreases-loop-choice l = length l.ranks

abbrev pub invariant-loop-choice : goal.invariant-loop-choice
invariant-loop-choice l = rank_in l.ranks l.name ≡ rank_in l.fn.ranks l.name
