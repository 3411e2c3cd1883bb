use Rattle.std.proofs.Common.{◌≡◌}
use Rattle.plan_merges.specs.Merges.{none_ranked}
use Rattle.plan_merges.proofs.way.none_ranked.Given as goal

abbrev pub invariant-loop-rank : goal.invariant-loop-rank
invariant-loop-rank l = l.out ≡ none_ranked l.name l.columns l.rank
