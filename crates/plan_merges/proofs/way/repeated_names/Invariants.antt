use Rattle.std.proofs.Common.{◌≡◌, fold, length}
use Rattle.plan_merges.specs.Merges.{repeated_names, with_name}
use Rattle.plan_merges.proofs.way.repeated_names.Given as goal

abbrev pub decreases-loop-x : goal.decreases-loop-x
decreases-loop-x l = length l.columns

abbrev pub invariant-loop-x : goal.invariant-loop-x
invariant-loop-x l = fold with_name l.out.items l.columns ≡ repeated_names l.fn.columns
