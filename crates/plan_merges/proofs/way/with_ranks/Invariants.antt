use Rattle.std.proofs.Common.{◌≡◌, ◌++◌, length}
use Rattle.plan_merges.specs.Merges.{ranked, ranked_behind, ranked_headings}
use Rattle.plan_merges.proofs.way.with_ranks.Given as goal

abbrev pub decreases-loop-column : goal.decreases-loop-column
decreases-loop-column l = length l.columns

-- the columns so far, and those that are left with them before
abbrev pub invariant-loop-column : goal.invariant-loop-column
invariant-loop-column l = l.out.items ++ ranked_behind (ranked_headings l.out.items) l.columns ≡ ranked l.fn.columns
