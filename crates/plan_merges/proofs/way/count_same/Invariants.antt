use Rattle.std.proofs.Common.{◌≡◌, ◌≤◌, take}
use Rattle.plan_merges.specs.Merges.{count_same, ranked_headings}
use Rattle.plan_tables.specs.Tables.{heading}
use Rattle.plan_merges.proofs.way.count_same.Given as goal

abbrev pub invariant-loop-x : goal.invariant-loop-x
invariant-loop-x l = (l.count ≡ count_same (heading l.key) (ranked_headings (take l.x-index l.columns))) × (l.count ≤ l.x-index)
