use Rattle.std.proofs.Common.{◌≡◌, length}
use Rattle.std.specs.List.{list_any}
use Rattle.plain_relation.specs.Relations.{same_name}
use Rattle.plan_merges.proofs.way.has_name.Given as goal

abbrev pub decreases-loop-one : goal.decreases-loop-one
decreases-loop-one l = length l.names

abbrev pub invariant-loop-one : goal.invariant-loop-one
invariant-loop-one l = list_any (same_name l.name) l.names ≡ list_any (same_name l.name) l.fn.names
