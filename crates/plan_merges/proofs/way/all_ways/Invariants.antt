use Rattle.std.proofs.Common.{◌≡◌, vec_len}
use Rattle.plan_merges.specs.Merges.{all_ways, with_ways}
use Rattle.plan_merges.proofs.way.all_ways.Given as goal

abbrev pub decreases-loop-name : goal.decreases-loop-name
decreases-loop-name l = vec_len l.names

abbrev pub invariant-loop-name : goal.invariant-loop-name
invariant-loop-name l = with_ways l.columns l.names.items l.ways.items ≡ all_ways l.fn.names.items l.columns
