use Rattle.std.proofs.Common.{◌≡◌, ◌≤◌, ◌+◌, ◌++◌, take}
use Rattle.std.specs.List.{filter_map}
use Rattle.plan_merges.specs.Merges.{pair_meeting}
use Rattle.plan_merges.proofs.join.put_pairs_in.Given as goal

abbrev pub invariant-loop-other : goal.invariant-loop-other
invariant-loop-other g l = (l.out.items ≡ l.fn.out.items ++ filter_map (pair_meeting l.cond l.columns l.others l.row) (take l.other-index l.rows)) × (l.steps ≤ l.fn.steps + l.other-index)
