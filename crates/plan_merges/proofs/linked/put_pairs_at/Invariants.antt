use Rattle.std.proofs.Common.{◌≡◌, ◌≤◌, ◌+◌, ◌++◌, length, slice_get}
use Rattle.std.specs.List.{filter_map}
use Rattle.plan_merges.specs.Merges.{pair_meeting}
use Rattle.plan_merges.proofs.linked.put_pairs_at.Given as goal

abbrev pub decreases-loop-place : goal.decreases-loop-place
decreases-loop-place g l = length l.places

-- the pairs so far, and those at the places that are left, are all
abbrev pub invariant-loop-place : goal.invariant-loop-place
invariant-loop-place g l =
    (l.out.items ++ filter_map (pair_meeting l.cond l.columns l.others l.row) (filter_map (slice_get l.rows) l.places)
    ≡ l.fn.out.items ++ filter_map (pair_meeting l.cond l.columns l.others l.row) (filter_map (slice_get l.rows) l.fn.places))
    × (l.steps + length (filter_map (slice_get l.rows) l.places) ≤ l.fn.steps + length (filter_map (slice_get l.rows) l.fn.places))
