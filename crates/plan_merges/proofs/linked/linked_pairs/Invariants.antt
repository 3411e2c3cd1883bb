use Rattle.std.proofs.Common.{◌≡◌, ◌≤◌, ◌+◌, ◌*◌, length, take}
use Rattle.std.specs.List.{flat_map}
use Rattle.plan_merges.specs.Merges.{pairs_of_row}
use Rattle.plan_merges.proofs.linked.linked_pairs.Given as goal

abbrev pub invariant-loop-row : goal.invariant-loop-row
invariant-loop-row g l = (l.out.items ≡ flat_map (pairs_of_row l.cond l.columns l.right) (take l.row-index l.rows)) × (l.steps ≤ l.fn.steps + l.row-index * length l.right.rows)
