use Rattle.std.proofs.Common.{◌≡◌, map, take}
use Rattle.plan_merges.specs.Merges.{row_of_items}
use Rattle.plan_merges.proofs.keep.rows_of_items.Given as goal

abbrev pub invariant-loop-row : goal.invariant-loop-row
invariant-loop-row l = l.out.items ≡ map (row_of_items l.columns l.items) (take l.row-index l.rows)
