use Rattle.std.proofs.Common.{◌≡◌, ◌++◌, take}
use Rattle.plan_merges.specs.Merges.{rows_by_slots}
use Rattle.plan_merges.proofs.merge.put_way.Given as goal

abbrev pub invariant-loop-row : goal.invariant-loop-row
invariant-loop-row l = l.out.items ≡ l.fn.out.items ++ rows_by_slots l.to l.columns (take l.row-index l.rows) l.way
