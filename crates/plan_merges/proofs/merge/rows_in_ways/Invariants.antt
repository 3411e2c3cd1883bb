use Rattle.std.proofs.Common.{◌≡◌, take}
use Rattle.std.specs.List.{flat_map}
use Rattle.plan_merges.specs.Merges.{rows_by_slots}
use Rattle.plan_merges.proofs.merge.rows_in_ways.Given as goal

abbrev pub invariant-loop-way : goal.invariant-loop-way
invariant-loop-way l = l.out.items ≡ flat_map (rows_by_slots l.to l.columns l.rows) (take l.way-index l.ways)
