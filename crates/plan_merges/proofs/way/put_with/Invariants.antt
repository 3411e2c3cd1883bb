use Rattle.std.proofs.Common.{◌≡◌, ◌++◌, map, take}
use Rattle.plan_merges.specs.Merges.{way_with}
use Rattle.plan_merges.proofs.way.put_with.Given as goal

abbrev pub invariant-loop-way : goal.invariant-loop-way
invariant-loop-way l = l.out.items ≡ l.fn.out.items ++ map (way_with l.cond l.name l.rank) (take l.way-index l.ways)
