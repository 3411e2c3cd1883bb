use Rattle.std.proofs.Common.{◌≡◌, take}
use Rattle.std.specs.List.{flat_map}
use Rattle.plan_merges.specs.Merges.{columns_of_item}
use Rattle.plan_merges.proofs.keep.columns_of_items.Given as goal

abbrev pub invariant-loop-item : goal.invariant-loop-item
invariant-loop-item l = l.out.items ≡ flat_map (columns_of_item l.columns) (take l.item-index l.items)
