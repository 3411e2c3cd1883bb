use Rattle.std.proofs.Common.{◌≡◌, take}
use Rattle.std.specs.List.{flat_map}
use Rattle.plan_merges.specs.Merges.{cells_of_item}
use Rattle.plan_merges.proofs.keep.cells_of_items.Given as goal

abbrev pub invariant-loop-item : goal.invariant-loop-item
invariant-loop-item l = l.out.items ≡ flat_map (cells_of_item l.columns l.cells) (take l.item-index l.items)
