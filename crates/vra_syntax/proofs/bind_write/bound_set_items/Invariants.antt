use Rattle.std.proofs.Common.{◌≡◌, map, take}
use Rattle.vra_syntax.specs.Binding.{bound_set_item}
use Rattle.vra_syntax.proofs.bind_write.bound_set_items.Given as goal

-- what was bound so far
abbrev pub invariant-loop-item : goal.invariant-loop-item
invariant-loop-item l = l.bound.items ≡ map (bound_set_item l.values) (take l.item-index l.items)
