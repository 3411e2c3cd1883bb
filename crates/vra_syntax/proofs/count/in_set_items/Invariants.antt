use Rattle.std.proofs.Common.{◌≡◌, max, map, drop}
use Rattle.vra_syntax.specs.Parameters.{greatest_of, param_in_set_item}
use Rattle.vra_syntax.proofs.count.in_set_items.Given as goal

-- the greatest so far and that of what is left make the whole's
abbrev pub invariant-loop-item : goal.invariant-loop-item
invariant-loop-item l = max l.greatest (greatest_of (map param_in_set_item (drop l.item-index l.items))) ≡ greatest_of (map param_in_set_item l.items)
