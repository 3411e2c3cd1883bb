use Rattle.std.proofs.Common.{◌≡◌, map, take}
use Rattle.vra_syntax.specs.declared.write.SetItem.{SetItem}
use Rattle.vschema.specs.Variants.{bare_name}
use Rattle.write_typing.proofs.names.item_names.Given as goal

abbrev pub invariant-loop-item : goal.invariant-loop-item
invariant-loop-item l = l.found.items ≡ map bare_name (map (λ (item : SetItem). item.column) (take l.item-index l.items))
