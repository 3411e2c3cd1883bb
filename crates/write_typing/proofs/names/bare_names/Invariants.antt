use Rattle.std.proofs.Common.{◌≡◌, map, take}
use Rattle.vschema.specs.Variants.{bare_name}
use Rattle.write_typing.proofs.names.bare_names.Given as goal

abbrev pub invariant-loop-name : goal.invariant-loop-name
invariant-loop-name l = l.found.items ≡ map bare_name (take l.name-index l.names)
