use Rattle.std.proofs.Common.{◌≡◌, map, take}
use Rattle.vtable.specs.Configured.{fate_at}
use Rattle.vtable.proofs.configured.fates_at.Given as goal

abbrev pub invariant-loop-column : goal.invariant-loop-column
invariant-loop-column l = l.fates.items ≡ map (fate_at l.config) (take l.column-index l.columns)
