use Rattle.std.proofs.Common.{◌≡◌, map, take}
use Rattle.vtable.specs.Passes.{fate_of}
use Rattle.vtable.proofs.decision.fates_of.Given as goal

abbrev pub invariant-loop-column : goal.invariant-loop-column
invariant-loop-column l = l.fates.items ≡ map (fate_of l.model l.cond) (take l.column-index l.columns)
