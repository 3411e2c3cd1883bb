use Rattle.std.proofs.Common.{◌≡◌, take}
use Rattle.values.proofs.list.ListTryCopy.copy.Given as goal

-- what was copied so far
abbrev pub invariant-loop-item : goal.invariant-loop-item
invariant-loop-item g l = l.list ≡ take l.item-index l.item-items
