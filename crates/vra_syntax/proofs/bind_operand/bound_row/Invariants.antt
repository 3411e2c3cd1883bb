use Rattle.std.proofs.Common.{◌≡◌, map, take}
use Rattle.vra_syntax.specs.Binding.{bound_operand}
use Rattle.vra_syntax.proofs.bind_operand.bound_row.Given as goal

-- what was bound so far
abbrev pub invariant-loop-operand : goal.invariant-loop-operand
invariant-loop-operand l = l.bound.items ≡ map (bound_operand l.values) (take l.operand-index l.row)
