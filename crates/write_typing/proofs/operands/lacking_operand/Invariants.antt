use Rattle.std.proofs.Common.{◌≡◌, drop}
use Rattle.std.specs.List.{flat_map}
use Rattle.write_typing.specs.Operands.{lent}
use Rattle.write_typing.specs.Values.{operand_without_kind}
use Rattle.write_typing.proofs.operands.lacking_operand.Given as goal

abbrev pub invariant-loop-one : goal.invariant-loop-one
invariant-loop-one l = flat_map (operand_without_kind l.kinds) (lent (drop l.one-index l.operands)) ≡ flat_map (operand_without_kind l.kinds) (lent l.operands)
