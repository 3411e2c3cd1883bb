use Rattle.std.proofs.Common.{◌≡◌, drop}
use Rattle.std.specs.List.{flat_map}
use Rattle.query_meaning.specs.Names.{unknown_operand}
use Rattle.write_typing.specs.Faults.{possible}
use Rattle.write_typing.specs.Operands.{lent}
use Rattle.write_typing.proofs.operands.unknown_operand.Given as goal

abbrev pub invariant-loop-one : goal.invariant-loop-one
invariant-loop-one l = flat_map (unknown_operand (possible l.columns)) (lent (drop l.one-index l.operands)) ≡ flat_map (unknown_operand (possible l.columns)) (lent l.operands)
