use Rattle.std.proofs.Common.{◌≡◌, max, map, drop}
use Rattle.vra_syntax.specs.Parameters.{greatest_of, param_in_operand}
use Rattle.vra_syntax.proofs.count.in_row.Given as goal

-- the greatest so far and that of what is left make the whole's
abbrev pub invariant-loop-operand : goal.invariant-loop-operand
invariant-loop-operand l = max l.greatest (greatest_of (map param_in_operand (drop l.operand-index l.row))) ≡ greatest_of (map param_in_operand l.row)
