use Rattle.std.proofs.Common.{◌≡◌, max, map, drop}
use Rattle.vra_syntax.specs.Parameters.{greatest_of, param_in_row}
use Rattle.vra_syntax.proofs.count.in_rows.Given as goal

-- the greatest so far and that of what is left make the whole's
abbrev pub invariant-loop-row : goal.invariant-loop-row
invariant-loop-row l = max l.greatest (greatest_of (map param_in_row (drop l.row-index l.rows))) ≡ greatest_of (map param_in_row l.rows)
