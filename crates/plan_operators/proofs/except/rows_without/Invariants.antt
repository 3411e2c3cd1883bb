use Rattle.std.proofs.Common.{◌≡◌, take}
use Rattle.std.specs.List.{filter_map}
use Rattle.plan_operators.specs.Operators.{row_without}
use Rattle.plan_operators.proofs.except.rows_without.Given as goal

abbrev pub invariant-loop-row : goal.invariant-loop-row
invariant-loop-row l = l.out.items ≡ filter_map (row_without l.columns l.right) (take l.row-index l.rows)
