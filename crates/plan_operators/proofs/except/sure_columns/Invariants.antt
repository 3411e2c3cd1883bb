use Rattle.std.proofs.Common.{◌≡◌, filter, take}
use Rattle.plan_operators.specs.Operators.{is_sure}
use Rattle.plan_operators.proofs.except.sure_columns.Given as goal

abbrev pub invariant-loop-column : goal.invariant-loop-column
invariant-loop-column l = l.out.items ≡ filter (is_sure l.there) (take l.column-index l.columns)
