use Rattle.std.proofs.Common.{◌≡◌, ◌++◌, take}
use Rattle.plan_tables.specs.Tables.{columns_under}
use Rattle.plan_tables.proofs.settle.put_columns_under.Given as goal

abbrev pub invariant-loop-column : goal.invariant-loop-column
invariant-loop-column l = l.out.items ≡ l.fn.out.items ++ columns_under l.cond (take l.column-index l.columns)
