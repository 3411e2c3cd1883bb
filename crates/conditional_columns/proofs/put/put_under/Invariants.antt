use Rattle.std.proofs.Common.{◌≡◌, ◌++◌, map, drop}
use Rattle.conditional_columns.specs.ColumnLists.{under}
use Rattle.conditional_columns.proofs.put.put_under.Given as goal

abbrev pub invariant-loop-column : goal.invariant-loop-column
invariant-loop-column l = l.out.items ++ map (under l.expr) (drop l.column-index l.columns) ≡ l.fn.out.items ++ map (under l.expr) l.columns
