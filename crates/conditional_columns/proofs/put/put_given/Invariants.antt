use Rattle.std.proofs.Common.{◌≡◌, ◌++◌, map, drop}
use Rattle.conditional_columns.specs.ColumnLists.{given_under, with_name}
use Rattle.conditional_columns.proofs.put.put_given.Given as goal

abbrev pub invariant-loop-column : goal.invariant-loop-column
invariant-loop-column l = l.out.items ++ map (given_under l.given l.expr) (with_name l.name (drop l.column-index l.columns)) ≡ l.fn.out.items ++ map (given_under l.given l.expr) (with_name l.name l.columns)
