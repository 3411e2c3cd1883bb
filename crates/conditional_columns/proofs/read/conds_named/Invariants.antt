use Rattle.std.proofs.Common.{◌≡◌, ◌++◌, drop}
use Rattle.conditional_columns.specs.ColumnLists.{conds_of, with_name}
use Rattle.conditional_columns.proofs.read.conds_named.Given as goal

abbrev pub invariant-loop-column : goal.invariant-loop-column
invariant-loop-column l = l.conds.items ++ conds_of (with_name l.name (drop l.column-index l.columns)) ≡ conds_of (with_name l.name l.columns)
