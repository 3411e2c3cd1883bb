use Rattle.std.proofs.Common.{◌≡◌, take}
use Rattle.conditional_columns.specs.ColumnLists.{conds_of}
use Rattle.conditional_columns.proofs.read.all_conds.Given as goal

abbrev pub invariant-loop-column : goal.invariant-loop-column
invariant-loop-column l = l.conds.items ≡ conds_of (take l.column-index l.columns)
