use Rattle.std.proofs.Common.{◌≡◌, map, take}
use Rattle.conditional_columns.specs.ColumnLists.{behind_alias}
use Rattle.conditional_columns.proofs.put.all_behind.Given as goal

abbrev pub invariant-loop-column : goal.invariant-loop-column
invariant-loop-column l = l.out.items ≡ map (behind_alias l.alias) (take l.column-index l.columns)
