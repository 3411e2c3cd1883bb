use Rattle.std.proofs.Common.{◌≡◌, ◌++◌, take}
use Rattle.plan_merges.specs.Merges.{columns_of_item}
use Rattle.plan_merges.proofs.keep.put_columns.Given as goal

abbrev pub invariant-loop-column : goal.invariant-loop-column
invariant-loop-column l = l.out.items ≡ l.fn.out.items ++ columns_of_item (take l.column-index l.columns) l.item
