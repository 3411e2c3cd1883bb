use Rattle.std.proofs.Common.{◌≡◌, ◌++◌, List, None, map}
use Rattle.vtable.specs.declared.table.VRow.{VRow}
use Rattle.vtable.specs.Passes.{groups_after, table_row}
use Rattle.vtable.proofs.group.grouped.Given as goal

abbrev pub invariant-loop-row : goal.invariant-loop-row
invariant-loop-row l = (rest : List VRow) → l.groups.items ++ groups_after l.current rest ≡ groups_after None (map table_row l.yielded ++ rest)
