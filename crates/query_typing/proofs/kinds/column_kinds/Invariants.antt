use Rattle.std.proofs.Common.{◌≡◌, ◌++◌, drop, map}
use Rattle.conditional_columns.specs.ColumnLists.{with_name}
use Rattle.query_typing.specs.Kinds.{column_kind}
use Rattle.query_typing.proofs.kinds.column_kinds.Given as goal

abbrev pub invariant-loop-column : goal.invariant-loop-column
invariant-loop-column l = l.found.items ++ map column_kind (with_name l.name (drop l.column-index l.columns)) ≡ map column_kind (with_name l.name l.columns)
