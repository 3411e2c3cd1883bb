use Rattle.std.proofs.Common.{◌≡◌, map, take}
use Rattle.write_meaning.specs.StoredTables.{stored_column}
use Rattle.row_writes.proofs.columns.stored_columns.Given as goal

abbrev pub invariant-loop-column : goal.invariant-loop-column
invariant-loop-column l = l.columns.items ≡ map (stored_column l.table) (take l.column-index l.table.columns)
