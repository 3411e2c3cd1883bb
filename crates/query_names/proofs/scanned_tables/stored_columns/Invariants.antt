use Rattle.std.proofs.Common.{◌≡◌, map, take}
use Rattle.query_meaning.specs.Typing.{stored_column}
use Rattle.query_names.proofs.scanned_tables.stored_columns.Given as goal

-- the columns so far
abbrev pub invariant-loop-column : goal.invariant-loop-column
invariant-loop-column l = l.columns.items ≡ map (stored_column l.table) (take l.column-index l.table.columns)
