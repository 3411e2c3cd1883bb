use Rattle.std.proofs.Common.{◌≡◌, map, take}
use Rattle.query_meaning.specs.Sources.{table_column}
use Rattle.query_names.specs.Headings.{headings}
use Rattle.query_names.proofs.columns.table_columns.Given as goal

-- the columns so far
abbrev pub invariant-loop-column : goal.invariant-loop-column
invariant-loop-column l = headings l.columns.items ≡ map table_column (take l.column-index l.table.columns)
