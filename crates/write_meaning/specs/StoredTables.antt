-- A stored table in every variant at once: its columns under their conditions, and rows under theirs.
use Rattle.std.specs.Prelude.{List, map, length}
use Rattle.feature_expr.specs.Expressions.{and_of}
use Rattle.query_meaning.specs.Bounds.{Size}
use Rattle.row_conditions.specs.RowConditions.{columns_weight}
use Rattle.vschema.specs.Variants.{bare_name}
use Rattle.vschema.specs.declared.catalog.Column.{Column}
use Rattle.vschema.specs.declared.catalog.Table.{Table}
use Rattle.vtable.specs.TableForm.{rows_weight}
use Rattle.vtable.specs.declared.table.VColumn.{VColumn}
use Rattle.vtable.specs.declared.table.VRow.{VRow}
use Rattle.vtable.specs.declared.table.VTable.{VTable}

-- a column is there with its table alone
abbrev pub stored_column : Table → Column → VColumn
stored_column table column = record { name = bare_name column.name; kind = column.kind; cond = and_of table.cond column.cond }

abbrev pub stored_columns : Table → List VColumn
stored_columns table = map (stored_column table) table.columns

-- a table of these rows
abbrev pub stored_table : Table → List VRow → VTable
stored_table table rows = record { columns = stored_columns table; rows = rows }

-- how great a table under conditions is
abbrev pub size_of : VTable → Size
size_of table = record { rows = length table.rows; row_weight = rows_weight table.rows; column_weight = columns_weight table.columns }
