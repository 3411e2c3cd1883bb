-- When rows at hand are those of a catalogue's tables.
use Rattle.std.specs.Prelude.{ℕ, ◌≡◌, Bool, true, List, map, option_map, slice_get}
use Rattle.plan_tables.specs.StoredRows.{are_distinct, rows_of, table_numbers, tables_mention}
use Rattle.plan_tables.specs.declared.rows.TableRows.{TableRows}
use Rattle.query_meaning.specs.Typing.{stored_column}
use Rattle.query_meaning.specs.declared.typed.TypedColumn.{TypedColumn}
use Rattle.vschema.specs.declared.catalog.Column as catalog
use Rattle.vschema.specs.declared.catalog.Table.{Table}
use Rattle.vtable.specs.declared.table.VColumn.{VColumn}

abbrev pub answer_column : TypedColumn → VColumn
answer_column column = record { name = column.name; kind = column.kind; cond = column.cond }

-- a table's column under its own condition and the table's
abbrev pub held_column : Table → catalog.Column → VColumn
held_column table column = answer_column (stored_column table column)

abbrev pub held_columns : Table → List VColumn
held_columns table = map (held_column table) table.columns

-- These are the rows of the catalogue's tables: under each table's number stand those of a table with its columns, once,
-- and under no other number any.
pub record HoldsTables (tables : List Table) (rows : List TableRows) : Type 0 where
  pub distinct : are_distinct (table_numbers rows) ≡ true
  pub columns : (number : ℕ) → option_map (λ (held : TableRows). held.rows.columns) (rows_of rows number) ≡ option_map held_columns (slice_get tables number)

-- whether a feature occurs in a condition of the rows or of their tables' columns
abbrev pub held_mention : List TableRows → ℕ → Bool
held_mention rows feature = tables_mention feature rows
