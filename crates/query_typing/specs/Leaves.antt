-- The columns of a query's innermost left side.
use Rattle.std.specs.Prelude.{ℕ, List, [], map, Option, Some, None}
use Rattle.query_meaning.specs.Sources.{table_named}
use Rattle.query_meaning.specs.Typing.{stored_column}
use Rattle.query_meaning.specs.declared.typed.TypedColumn.{TypedColumn}
use Rattle.vschema.specs.declared.catalog.Table.{Table}

-- those of a table, of which there are none where it isn't known
abbrev pub stored_of : Option Table → List TypedColumn
stored_of None = []
stored_of (Some table) = map (stored_column table) table.columns

-- those of a table by its name; the empty query has none
abbrev pub leaf_stored : List Table → Option (List ℕ) → List TypedColumn
leaf_stored tables None = []
leaf_stored tables (Some name) = stored_of (table_named tables name)
