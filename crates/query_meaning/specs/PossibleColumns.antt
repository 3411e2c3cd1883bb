-- The possible columns of a query: those that it may have in some variant, each once, in the order in which its answer
-- shows them. They are made without looking at conditions.
use Rattle.std.specs.Prelude.{Bool, List, []}
use Rattle.std.specs.List.{list_all}
use Rattle.plain_relation.specs.Relations.{Column}
use Rattle.vra_syntax.specs.declared.query.Query.{Query, fold-Query}
use Rattle.vra_syntax.specs.declared.query.Query.TheOpen.{Query-F}
use Rattle.vschema.specs.declared.catalog.Table.{Table}
use Rattle.relational_algebra.specs.Columns.{among, once, merged, aliased}
use Rattle.relational_algebra.specs.Items.{possible_kept}
use Rattle.query_meaning.specs.Sources.{source_named}

-- those of one layer, from those of its parts
abbrev pub possible_step : List Table → Query-F (List Column) → List Column
possible_step tables (Query-F.Table name) = (source_named tables name).possible
possible_step tables (Query-F.Select items source cond) = possible_kept items source
possible_step tables (Query-F.Join left right cond) = merged left right
possible_step tables (Query-F.Union left right) = merged left right
possible_step tables (Query-F.Except left right) = left
possible_step tables (Query-F.Alias source alias) = once (aliased alias source)
possible_step tables (Query-F.Choice expr left right) = merged left right
possible_step tables Query-F.Empty = []

abbrev pub possible_columns : List Table → Query → List Column
possible_columns tables query = fold-Query (List Column) (possible_step tables) query

-- whether each column is among the others
abbrev pub all_among : List Column → List Column → Bool
all_among columns others = list_all (λ column. among column others) columns
