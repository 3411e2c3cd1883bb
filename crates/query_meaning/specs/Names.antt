-- What is asked of a query's names, whatever the variant: that its tables are in the catalogue, that its columns are
-- possible ones, that its parameters have kinds, and that no part has too many columns.
use Rattle.std.specs.Prelude.{ℕ, nat_lt, List, [], ◌∷◌, ◌++◌, length, Option, Some, None, if◌then◌else◌}
use Rattle.std.specs.List.{flat_map}
use Rattle.std.specs.Option.{option_or}
use Rattle.values.specs.declared.column_name.ColName.{ColName}
use Rattle.values.specs.declared.value.Kind.{Kind}
use Rattle.plain_relation.specs.Relations.{Column, has_name}
use Rattle.vra_syntax.specs.declared.cond.Cond.{Cond, fold-Cond}
use Rattle.vra_syntax.specs.declared.cond.Cond.TheOpen.{Cond-F}
use Rattle.vra_syntax.specs.declared.cond.Operand.{Operand}
use Rattle.vra_syntax.specs.declared.cond.Operand.TheVariants as operand
use Rattle.vra_syntax.specs.declared.items.Item.{Item}
use Rattle.vra_syntax.specs.declared.items.Items.{Items}
use Rattle.vra_syntax.specs.declared.items.Items.TheVariants.{All, Listed}
use Rattle.vra_syntax.specs.declared.query.Query.{Query, fold-Query, map-Query}
use Rattle.vra_syntax.specs.declared.query.Query.TheOpen.{Query-F}
use Rattle.vschema.specs.declared.catalog.Table.{Table}
use Rattle.query_meaning.specs.Cases.{Case, case, no_table}
use Rattle.relational_algebra.specs.Columns.{merged}
use Rattle.query_meaning.specs.Parameters.{Occurrence, occurrences, without_kind}
use Rattle.query_meaning.specs.PossibleColumns.{possible_step}
use Rattle.query_meaning.specs.Sources.{table_named}
use Rattle.query_meaning.specs.declared.ill.IllCase.TheVariants as ill

abbrev pub unknown_name : List Column → ColName → List Case
unknown_name columns name = if has_name name columns then [] else case ill.NoColumn name ∷ []

abbrev pub unknown_operand : List Column → Operand → List Case
unknown_operand columns (operand.Column name) = unknown_name columns name
unknown_operand columns _ = []

abbrev pub unknown_in_items : List Column → Items → List Case
unknown_in_items columns All = []
unknown_in_items columns (Listed items) = flat_map (λ (item : Item). unknown_name columns item.column) items

-- one layer of a condition, with what its parts lack
abbrev pub unknown_step : List Column → Cond-F (List Case) → List Case
unknown_step columns (Cond-F.Cmp left sign right) = unknown_operand columns left ++ unknown_operand columns right
unknown_step columns (Cond-F.Not inner) = inner
unknown_step columns (Cond-F.And left right) = left ++ right
unknown_step columns (Cond-F.Or left right) = left ++ right
unknown_step columns (Cond-F.Choice expr left right) = left ++ right
unknown_step columns Cond-F.True = []
unknown_step columns Cond-F.False = []

-- the names of a condition that aren't those of possible columns, on either side of a choice
abbrev pub unknown_in_cond : List Column → Cond → List Case
unknown_in_cond columns cond = fold-Cond (List Case) (unknown_step columns) cond

abbrev pub unknown_table : List ℕ → Option Table → List Case
unknown_table name None = no_table name ∷ []
unknown_table name (Some table) = []

abbrev pub COLUMN_LIMIT : ℕ
COLUMN_LIMIT = 1600

-- the number of columns, where there are too many
abbrev pub width_above : List Column → Option ℕ
width_above columns = if nat_lt COLUMN_LIMIT (length columns) then Some (length columns) else None

-- What the names of a part say: its possible columns, the names in it that aren't known, its parameters in the order of
-- the text, and how many columns the first part has that has too many. Parts come before their form, the left one first.
pub record Named : Type 0 where
  pub possible : List Column
  pub unknown : List Case
  pub parameters : List Occurrence
  pub too_wide : Option ℕ

abbrev pub unknown_at : List Table → Query-F Named → List Case
unknown_at tables (Query-F.Table name) = unknown_table name (table_named tables name)
unknown_at tables (Query-F.Select items source cond) = source.unknown ++ unknown_in_items source.possible items ++ unknown_in_cond source.possible cond
unknown_at tables (Query-F.Join left right cond) = left.unknown ++ right.unknown ++ unknown_in_cond (merged left.possible right.possible) cond
unknown_at tables (Query-F.Union left right) = left.unknown ++ right.unknown
unknown_at tables (Query-F.Except left right) = left.unknown ++ right.unknown
unknown_at tables (Query-F.Alias source alias) = source.unknown
unknown_at tables (Query-F.Choice expr left right) = left.unknown ++ right.unknown
unknown_at tables Query-F.Empty = []

abbrev pub parameters_at : Query-F Named → List Occurrence
parameters_at (Query-F.Table name) = []
parameters_at (Query-F.Select items source cond) = source.parameters ++ occurrences source.possible cond
parameters_at (Query-F.Join left right cond) = left.parameters ++ right.parameters ++ occurrences (merged left.possible right.possible) cond
parameters_at (Query-F.Union left right) = left.parameters ++ right.parameters
parameters_at (Query-F.Except left right) = left.parameters ++ right.parameters
parameters_at (Query-F.Alias source alias) = source.parameters
parameters_at (Query-F.Choice expr left right) = left.parameters ++ right.parameters
parameters_at Query-F.Empty = []

abbrev pub too_wide_below : Query-F Named → Option ℕ
too_wide_below (Query-F.Table name) = None
too_wide_below (Query-F.Select items source cond) = source.too_wide
too_wide_below (Query-F.Join left right cond) = option_or left.too_wide right.too_wide
too_wide_below (Query-F.Union left right) = option_or left.too_wide right.too_wide
too_wide_below (Query-F.Except left right) = option_or left.too_wide right.too_wide
too_wide_below (Query-F.Alias source alias) = source.too_wide
too_wide_below (Query-F.Choice expr left right) = option_or left.too_wide right.too_wide
too_wide_below Query-F.Empty = None

abbrev pub named_step : List Table → Query-F Named → Named
named_step tables form =
    let possible = possible_step tables (map-Query Named (List Column) (λ (part : Named). part.possible) form) in
    record { possible = possible; unknown = unknown_at tables form; parameters = parameters_at form; too_wide = option_or (too_wide_below form) (width_above possible) }

abbrev pub names_of : List Table → Query → Named
names_of tables query = fold-Query Named (named_step tables) query

abbrev pub too_wide : List Table → Query → Option ℕ
too_wide tables query = (names_of tables query).too_wide

-- the cases of the names; none where a query's names are in order
abbrev pub name_cases : List Kind → List Table → Query → List Case
name_cases kinds tables query = let names = names_of tables query in names.unknown ++ without_kind kinds names.parameters
