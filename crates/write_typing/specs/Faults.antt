-- What is wrong with a write whatever the variant, and which case is shown.
use Rattle.std.specs.Prelude.{ℕ, Bool, List, [], ◌∷◌, ◌++◌, map, Option, Some, None, slice_get, if◌then◌else◌}
use Rattle.std.specs.List.{flat_map, list_any}
use Rattle.plain_relation.specs.Relations.{Column, same_name}
use Rattle.query_meaning.specs.Cases.{Case, case, no_kind, no_table}
use Rattle.query_meaning.specs.Names.{unknown_name}
use Rattle.query_meaning.specs.Sources.{table_column}
use Rattle.query_meaning.specs.WriteTyping.{listed_names}
use Rattle.query_meaning.specs.declared.ill.IllCase.TheVariants as ill
use Rattle.values.specs.declared.column_name.ColName.{ColName}
use Rattle.vra_syntax.specs.declared.write.Write.{Write}
use Rattle.vschema.specs.Variants.{bare_name}
use Rattle.vschema.specs.declared.catalog.Column as catalog
use Rattle.write_typing.specs.declared.fault.NameFault.{NameFault}
use Rattle.write_typing.specs.declared.fault.NameFault.TheVariants as fault

abbrev pub fault_case : NameFault → Case
fault_case (fault.NoTable name) = no_table name.now
fault_case (fault.NoColumn name) = case ill.NoColumn name.now
fault_case (fault.NamedTwice name) = case ill.NamedTwice name.now
fault_case (fault.ValueKind name) = case ill.ValueKind name.now
fault_case (fault.NoKind number) = no_kind number

-- the case that is shown of several
abbrev pub first : List Case → Option Case
first cases = slice_get cases 0

-- all columns of a table
abbrev pub possible : List catalog.Column → List Column
possible columns = map table_column columns

-- the columns that a write names, as names without a prefix
abbrev pub names_of : Write → List ColName
names_of w = map bare_name (listed_names w)

abbrev pub unknown_names : List Column → List ColName → List Case
unknown_names columns names = flat_map (unknown_name columns) names

abbrev pub is_one_of : ColName → List ColName → Bool
is_one_of name names = list_any (λ other. same_name other name) names

-- the names that stand again behind
abbrev pub repeated_names : List ColName → List Case
repeated_names [] = []
repeated_names (name ∷ names) = if is_one_of name names then case ill.NamedTwice name ∷ repeated_names names else repeated_names names
