-- Which case of the names is shown: an unknown table before an unknown column, and both before a parameter without a
-- kind.
use Rattle.std.specs.Prelude.{◌≡◌, Bool, true, false, List, Option, Some, None, slice_get}
use Rattle.std.specs.List.{find}
use Rattle.std.specs.Option.{option_or}
use Rattle.query_meaning.specs.Cases.{Case, IsOneOf, case_of, no_kind}
use Rattle.query_meaning.specs.Names.{Named, name_cases, names_of, too_wide}
use Rattle.query_meaning.specs.Parameters.{without_kind}
use Rattle.query_meaning.specs.declared.ill.IllCase.{IllCase}
use Rattle.query_meaning.specs.declared.ill.IllCase.TheVariants as ill
use Rattle.query_meaning.specs.declared.ill.TypeRefused.{TypeRefused}
use Rattle.query_meaning.specs.declared.ill.TypeRefused.TheVariants as refused
use Rattle.query_names.specs.Findings.{case_for}
use Rattle.query_names.specs.declared.name_cases.NameFault.{NameFault}
use Rattle.query_names.specs.declared.name_cases.NameFault.TheVariants as fault
use Rattle.values.specs.declared.value.Kind.{Kind}
use Rattle.vra_syntax.specs.declared.query.Query.{Query}
use Rattle.vschema.specs.declared.catalog.Table.{Table}

abbrev pub lacks_table : IllCase → Bool
lacks_table ill.NoTable = true
lacks_table _ = false

abbrev pub names_table : Case → Bool
names_table case = lacks_table case.why

abbrev pub shown : List Case → Option Case
shown cases = option_or (find names_table cases) (slice_get cases 0)

abbrev pub first_case : List Kind → Named → Option Case
first_case kinds names = option_or (shown names.unknown) (slice_get (without_kind kinds names.parameters) 0)

abbrev pub fault_case : NameFault → Case
fault_case (fault.Unknown name) = case_for name
fault_case (fault.Param number) = no_kind number

-- a refusal that shows a case whatever the variant, or want of memory
abbrev pub Shows : Case → TypeRefused → Type 0
Shows case (refused.Ill why) = (why.config ≡ None) × (case_of why ≡ case)
Shows case (refused.TooWide count) = ⊥
Shows case refused.Memory = Unit {0}

-- What each refusal of a query's names says. A part that has too many columns goes before every other case.
abbrev pub RefusesNames : List Kind → List Table → Query → TypeRefused → Type 0
RefusesNames kinds tables query (refused.TooWide count) = too_wide tables query ≡ Some count
RefusesNames kinds tables query (refused.Ill why) = (too_wide tables query ≡ None) × (why.config ≡ None) × IsOneOf (name_cases kinds tables query) (case_of why)
RefusesNames kinds tables query refused.Memory = Unit {0}

-- A refusal for another reason than width shows the first unknown table, else the first unknown column, else the first
-- parameter without a kind.
abbrev pub ShowsFirst : List Kind → List Table → Query → TypeRefused → Type 0
ShowsFirst kinds tables query (refused.TooWide count) = Unit {0}
ShowsFirst kinds tables query (refused.Ill why) = first_case kinds (names_of tables query) ≡ Some (case_of why)
ShowsFirst kinds tables query refused.Memory = Unit {0}
