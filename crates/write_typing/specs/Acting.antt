-- The cases of a write over its table: those of its names and values, and those of each variant in which it acts.
use Rattle.std.specs.Prelude.{ℕ, ◌≡◌, List, [], ◌++◌, Option, Some, None}
use Rattle.std.specs.List.{flat_map}
use Rattle.condition_sat.specs.Admitted.{IsAdmitted}
use Rattle.feature_expr.specs.declared.expr.Expr.{Expr}
use Rattle.plain_relation.specs.Relations.{Column}
use Rattle.query_meaning.specs.Cases.{Case, IsOneOf, case_of}
use Rattle.query_meaning.specs.Names.{unknown_operand}
use Rattle.query_meaning.specs.PlainTypes.{absent_name}
use Rattle.query_meaning.specs.WriteTyping.{unknown_over, values_over, write_cases_in}
use Rattle.query_meaning.specs.declared.ill.TypeRefused.{TypeRefused}
use Rattle.query_meaning.specs.declared.ill.TypeRefused.TheVariants as refused
use Rattle.values.specs.declared.column_name.ColName.{ColName}
use Rattle.values.specs.declared.value.Kind.{Kind}
use Rattle.vra_syntax.specs.declared.cond.Operand.{Operand}
use Rattle.vra_syntax.specs.declared.write.Write.{Write}
use Rattle.vschema.specs.declared.catalog.Table.{Table}
use Rattle.write_typing.specs.Faults.{repeated_names, unknown_names}
use Rattle.write_typing.specs.Operands.{operands_in}
use Rattle.write_typing.specs.Values.{Seat, operand_without_kind, write_check}
use Rattle.write_typing.specs.declared.row_values.Check.TheVariants as check

-- the names, those that it lists and those of its condition's operands, that no column has
abbrev pub unknown_among : List Column → List ColName → List Operand → List Case
unknown_among columns names operands = unknown_names columns names ++ flat_map (unknown_operand columns) operands

-- what is wrong with names that are known, and with their values
abbrev pub known_cases : List Kind → List Seat → List ColName → Write → List Operand → List Case
known_cases kinds seats names w operands =
    repeated_names names ++ write_check check.OfKind kinds seats w ++ write_check check.HasKind kinds seats w ++ flat_map (operand_without_kind kinds) operands

-- the names of columns that aren't there
abbrev pub absent_names : List Column → List ColName → List Case
absent_names columns names = flat_map (absent_name columns) names

-- all cases over a table, whatever the variant
abbrev pub table_cases : List Kind → Option Table → Write → List Case
table_cases kinds table w = unknown_over table w ++ values_over kinds table w

-- well typed over this table
pub record IsTypedOver (model : Expr) (kinds : List Kind) (table : Option Table) (w : Write) : Type 0 where
  pub named : table_cases kinds table w ≡ []
  pub typed : (c : List ℕ) → IsAdmitted model c → write_cases_in c kinds table w ≡ []

abbrev pub ShowsOver : Expr → List Kind → Option Table → Write → Case → Option (List ℕ) → Type 0
ShowsOver model kinds table w why None = IsOneOf (table_cases kinds table w) why
ShowsOver model kinds table w why (Some c) = IsAdmitted model c × IsOneOf (write_cases_in c kinds table w) why

-- what each refusal of a write over this table says
abbrev pub RefusesOver : Expr → List Kind → Option Table → Write → TypeRefused → Type 0
RefusesOver model kinds table w (refused.TooWide count) = ⊥
RefusesOver model kinds table w (refused.Ill why) = ShowsOver model kinds table w (case_of why) why.config
RefusesOver model kinds table w refused.Memory = Unit {0}
