-- When a write is well typed: what is asked of its names and values, and of each admitted variant in which it acts.
use Rattle.std.specs.Prelude.{ℕ, ◌≡◌, Bool, true, false, not, ◌&&◌, List, [], ◌∷◌, ◌++◌, map, Option, Some, None, if◌then◌else◌}
use Rattle.std.specs.List.{flat_map}
use Rattle.condition_sat.specs.Admitted.{IsAdmitted}
use Rattle.feature_expr.specs.Names.{among}
use Rattle.feature_expr.specs.Satisfaction.{satisfies}
use Rattle.values.specs.Value.{kind_of}
use Rattle.feature_expr.specs.declared.expr.Expr.{Expr}
use Rattle.values.specs.declared.value.Kind.{Kind}
use Rattle.plain_relation.specs.Relations.{Column}
use Rattle.vra_syntax.specs.declared.cond.Cond.{Cond}
use Rattle.vra_syntax.specs.declared.cond.Operand.{Operand}
use Rattle.vra_syntax.specs.declared.cond.Operand.TheVariants as operand
use Rattle.vra_syntax.specs.declared.write.SetItem.{SetItem}
use Rattle.vra_syntax.specs.declared.write.Write.{Write}
use Rattle.vra_syntax.specs.declared.write.Write.TheVariants as write
use Rattle.vschema.specs.Variants.{bare_name}
use Rattle.vschema.specs.declared.catalog.Table.{Table}
use Rattle.query_meaning.specs.Cases.{Case, case, no_table, IsOneOf, case_of}
use Rattle.relational_algebra.specs.Columns.{named, kinds_of}
use Rattle.query_meaning.specs.Names.{unknown_name, unknown_in_cond}
use Rattle.query_meaning.specs.Parameters.{Occurrence, occurrence, occurrences, partner_named, kind_at, without_kind}
use Rattle.query_meaning.specs.PlainTypes.{absent_name, asked}
use Rattle.query_meaning.specs.Sources.{source_named, table_named, table_source}
use Rattle.plain_relation.specs.Values.{same_kind}
use Rattle.query_meaning.specs.declared.ill.IllCase.TheVariants as ill
use Rattle.query_meaning.specs.declared.ill.TypeRefused.{TypeRefused}
use Rattle.query_meaning.specs.declared.ill.TypeRefused.TheVariants as refused

-- a value and the column that it is for
pub record Assignment : Type 0 where
  pub column : List ℕ
  pub value : Operand

abbrev pub assignments_of : List (List ℕ) → List Operand → List Assignment
assignments_of [] values = []
assignments_of (name ∷ names) [] = []
assignments_of (name ∷ names) (value ∷ values) = record { column = name; value = value } ∷ assignments_of names values

abbrev pub assignment_of : SetItem → Assignment
assignment_of item = record { column = item.column; value = item.value }

abbrev pub table_name_of : Write → List ℕ
table_name_of (write.Insert table names rows expr) = table
table_name_of (write.Delete table cond expr) = table
table_name_of (write.Update table items cond expr) = table

-- the condition under which it acts
abbrev pub write_expr : Write → Expr
write_expr (write.Insert table names rows expr) = expr
write_expr (write.Delete table cond expr) = expr
write_expr (write.Update table items cond expr) = expr

-- the columns that it names
abbrev pub listed_names : Write → List (List ℕ)
listed_names (write.Insert table names rows expr) = names
listed_names (write.Delete table cond expr) = []
listed_names (write.Update table items cond expr) = map (λ (item : SetItem). item.column) items

abbrev pub assignments : Write → List Assignment
assignments (write.Insert table names rows expr) = flat_map (assignments_of names) rows
assignments (write.Delete table cond expr) = []
assignments (write.Update table items cond expr) = map assignment_of items

-- which rows it removes or changes; an INSERT asks none
abbrev pub write_cond : Write → Option Cond
write_cond (write.Insert table names rows expr) = None
write_cond (write.Delete table cond expr) = Some cond
write_cond (write.Update table items cond expr) = Some cond

-- The names and values, over the possible columns of its table.

-- the names that stand again behind
abbrev pub named_twice : List (List ℕ) → List Case
named_twice [] = []
named_twice (name ∷ names) = if among name names then case ill.NamedTwice (bare_name name) ∷ named_twice names else named_twice names

abbrev pub other_kind : Option Kind → Kind → Bool
other_kind None kind = false
other_kind (Some one) kind = not (same_kind one kind)

-- Whether a value can't be one of a column of this kind. A column's name is no value.
abbrev pub misfits : List Kind → Operand → Kind → Bool
misfits kinds (operand.Column name) kind = true
misfits kinds (operand.Literal value) kind = not (same_kind (kind_of value) kind)
misfits kinds (operand.Param number) kind = other_kind (kind_at kinds number) kind

abbrev pub value_cases : List Kind → List Column → Assignment → List Case
value_cases kinds columns one =
    flat_map (λ kind. if misfits kinds one.value kind then case ill.ValueKind (bare_name one.column) ∷ [] else []) (kinds_of (named (bare_name one.column) columns))

abbrev pub value_occurrence : List Column → Assignment → List Occurrence
value_occurrence columns one = occurrence (partner_named columns (bare_name one.column)) one.value

abbrev pub unknown_in : List Column → Option Cond → List Case
unknown_in columns None = []
unknown_in columns (Some cond) = unknown_in_cond columns cond

abbrev pub occurrences_in : List Column → Option Cond → List Occurrence
occurrences_in columns None = []
occurrences_in columns (Some cond) = occurrences columns cond

-- its parameters, in the order of the text
abbrev pub parameters_over : List Column → Write → List Occurrence
parameters_over columns w = flat_map (value_occurrence columns) (assignments w) ++ occurrences_in columns (write_cond w)

abbrev pub write_parameters : List Table → Write → List Occurrence
write_parameters tables w = parameters_over (source_named tables (table_name_of w)).possible w

-- the names that the table lacks; over an unknown table nothing else is asked
abbrev pub unknown_over : Option Table → Write → List Case
unknown_over None w = no_table (table_name_of w) ∷ []
unknown_over (Some table) w =
    flat_map (λ name. unknown_name (table_source table).possible (bare_name name)) (listed_names w) ++ unknown_in (table_source table).possible (write_cond w)

abbrev pub write_unknown : List Table → Write → List Case
write_unknown tables w = unknown_over (table_named tables (table_name_of w)) w

abbrev pub values_over : List Kind → Option Table → Write → List Case
values_over kinds None w = []
values_over kinds (Some table) w =
    let columns = (table_source table).possible in
    named_twice (listed_names w) ++ flat_map (value_cases kinds columns) (assignments w) ++ without_kind kinds (parameters_over columns w)

abbrev pub write_name_cases : List Kind → List Table → Write → List Case
write_name_cases kinds tables w = write_unknown tables w ++ values_over kinds (table_named tables (table_name_of w)) w

-- The variants.

-- it acts where its condition holds and its table is there
abbrev pub acts : List ℕ → Table → Write → Bool
acts c table w = satisfies c (write_expr w) && satisfies c table.cond

abbrev pub unlisted : List (List ℕ) → Column → List Case
unlisted names column = if among column.name.base names then [] else case ill.NoValue column.name ∷ []

-- the cases over the columns that the table has where it acts
abbrev pub acting_cases : List ℕ → List Kind → List Column → Write → List Case
acting_cases c kinds columns (write.Insert table names rows expr) = flat_map (unlisted names) columns
acting_cases c kinds columns (write.Delete table cond expr) = asked c kinds cond columns
acting_cases c kinds columns (write.Update table items cond expr) = flat_map (λ (item : SetItem). absent_name columns (bare_name item.column)) items ++ asked c kinds cond columns

abbrev pub write_cases_in : List ℕ → List Kind → Option Table → Write → List Case
write_cases_in c kinds None w = []
write_cases_in c kinds (Some table) w = if acts c table w then acting_cases c kinds ((table_source table).columns_at c) w else []

abbrev pub write_cases : List ℕ → List Kind → List Table → Write → List Case
write_cases c kinds tables w = write_cases_in c kinds (table_named tables (table_name_of w)) w

pub record IsWellTypedWrite (model : Expr) (kinds : List Kind) (tables : List Table) (w : Write) : Type 0 where
  pub named : write_name_cases kinds tables w ≡ []
  pub typed : (c : List ℕ) → IsAdmitted model c → write_cases c kinds tables w ≡ []

abbrev pub ShowsWriteCase : Expr → List Kind → List Table → Write → Case → Option (List ℕ) → Type 0
ShowsWriteCase model kinds tables w why None = IsOneOf (write_name_cases kinds tables w) why
ShowsWriteCase model kinds tables w why (Some c) = IsAdmitted model c × IsOneOf (write_cases c kinds tables w) why

-- what each refusal of a write says
abbrev pub RefusesWrite : Expr → List Kind → List Table → Write → TypeRefused → Type 0
RefusesWrite model kinds tables w (refused.TooWide count) = ⊥
RefusesWrite model kinds tables w (refused.Ill why) = ShowsWriteCase model kinds tables w (case_of why) why.config
RefusesWrite model kinds tables w refused.Memory = Unit {0}
