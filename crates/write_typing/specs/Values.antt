-- What is asked of the values of a write: that each has its column's kind, and then that each parameter has one.
use Rattle.std.specs.Prelude.{ℕ, Bool, List, [], ◌∷◌, ◌++◌, map, Option, Some, None, if◌then◌else◌}
use Rattle.std.specs.List.{flat_map}
use Rattle.plain_relation.specs.Relations.{Column}
use Rattle.query_meaning.specs.Cases.{Case, case}
use Rattle.query_meaning.specs.Parameters.{Open, occurrence, without_kind}
use Rattle.query_meaning.specs.WriteTyping.{Assignment, misfits}
use Rattle.query_meaning.specs.declared.ill.IllCase.TheVariants as ill
use Rattle.relational_algebra.specs.Columns.{kinds_of, named}
use Rattle.values.specs.declared.column_name.ColName.{ColName}
use Rattle.values.specs.declared.value.Kind.{Kind}
use Rattle.vra_syntax.specs.declared.cond.Operand.{Operand}
use Rattle.vra_syntax.specs.declared.write.SetItem.{SetItem}
use Rattle.vra_syntax.specs.declared.write.Write.{Write}
use Rattle.vra_syntax.specs.declared.write.Write.TheVariants as write
use Rattle.vschema.specs.Variants.{bare_name}
use Rattle.write_typing.specs.declared.row_values.Check.{Check}
use Rattle.write_typing.specs.declared.row_values.Check.TheVariants as check
use Rattle.write_typing.specs.declared.row_values.Place.{Place}

-- a parameter's partner doesn't count
abbrev pub operand_without_kind : List Kind → Operand → List Case
operand_without_kind kinds value = without_kind kinds (occurrence Open value)

-- a name, with the kinds of the columns that have it
pub record Seat : Type 0 where
  pub name : ColName
  pub kinds : List Kind

abbrev pub seat : Place → Seat
seat place = record { name = place.name.now; kinds = place.kinds.items }

abbrev pub seat_of : List Column → ColName → Seat
seat_of columns name = record { name = name; kinds = kinds_of (named name columns) }

abbrev pub misfit : List Kind → Seat → Operand → List Case
misfit kinds one value = flat_map (λ kind. if misfits kinds value kind then case ill.ValueKind one.name ∷ [] else []) one.kinds

-- one question to a value
abbrev pub value_check : Check → List Kind → Seat → Operand → List Case
value_check check.OfKind kinds one value = misfit kinds one value
value_check check.HasKind kinds one value = operand_without_kind kinds value

-- to a value for a name, if there is one
abbrev pub met : Check → List Kind → Option Seat → Operand → List Case
met which kinds None value = []
met which kinds (Some one) value = value_check which kinds one value

-- the same question to the values of a row, each for its column
abbrev pub row_check : Check → List Kind → List Seat → List Operand → List Case
row_check which kinds [] row = []
row_check which kinds (one ∷ seats) [] = []
row_check which kinds (one ∷ seats) (value ∷ row) = value_check which kinds one value ++ row_check which kinds seats row

abbrev pub new_values : List SetItem → List Operand
new_values items = map (λ (item : SetItem). item.value) items

-- to the values of a write whose names have these kinds
abbrev pub write_check : Check → List Kind → List Seat → Write → List Case
write_check which kinds seats (write.Insert table names rows expr) = flat_map (row_check which kinds seats) rows
write_check which kinds seats (write.Delete table cond expr) = []
write_check which kinds seats (write.Update table items cond expr) = row_check which kinds seats (new_values items)

-- to all values of a write
abbrev pub values_check : Check → List Kind → List Column → List Assignment → List Case
values_check which kinds columns them = flat_map (λ (one : Assignment). value_check which kinds (seat_of columns (bare_name one.column)) one.value) them
