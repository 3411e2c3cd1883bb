-- The columns of a table under the conditions that typing found for them.
use Rattle.std.specs.Prelude.{◌≡◌, List, [], ◌∷◌, ◌++◌, if◌then◌else◌}
use Rattle.plan_tables.specs.Tables.{heading}
use Rattle.query_meaning.specs.Typing as typing
use Rattle.query_meaning.specs.declared.typed.TypedColumn.{TypedColumn}
use Rattle.relational_algebra.specs.Columns.{same_column}
use Rattle.vtable.specs.declared.table.VColumn.{VColumn}

abbrev pub under_typed : VColumn → TypedColumn → VColumn
under_typed column typed = record { name = column.name; kind = column.kind; cond = typed.cond }

-- Each column that has a typed one, in the same order, gets its condition. The others keep their own: no variant has
-- them.
abbrev pub retyped : List VColumn → List TypedColumn → List VColumn
retyped [] typed = []
retyped (column ∷ columns) [] = column ∷ columns
retyped (column ∷ columns) (first ∷ more) =
    if same_column (heading column) (typing.heading first) then under_typed column first ∷ retyped columns more else column ∷ retyped columns (first ∷ more)

-- one list of columns made from another by one more column and the typed ones, of which these are left for those behind it
abbrev pub PutsRetyped : List VColumn → List VColumn → VColumn → List TypedColumn → List TypedColumn → Type 0
PutsRetyped old new column typed left = (behind : List VColumn) → new ++ retyped behind left ≡ old ++ retyped (column ∷ behind) typed
