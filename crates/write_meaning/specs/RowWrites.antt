-- What a write makes of a table's rows under conditions. A row that it touches in no admitted variant stays as it is. Any
-- other ends, and rows begin in its place: what the write leaves of it, and for an UPDATE the changed row.
use Rattle.std.specs.Prelude.{ℕ, ◌+◌, ◌≡◌, ◌≤◌, Bool, true, false, not, ◌&&◌, ◌||◌, List, [], ◌∷◌, ◌++◌, map, filter, flat_map, Option, Some, None}
use Rattle.condition_sat.specs.Admitted.{IsAdmitted}
use Rattle.feature_expr.specs.Expressions.{and_of, mentions, weight_of}
use Rattle.feature_expr.specs.Satisfaction.{satisfies}
use Rattle.feature_expr.specs.declared.expr.Expr.{Expr}
use Rattle.values.specs.declared.value.Value.{Value}
use Rattle.plain_relation.specs.Relations.{Cell}
use Rattle.query_meaning.specs.Bounds.{table_column_weight}
use Rattle.relational_algebra.specs.Conditions.{holds, condition_cost}
use Rattle.write_meaning.specs.StoredTables.{stored_columns}
use Rattle.write_meaning.specs.PlainWrites.{assigned}
use Rattle.relational_algebra.specs.Mentions.{write_mentions}
use Rattle.row_conditions.specs.RowConditions.{mentioned_in, row_at}
use Rattle.query_meaning.specs.WriteTyping.{Assignment, assignments_of, assignment_of, acts, write_expr}
use Rattle.vra_syntax.specs.declared.cond.Operand.{Operand}
use Rattle.vra_syntax.specs.declared.write.Write.{Write}
use Rattle.vra_syntax.specs.declared.write.Write.TheVariants as write
use Rattle.vschema.specs.Variants.{bare_name}
use Rattle.vschema.specs.declared.catalog.Column.{Column}
use Rattle.vschema.specs.declared.catalog.Table.{Table}
use Rattle.condition_sat.specs.Possible.{can_hold, some_admitted}
use Rattle.vtable.specs.declared.table.VRow.{VRow}
use Rattle.write_meaning.specs.declared.fate.Fate.{Fate}
use Rattle.write_meaning.specs.declared.fate.Fate.TheVariants.{Stays, Ends}

-- whether a write's condition is true of a row; an INSERT matches none
abbrev pub matches : List ℕ → Write → List Cell → Bool
matches c (write.Insert table names rows expr) row = false
matches c (write.Delete table cond expr) row = holds c cond row
matches c (write.Update table items cond expr) row = holds c cond row

-- whether the write, where it acts, removes or changes the row
abbrev pub touches : List ℕ → Table → Write → VRow → Bool
touches c table w row = acts c table w && matches c w (row_at c (stored_columns table) row)

-- whether it does so in some admitted variant in which the row is there
abbrev pub is_touched : Expr → Table → Write → VRow → Bool
is_touched model table w row = some_admitted model (λ c. satisfies c row.cond && touches c table w row)

-- what the condition may cost on one row
abbrev pub write_cost : Table → Write → ℕ
write_cost table (write.Insert name names rows expr) = 0
write_cost table (write.Delete name cond expr) = condition_cost cond (table_column_weight table)
write_cost table (write.Update name items cond expr) = condition_cost cond (table_column_weight table)

-- whether a feature occurs in the write or in a condition of its table's columns
abbrev pub touch_mentions : ℕ → Table → Write → Bool
touch_mentions feature table w = write_mentions feature w || mentioned_in feature (stored_columns table)

-- what the write leaves of the row: its cells, where its table is there and the write doesn't touch it
pub record IsRest (model : Expr) (table : Table) (w : Write) (row rest : VRow) : Type 0 where
  pub cells : rest.cells ≡ row.cells
  pub exact : (c : List ℕ) → IsAdmitted model c → satisfies c table.cond ≡ true → satisfies c rest.cond ≡ (satisfies c row.cond && not (touches c table w row))
  pub weight : weight_of rest.cond ≤ weight_of row.cond + (weight_of (write_expr w) + write_cost table w + 3)
  pub features : (feature : ℕ) → mentions feature rest.cond ≡ true → (mentions feature row.cond || touch_mentions feature table w) ≡ true

-- a cell, with the value that is given for its column
abbrev pub given_or : Option Value → Option Value → Option Value
given_or None cell = cell
given_or (Some value) cell = Some value

abbrev pub set_cells : List Column → List Assignment → List (Option Value) → List (Option Value)
set_cells [] given cells = cells
set_cells (column ∷ columns) given [] = []
set_cells (column ∷ columns) given (cell ∷ cells) = given_or (assigned given (bare_name column.name)) cell ∷ set_cells columns given cells

-- the row with the given values, where its table is there and the write touches it
pub record IsChanged (model : Expr) (table : Table) (w : Write) (given : List Assignment) (row changed : VRow) : Type 0 where
  pub cells : changed.cells ≡ set_cells table.columns given row.cells
  pub exact : (c : List ℕ) → IsAdmitted model c → satisfies c table.cond ≡ true → satisfies c changed.cond ≡ (satisfies c row.cond && touches c table w row)
  pub weight : weight_of changed.cond ≤ weight_of row.cond + (weight_of (write_expr w) + write_cost table w + 3)
  pub features : (feature : ℕ) → mentions feature changed.cond ≡ true → (mentions feature row.cond || touch_mentions feature table w) ≡ true

-- an UPDATE has one changed row
abbrev pub AreChanged : Expr → Table → Write → VRow → List VRow → Type 0
AreChanged model table (write.Insert name names rows expr) row changed = changed ≡ []
AreChanged model table (write.Delete name cond expr) row changed = changed ≡ []
AreChanged model table (write.Update name items cond expr) row changed =
    (one : VRow) × IsChanged model table (write.Update name items cond expr) (map assignment_of items) row one × (changed ≡ one ∷ [])

-- whether a row is there in some admitted variant in which its table is
abbrev pub can_be_there : Expr → Table → VRow → Bool
can_be_there model table row = can_hold model (and_of table.cond row.cond)

-- the rows that are
abbrev pub holding : Expr → Table → List VRow → List VRow
holding model table rows = filter (can_be_there model table) rows

-- the rows that begin where a touched row ends
pub record Splits (model : Expr) (table : Table) (w : Write) (row : VRow) (begun : List VRow) : Type 0 where
  pub rest : VRow
  pub rest_is : IsRest model table w row rest
  pub changed : List VRow
  pub changed_are : AreChanged model table w row changed
  pub begun_are : begun ≡ holding model table (rest ∷ changed)

-- what becomes of a row
abbrev pub IsFate : Expr → Table → Write → VRow → Fate → Type 0
IsFate model table w row Stays = is_touched model table w row ≡ false
IsFate model table w row (Ends begun) = (is_touched model table w row ≡ true) × Splits model table w row begun

abbrev pub AreFates : Expr → Table → Write → List VRow → List Fate → Type 0
AreFates model table w [] [] = Unit {0}
AreFates model table w (row ∷ rows) (fate ∷ fates) = IsFate model table w row fate × AreFates model table w rows fates
AreFates model table w rows fates = ⊥

abbrev pub staying_by : Fate → VRow → List VRow
staying_by Stays row = row ∷ []
staying_by (Ends begun) row = []

-- the rows that stay, in their order
abbrev pub staying : List VRow → List Fate → List VRow
staying [] fates = []
staying (row ∷ rows) [] = []
staying (row ∷ rows) (fate ∷ fates) = staying_by fate row ++ staying rows fates

abbrev pub begun_by : Fate → List VRow
begun_by Stays = []
begun_by (Ends begun) = begun

-- a new row: in each column the value given for it
abbrev pub inserted_row : Table → List (List ℕ) → Expr → List Operand → VRow
inserted_row table names expr values =
    record { cells = map (λ (column : Column). assigned (assignments_of names values) (bare_name column.name)) table.columns; cond = expr }

-- the rows that an INSERT lists, under its condition
abbrev pub inserted : Table → Write → List VRow
inserted table (write.Insert name names rows expr) = map (inserted_row table names expr) rows
inserted table (write.Delete name cond expr) = []
inserted table (write.Update name items cond expr) = []

-- all rows that begin, in order
abbrev pub begun : Expr → Table → Write → List Fate → List VRow
begun model table w fates = holding model table (inserted table w) ++ flat_map begun_by fates

-- The rows that stay, and behind them those that begin.
pub record IsRowWrite (model : Expr) (table : Table) (w : Write) (old new : List VRow) : Type 0 where
  pub fates : List Fate
  pub are_fates : AreFates model table w old fates
  pub new_are : new ≡ staying old fates ++ begun model table w fates
