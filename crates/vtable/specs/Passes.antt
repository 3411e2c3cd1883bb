-- What the passes make of columns and rows, one after another.
use Rattle.std.specs.Prelude.{Bool, true, false, not, IsTrue, ◌≡◌, ◌&&◌, ◌++◌, ◌+◌, ◌≤◌, ℕ, List, [], ◌∷◌, map, Option, Some, None, if◌then◌else◌}
use Rattle.std.specs.List.{filter_map}
use Rattle.std.specs.Ordering.{is_lt}
use Rattle.feature_expr.specs.declared.expr.Expr.{Expr}
use Rattle.feature_expr.specs.declared.expr.Expr as e
use Rattle.values.specs.declared.value.Value.{Value}
use Rattle.condition_sat.specs.Admitted.{IsAdmitted}
use Rattle.condition_sat.specs.Possible.{can_hold, can_meet, settled, is_settled}
use Rattle.feature_expr.specs.Expressions.{mentions, weight_of}
use Rattle.feature_expr.specs.Satisfaction.{satisfies}
use Rattle.vtable.specs.Disjunction.{any_holds, any_mentions, conds_cost}
use Rattle.vtable.specs.TableForm.{has_cell, cells_cmp, same_cells}
use Rattle.vtable.specs.declared.decision.Decision.{Decision}
use Rattle.vtable.specs.declared.decision.Fate.{Fate}
use Rattle.vtable.specs.declared.decision.Fate.TheVariants as fate
use Rattle.vtable.specs.declared.group.CutRow.{CutRow}
use Rattle.vtable.specs.declared.group.Group.{Group}
use Rattle.vtable.specs.declared.table.VColumn.{VColumn}
use Rattle.vtable.specs.declared.table.VRow.{VRow}

-- the columns that stay, of decided ones
abbrev pub staying : List (Option VColumn) → List VColumn
staying decided = filter_map (λ column. column) decided

-- what becomes of a row's cell in a column
abbrev pub fate_of : Expr → Expr → Option VColumn → Fate
fate_of model cond None = fate.Dropped
fate_of model cond (Some column) = if can_meet model cond column.cond then fate.Kept else fate.Blanked

-- what was decided of a row's condition is so
pub record IsDecision (model : Expr) (columns : List (Option VColumn)) (decision : Decision) : Type 0 where
  pub possible : decision.possible ≡ can_hold model decision.cond
  pub settled_cond : decision.always ≡ true → settled model decision.cond ≡ e.True
  pub unsettled : decision.always ≡ false → settled model decision.cond ≡ decision.cond
  pub fates : decision.possible ≡ true → decision.fates.items ≡ map (fate_of model decision.cond) columns

-- a cell that is kept or blanked, at its place; none where the column is dropped
abbrev pub cell_by : Fate → Option Value → List (Option Value)
cell_by fate.Kept cell = cell ∷ []
cell_by fate.Blanked cell = None ∷ []
cell_by fate.Dropped cell = []

abbrev pub cells_by : List Fate → List (Option Value) → List (Option Value)
cells_by [] cells = []
cells_by (fate ∷ fates) [] = []
cells_by (fate ∷ fates) (cell ∷ cells) = cell_by fate cell ++ cells_by fates cells

-- a row cut to the decided columns, where its condition can hold and a cell is left
abbrev pub row_staying : Expr → List (Option VColumn) → VRow → Option VRow
row_staying model columns row =
    if can_hold model row.cond && has_cell (cells_by (map (fate_of model row.cond) columns) row.cells)
    then Some (record { cells = cells_by (map (fate_of model row.cond) columns) row.cells; cond = settled model row.cond })
    else None

-- a row that is cut, as a row of a table
abbrev pub table_row : CutRow → VRow
table_row row = record { cells = row.cells.items; cond = row.cond }

-- whether no row is before the one in front of it, by their cells
abbrev pub is_in_order : List VRow → Bool
is_in_order [] = true
is_in_order (row ∷ []) = true
is_in_order (row ∷ next ∷ rows) = not (is_lt (cells_cmp next.cells row.cells)) && is_in_order (next ∷ rows)

abbrev pub group_of : VRow → Group
group_of row = record { cells = row.cells; first = row.cond; more = [] }

abbrev pub with_cond : Group → Expr → Group
with_cond group cond = record { cells = group.cells; first = group.first; more = group.more ++ cond ∷ [] }

-- the groups of the rows that follow, where the current group may go on
abbrev pub groups_after : Option Group → List VRow → List Group
groups_after None [] = []
groups_after None (row ∷ rows) = groups_after (Some (group_of row)) rows
groups_after (Some group) [] = group ∷ []
groups_after (Some group) (row ∷ rows) = if same_cells group.cells row.cells then groups_after (Some (with_cond group row.cond)) rows else group ∷ groups_after (Some (group_of row)) rows

-- the rows of a group
abbrev pub group_rows : Group → List VRow
group_rows group = map (λ (cond : Expr). record { cells = group.cells; cond = cond }) (group.first ∷ group.more)

-- The one row of a group: it has the group's cells, it is there where one of the group's rows is, its condition weighs
-- at most one more for each row but the first, is settled where the first row's is, and mentions what the group's do.
pub record IsJoined (model : Expr) (group : Group) (row : VRow) : Type 0 where
  pub cells : row.cells ≡ group.cells
  pub holds : (c : List ℕ) → IsAdmitted model c → satisfies c row.cond ≡ any_holds c (group.first ∷ group.more)
  pub cost : weight_of row.cond + 1 ≤ conds_cost (group.first ∷ group.more)
  pub settled : is_settled model group.first ≡ true → is_settled model row.cond ≡ true
  pub known : (i : ℕ) → IsTrue (mentions i row.cond) → IsTrue (any_mentions i (group.first ∷ group.more))

abbrev pub AllJoined : Expr → List Group → List VRow → Type 0
AllJoined model [] [] = Unit {0}
AllJoined model (group ∷ groups) (row ∷ rows) = IsJoined model group row × AllJoined model groups rows
AllJoined model _ _ = ⊥
