-- The same from rows under conditions: the lists of mandatory cells of the rows of which the condition is true in some
-- admitted variant.
use Rattle.std.specs.Prelude.{ℕ, ◌≡◌, ◌↔◌, Bool, ◌&&◌, List, [], ◌∷◌, map, filter, length, Option, if◌then◌else◌}
use Rattle.std.specs.List.{list_any}
use Rattle.condition_sat.specs.Possible.{some_admitted}
use Rattle.feature_expr.specs.Satisfaction.{satisfies}
use Rattle.feature_expr.specs.declared.expr.Expr.{Expr}
use Rattle.relational_algebra.specs.Conditions.{holds}
use Rattle.row_conditions.specs.RowConditions.{row_at}
use Rattle.values.specs.declared.value.Value.{Value}
use Rattle.vra_syntax.specs.declared.cond.Cond.{Cond}
use Rattle.vschema.specs.Gaps.{is_column_there}
use Rattle.vschema.specs.declared.catalog.Table.{Table}
use Rattle.vtable.specs.declared.table.VRow.{VRow}
use Rattle.write_counts.specs.Counts.{AreDistinct, is_mandatory}
use Rattle.write_meaning.specs.Members.{Has}
use Rattle.write_meaning.specs.StoredTables.{stored_columns}

-- the cells at the marked places
abbrev pub marked : List Bool → List (Option Value) → List (Option Value)
marked [] cells = []
marked (mark ∷ marks) [] = []
marked (mark ∷ marks) (cell ∷ cells) = if mark then cell ∷ marked marks cells else marked marks cells

-- a row's cells at the places of the mandatory columns
abbrev pub cells_in : Expr → Table → VRow → List (Option Value)
cells_in model table row = marked (map (is_mandatory model table) table.columns) row.cells

-- whether, in some admitted variant, the expression holds, the table and the row are there and the condition is true of it
abbrev pub is_met : Expr → Table → Expr → Cond → VRow → Bool
is_met model table expr cond row =
    some_admitted model (λ c. satisfies c table.cond && (satisfies c row.cond && (satisfies c expr && holds c cond (row_at c (stored_columns table) row))))

abbrev pub met_lists : Expr → Table → Expr → Cond → List VRow → List (List (Option Value))
met_lists model table expr cond rows = map (cells_in model table) (filter (is_met model table expr cond) rows)

-- the lists are those, each once
pub record AreOnce (all lists : List (List (Option Value))) : Type 0 where
  pub distinct : AreDistinct lists
  pub same : (cells : List (Option Value)) → Has lists cells ↔ Has all cells

-- the expression, where the table has a column: in a variant in which it has none it is absent, and has no rows
abbrev pub IsWithColumns : Expr → Table → Expr → Type 0
IsWithColumns expr table narrowed = (c : List ℕ) → satisfies c narrowed ≡ (satisfies c expr && list_any (is_column_there c) table.columns)

-- so many distinct lists are there of the rows that are met where the table has a column
pub record IsMetCount (model : Expr) (table : Table) (expr : Expr) (cond : Cond) (rows : List VRow) (count : ℕ) : Type 0 where
  pub narrowed : Expr
  pub is_narrowed : IsWithColumns expr table narrowed
  pub lists : List (List (Option Value))
  pub once : AreOnce (met_lists model table narrowed cond rows) lists
  pub count_is : count ≡ length lists
