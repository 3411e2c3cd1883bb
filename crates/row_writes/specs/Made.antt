-- How the fate of a row is made: from the expression in which a write touches it.
use Rattle.std.specs.Prelude.{ℕ, ◌+◌, ◌≡◌, ◌≤◌, Bool, true, ◌&&◌, ◌||◌, List, [], ◌∷◌, flat_map, if◌then◌else◌}
use Rattle.condition_sat.specs.Possible.{some_admitted}
use Rattle.feature_expr.specs.Expressions.{and_of, not_of, mentions, weight_of}
use Rattle.feature_expr.specs.Satisfaction.{satisfies}
use Rattle.feature_expr.specs.declared.expr.Expr.{Expr}
use Rattle.query_meaning.specs.WriteTyping.{Assignment}
use Rattle.relational_algebra.specs.Conditions.{condition_cost, holds}
use Rattle.relational_algebra.specs.Mentions.{cond_mentions}
use Rattle.row_conditions.specs.RowConditions.{cells_are_distinct, columns_weight, mentioned_in, row_at}
use Rattle.vra_syntax.specs.declared.cond.Cond.{Cond}
use Rattle.vra_syntax.specs.declared.write.Write.{Write}
use Rattle.vschema.specs.declared.catalog.Column.{Column}
use Rattle.vschema.specs.declared.catalog.Table.{Table}
use Rattle.vtable.specs.declared.table.VColumn.{VColumn}
use Rattle.vtable.specs.declared.table.VRow.{VRow}
use Rattle.write_meaning.specs.RowWrites.{AreFates, begun_by, holding, set_cells, staying}
use Rattle.write_meaning.specs.declared.fate.Fate.{Fate}
use Rattle.write_meaning.specs.declared.fate.Fate.TheVariants.{Stays, Ends}

-- Of the variants in which the table is there it holds in just those in which a write of this expression and condition
-- touches the row, where no two columns of one name are there.
pub record IsTouchOn (expr : Expr) (cond : Cond) (columns : List VColumn) (row : VRow) (touch : Expr) : Type 0 where
  pub exact : (c : List ℕ) → cells_are_distinct (row_at c columns row) ≡ true → satisfies c touch ≡ (satisfies c expr && holds c cond (row_at c columns row))
  pub weight : weight_of touch ≤ weight_of expr + condition_cost cond (columns_weight columns) + 1
  pub features : (feature : ℕ) → mentions feature touch ≡ true → (mentions feature expr || (cond_mentions feature cond || mentioned_in feature columns)) ≡ true

-- whether it does so in some admitted variant in which the table and the row are there
abbrev pub can_touch : Expr → Table → VRow → Expr → Bool
can_touch model table row touch = some_admitted model (λ c. satisfies c table.cond && (satisfies c row.cond && satisfies c touch))

-- what is left of the row
abbrev pub rest_of : VRow → Expr → VRow
rest_of row touch = record { cells = row.cells; cond = and_of row.cond (not_of touch) }

-- the row with the given values, where it is touched
abbrev pub changed_of : List Column → List Assignment → VRow → Expr → VRow
changed_of columns given row touch = record { cells = set_cells columns given row.cells; cond = and_of row.cond touch }

abbrev pub fate_by : Bool → List VRow → Fate
fate_by touched begun = if touched then Ends begun else Stays

-- what a DELETE makes of the row
pub record IsDeleted (model : Expr) (table : Table) (columns : List VColumn) (expr : Expr) (cond : Cond) (row : VRow) (fate : Fate) : Type 0 where
  pub touch : Expr
  pub touch_is : IsTouchOn expr cond columns row touch
  pub fate_is : fate ≡ fate_by (can_touch model table row touch) (holding model table (rest_of row touch ∷ []))

-- what an UPDATE makes of the row
pub record IsUpdated (model : Expr) (table : Table) (columns : List VColumn) (expr : Expr) (cond : Cond) (given : List Assignment) (row : VRow) (fate : Fate) : Type 0 where
  pub touch : Expr
  pub touch_is : IsTouchOn expr cond columns row touch
  pub fate_is : fate ≡ fate_by (can_touch model table row touch) (holding model table (rest_of row touch ∷ changed_of table.columns given row touch ∷ []))

-- of these rows those stay, and these begin
pub record AreWritten (model : Expr) (table : Table) (w : Write) (rows stay begun : List VRow) : Type 0 where
  pub fates : List Fate
  pub are_fates : AreFates model table w rows fates
  pub stay_are : stay ≡ staying rows fates
  pub begun_are : begun ≡ flat_map begun_by fates
