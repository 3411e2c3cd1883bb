-- A condition costs no less over heavier columns, and stored columns are no heavier than their table's bound.
use Rattle.std.proofs.Common.{ℕ, ◌+◌, ◌*◌, ◌≤◌, List, [], ◌∷◌, map, sym, subst, arith}
use Rattle.std.specs.List.{sum_by}
use Rattle.std.proofs.lemmas.List.Sums.{sum_by-cons}
use Rattle.std.proofs.lemmas.Nat.{mul-le}
use Rattle.feature_expr.specs.Expressions.{weight_of}
use Rattle.query_meaning.specs.Bounds.{column_weight_in, table_column_weight}
use Rattle.relational_algebra.specs.Conditions.{condition_cost, cost_step}
use Rattle.row_conditions.proofs.FoldingLaws.{and_weighs}
use Rattle.row_conditions.specs.RowConditions.{columns_weight}
use Rattle.vra_syntax.specs.declared.cond.Cond.{Cond, map-Cond, roll-Cond}
use Rattle.vra_syntax.specs.declared.cond.Cond.TheFolds.{fold-roll-Cond, ind-Cond}
use Rattle.vra_syntax.specs.declared.cond.Cond.TheOpen.{Cond-F}
use Rattle.vschema.specs.declared.catalog.Column.{Column}
use Rattle.vschema.specs.declared.catalog.Table.{Table}
use Rattle.vtable.specs.declared.table.VColumn.{VColumn}
use Rattle.write_meaning.specs.StoredTables.{stored_column, stored_columns}
use denote.Hole.Carrier

squared : (j k : ℕ) → j ≤ k → (j + 8) * (j + 8) ≤ (k + 8) * (k + 8)
squared j k le = mul-le (j + 8) (j + 8) (k + 8) (k + 8) (omega arith) (omega arith)

module _ (j k : ℕ) (le : j ≤ k) where
  abbrev Grows : Cond → Type 0
  Grows c = condition_cost c j ≤ condition_cost c k

  grows_rolled : (x : Cond-F Cond) → cost_step j (map-Cond Cond ℕ (λ c. condition_cost c j) x) ≤ cost_step k (map-Cond Cond ℕ (λ c. condition_cost c k) x) → Grows (roll-Cond x)
  grows_rolled x h = subst (λ n. n ≤ condition_cost (roll-Cond x) k) (sym (fold-roll-Cond ℕ (cost_step j) x)) (subst (λ n. cost_step j (map-Cond Cond ℕ (λ c. condition_cost c j) x) ≤ n) (sym (fold-roll-Cond ℕ (cost_step k) x)) h)

  more : (n a b x y : ℕ) → a ≤ x → b ≤ y → n + a + b ≤ n + x + y
  more n a b x y h i = omega arith

  grows_layer : (y : Cond-F ((c : Cond) × Grows c)) → Grows (roll-Cond (map-Cond ((c : Cond) × Grows c) Cond (λ e. e.0) y))
  grows_layer (Cond-F.Cmp left sign right) = grows_rolled (Cond-F.Cmp left sign right) (squared j k le)
  grows_layer (Cond-F.Not x) = grows_rolled (Cond-F.Not x.0) (more 1 0 _ 0 _ (omega arith) x.1)
  grows_layer (Cond-F.And l r) = grows_rolled (Cond-F.And l.0 r.0) (more 1 _ _ _ _ l.1 r.1)
  grows_layer (Cond-F.Or l r) = grows_rolled (Cond-F.Or l.0 r.0) (more 1 _ _ _ _ l.1 r.1)
  grows_layer (Cond-F.Choice expr l r) = grows_rolled (Cond-F.Choice expr l.0 r.0) (more (2 * weight_of expr + 4) _ _ _ _ l.1 r.1)
  grows_layer Cond-F.True = grows_rolled Cond-F.True (omega arith)
  grows_layer Cond-F.False = grows_rolled Cond-F.False (omega arith)

  pub cost_grows : (c : Cond) → condition_cost c j ≤ condition_cost c k
  cost_grows = ind-Cond Grows (λ x y is. subst (λ z. Grows (roll-Cond z)) is (grows_layer y))

columns_weigh : (table : Table) (columns : List Column) → columns_weight (map (stored_column table) columns) ≤ sum_by (column_weight_in (weight_of table.cond)) columns
columns_weigh table [] = omega arith
columns_weigh table (k ∷ ks) =
    let one = and_weighs table.cond k.cond in
    let rest = columns_weigh table ks in
    let left = sum_by-cons (λ (column : VColumn). weight_of column.cond) (stored_column table k) (map (stored_column table) ks) in
    let right = sum_by-cons (column_weight_in (weight_of table.cond)) k ks in
    omega (arith, one, rest, left, right)

-- what a condition costs over stored columns is within its bound
pub stored_cost : (table : Table) (c : Cond) → condition_cost c (columns_weight (stored_columns table)) ≤ condition_cost c (table_column_weight table)
stored_cost table c = cost_grows (columns_weight (stored_columns table)) (table_column_weight table) (columns_weigh table table.columns) c
