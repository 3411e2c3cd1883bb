-- What the run of a plan gives, over the rows of the tables that it scans.
use Rattle.std.specs.Prelude.{ℕ, ◌≡◌, ◌≤◌, true, List, map, length, ◌||◌}
use Rattle.condition_sat.specs.Admitted.{IsAdmitted}
use Rattle.std.specs.List.{AllByRecursion}
use Rattle.feature_expr.specs.declared.expr.Expr.{Expr}
use Rattle.plain_relation.specs.Relations.{SameRelation}
use Rattle.vtable.specs.Answers.{answer_at, IsAnswerAt}
use Rattle.vtable.specs.TableForm.{rows_weight}
use Rattle.vtable.specs.declared.table.VTable.{VTable}
use Rattle.query_meaning.specs.Bounds.{pairs_bound, plan_size}
use Rattle.query_meaning.specs.Meaning.{plan_meaning}
use Rattle.query_meaning.specs.Plans.{IsSound, has_number, param_in_plan, plan_mentions, plan_possible, scans}
use Rattle.query_meaning.specs.declared.plan.Plan.{Plan}
use Rattle.plan_tables.specs.declared.rows.TableRows.{TableRows}
use Rattle.plan_tables.specs.Tables.{heading}
use Rattle.plan_tables.specs.StoredRows.{IsStored, are_distinct, database_of, rows_size, rows_source, table_mentions, table_numbers, tables_mention}

-- A plan can be run over these tables: each table that it scans is among them and none stands twice, it holds no parameter
-- any more, and it is sound over their columns.
pub record CanRun (model : Expr) (tables : List TableRows) (p : Plan) : Type 0 where
  pub stored : AllByRecursion (λ (table : TableRows). IsStored model table.rows) tables
  pub distinct : are_distinct (table_numbers tables) ≡ true
  pub held : (number : ℕ) → has_number number (scans p) ≡ true → has_number number (table_numbers tables) ≡ true
  pub bound : param_in_plan p ≡ 0
  pub sound : IsSound model (rows_source tables) p

-- the most pairs of rows that its joins may form
abbrev pub steps_bound : List TableRows → Plan → ℕ
steps_bound tables p = pairs_bound (rows_source tables) (rows_size tables) p

-- Its columns are the plan's possible ones, in their order. In each admitted variant it is well formed, and is what the
-- configured plan means over the tables there. Its rows and their conditions are within the plan's bounds, and
-- no feature stands in it that neither the plan nor a table has.
pub record IsRunOf (model : Expr) (tables : List TableRows) (p : Plan) (table : VTable) : Type 0 where
  pub columns : map heading table.columns ≡ plan_possible (rows_source tables) p
  pub formed : (c : List ℕ) → IsAdmitted model c → IsAnswerAt c table
  pub means : (c : List ℕ) → IsAdmitted model c → SameRelation (answer_at c table) (plan_meaning c (rows_source tables) (database_of tables c) p)
  pub rows : length table.rows ≤ (plan_size (rows_source tables) (rows_size tables) p).rows
  pub row_weight : rows_weight table.rows ≤ (plan_size (rows_source tables) (rows_size tables) p).row_weight
  pub features : (feature : ℕ) → table_mentions feature table ≡ true → (plan_mentions feature p || tables_mention feature tables) ≡ true
