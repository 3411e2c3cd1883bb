-- The answer to a query in every variant, as one table.
use Rattle.std.specs.Prelude.{ℕ, ◌≡◌, ◌+◌, ◌≤◌, ◌||◌, Bool, true, List, map, length}
use Rattle.condition_sat.specs.Admitted.{IsAdmitted}
use Rattle.feature_expr.specs.declared.expr.Expr.{Expr}
use Rattle.plain_relation.specs.Relations.{Relation, SameRelation}
use Rattle.vra_syntax.specs.declared.query.Query.{Query}
use Rattle.vschema.specs.declared.catalog.Table.{Table}
use Rattle.vtable.specs.Answers.{IsAnswerAt, answer_at}
use Rattle.vtable.specs.TableForm.{IsTableForm, rows_mention, rows_weight}
use Rattle.vtable.specs.declared.table.VTable.{VTable}
use Rattle.relational_algebra.specs.Mentions.{query_mentions}
use Rattle.query_meaning.specs.Bounds.{Size, query_size}
use Rattle.query_meaning.specs.Meaning.{meaning}
use Rattle.query_meaning.specs.Typing.{tables_mention}
use Rattle.query_meaning.specs.declared.typed.TypedColumn.{TypedColumn}
use Rattle.query_answers.specs.Held.{answer_column}

-- The answer is in table form, with the columns that typing gave the query. In each admitted variant it is well formed,
-- and is what the configured query means over the variant's database. Its rows and their conditions are within the
-- query's bounds over stored tables of these sizes. A feature in their conditions is one of the query, of the
-- tables' conditions, or of what is stored.
pub record IsAnswerTo (model : Expr) (tables : List Table) (database : List ℕ → ℕ → Relation) (sizes : ℕ → Size) (stored : ℕ → Bool) (query : Query) (columns : List TypedColumn) (answer : VTable) : Type 0 where
  pub form : IsTableForm model answer
  pub columns_are : answer.columns ≡ map answer_column columns
  pub formed : (c : List ℕ) → IsAdmitted model c → IsAnswerAt c answer
  pub right : (c : List ℕ) → IsAdmitted model c → SameRelation (answer_at c answer) (meaning c tables (database c) query)
  pub rows : length answer.rows ≤ (query_size tables sizes query).rows
  pub row_conditions : rows_weight answer.rows ≤ (query_size tables sizes query).row_weight + (query_size tables sizes query).rows
  pub known : (feature : ℕ) → rows_mention feature answer.rows ≡ true → (query_mentions feature query || tables_mention feature tables || stored feature) ≡ true
