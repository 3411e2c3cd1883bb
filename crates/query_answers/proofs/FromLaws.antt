-- The run of a plan, its columns retyped and brought into table form, answers each query that the plan was made for.
use Rattle.std.proofs.Common.{◌≡◌, ℕ, List, []}
use Rattle.feature_expr.specs.declared.expr.Expr.{Expr}
use Rattle.values.specs.declared.value.Kind.{Kind}
use Rattle.plain_relation.specs.Relations.{Relation}
use Rattle.plan_exec.specs.Runs.{CanRun, IsRunOf}
use Rattle.plan_tables.specs.declared.rows.TableRows.{TableRows}
use Rattle.query_meaning.specs.Bounds.{IsWithin, Size, query_size}
use Rattle.query_meaning.specs.Meaning.{HasColumns, meaning}
use Rattle.query_meaning.specs.PlainTypes.{cases_of, columns_in, plain_type}
use Rattle.query_meaning.specs.Plans.{plan_possible}
use Rattle.query_meaning.specs.Sources.{Source, catalog_source}
use Rattle.query_meaning.specs.declared.plan.Plan.{Plan}
use Rattle.query_names.specs.declared.typed.Typed.{Typed}
use Rattle.relational_algebra.specs.Columns.{once}
use Rattle.vra_syntax.specs.declared.query.Query.{Query}
use Rattle.vschema.specs.declared.catalog.Table.{Table}
use Rattle.vtable.specs.TableForm.{IsNormalOf}
use Rattle.vtable.specs.declared.table.VTable.{VTable}
use Rattle.query_answers.proofs.AnswerLaws.{answers}
use Rattle.query_answers.proofs.OpeningLaws.{opening_answer}
use Rattle.query_answers.specs.Answering.{IsAnswerFrom}
use Rattle.query_answers.specs.Retyped.{retyped}

pub answer_from : ((c : List ℕ) (kinds : List Kind) (tables : List Table) (database : ℕ → Relation) (query : Query) → HasColumns c (catalog_source tables) database → cases_of (plain_type c kinds tables query) ≡ [] → (meaning c tables database query).columns ≡ columns_in (plain_type c kinds tables query)) → ((sources : ℕ → Source) (p : Plan) → ((table : ℕ) → once (sources table).possible ≡ (sources table).possible) → once (plan_possible sources p) ≡ plan_possible sources p) → ((tables : List Table) (sizes others : ℕ → Size) (query : Query) → ((table : ℕ) → IsWithin (sizes table) (others table)) → IsWithin (query_size tables sizes query) (query_size tables others query)) → (model : Expr) (rows : List TableRows) (it : Typed) → CanRun model rows it.plan → (ran : VTable) → IsRunOf model rows it.plan ran → (after : VTable) → IsNormalOf model (record { columns = retyped ran.columns it.columns; rows = ran.rows }) after → IsAnswerFrom model rows it after
answer_from columns_law once_law grows model rows it can ran is after normal = record {
  answers = λ kinds tables query typed holds. answers columns_law once_law model kinds tables query it.columns it.plan rows typed holds can ran is after normal;
  opening = λ c opening kinds query same are typed. opening_answer grows c opening model rows kinds query it.columns it.plan after same are typed
      (λ here holds. answers columns_law once_law model kinds c.tables query it.columns it.plan rows here holds can ran is after normal);
}
