-- When a typed query can be answered from rows at hand, and what the answer is.
use Rattle.std.specs.Prelude.{◌≡◌, List}
use Rattle.feature_expr.specs.declared.expr.Expr.{Expr}
use Rattle.values.specs.declared.value.Kind.{Kind}
use Rattle.vra_syntax.specs.declared.query.Query.{Query}
use Rattle.vschema.specs.declared.catalog.Catalog.{Catalog}
use Rattle.vschema.specs.declared.catalog.OpeningRow.{OpeningRow}
use Rattle.vschema.specs.declared.catalog.Table.{Table}
use Rattle.vtable.specs.declared.table.VTable.{VTable}
use Rattle.query_meaning.specs.Typing.{IsTyped}
use Rattle.query_names.specs.declared.typed.Typed.{Typed}
use Rattle.plan_exec.specs.Runs.{CanRun}
use Rattle.plan_tables.specs.StoredRows.{database_of, rows_size}
use Rattle.plan_tables.specs.declared.rows.TableRows.{TableRows}
use Rattle.query_answers.specs.Answers.{IsAnswerTo}
use Rattle.query_answers.specs.Held.{HoldsTables, held_mention}
use Rattle.query_answers.specs.Openings.{IsOpeningAnswer, opening_tables}

-- Some query was typed so, the rows are those of the tables that it was typed over, and the plan can be run over them.
pub record CanAnswer (model : Expr) (rows : List TableRows) (it : Typed) : Type 0 where
  pub kinds : List Kind
  pub tables : List Table
  pub query : Query
  pub typed : IsTyped model kinds tables query it.columns it.plan
  pub held : HoldsTables tables rows
  pub run : CanRun model rows it.plan

-- It answers every query that was typed so over the tables whose rows these are: over the database that the rows make in
-- each variant, and within the bounds that their sizes give. Where they are the opening rows of a catalogue, it is the
-- answer before any commit.
pub record IsAnswerFrom (model : Expr) (rows : List TableRows) (it : Typed) (answer : VTable) : Type 0 where
  pub answers : (kinds : List Kind) (tables : List Table) (query : Query) → IsTyped model kinds tables query it.columns it.plan → HoldsTables tables rows → IsAnswerTo model tables (database_of rows) (rows_size rows) (held_mention rows) query it.columns answer
  pub opening : (catalog : Catalog) (opening : List OpeningRow) (kinds : List Kind) (query : Query) → model ≡ catalog.model → rows ≡ opening_tables catalog.tables opening → IsTyped catalog.model kinds catalog.tables query it.columns it.plan → IsOpeningAnswer catalog opening query it.columns answer
