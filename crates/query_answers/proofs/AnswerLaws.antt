-- The run of a typed query's plan, its columns retyped and brought into table form, is an answer to the query.
use Rattle.std.proofs.Common.{◌≡◌, ◌∙◌, ℕ, ◌==◌, Bool, true, false, ◌||◌, List, [], ◌∷◌, map, length, Option, Some, None, arith, refl, sym, ap, subst}
use Rattle.std.specs.Bool.{one_answer}
use Rattle.std.specs.Cmp.{IsEquivalence}
use Rattle.std.specs.List.{AllByRecursion, list_all, list_any}
use Rattle.std.proofs.lemmas.List.{length-map}
use Rattle.std.proofs.lemmas.Map.Views.{Contains-from_any, list_any-from_Contains}
use Rattle.condition_sat.specs.Admitted.{IsAdmitted}
use Rattle.feature_expr.specs.declared.expr.Expr.{Expr}
use Rattle.values.specs.declared.value.Kind.{Kind}
use Rattle.plain_relation.specs.Relations.{Column, Relation, SameRelation, columns_of, relation_of}
use Rattle.plan_tables.proofs.MemberLaws.{column_is, column_same}
use Rattle.plan_exec.specs.Runs.{CanRun, IsRunOf}
use Rattle.plan_tables.specs.StoredRows.{IsStored, database_of, rows_of, rows_size, rows_source, source_by}
use Rattle.plan_tables.specs.Tables.{heading, headings}
use Rattle.plan_tables.specs.StoredRows as stored_rows
use Rattle.plan_tables.specs.declared.rows.TableRows.{TableRows}
use Rattle.query_meaning.proofs.ColumnSets.{column_decides, distinct, distinct_from_once, once_distinct}
use Rattle.query_meaning.specs.Bounds.{IsWithin, plan_size, query_size}
use Rattle.query_meaning.specs.Meaning.{HasColumns, meaning, plan_meaning}
use Rattle.query_meaning.specs.PlainTypes.{cases_of, columns_in, plain_type}
use Rattle.query_meaning.specs.Plans.{plan_mentions, plan_possible}
use Rattle.query_meaning.specs.PossibleColumns.{possible_columns}
use Rattle.query_meaning.specs.Sources.{Source, catalog_source}
use Rattle.query_meaning.specs.Typing.{IsTyped, tables_mention}
use Rattle.query_meaning.specs.Typing as typing
use Rattle.query_meaning.specs.declared.plan.Plan.{Plan}
use Rattle.query_meaning.specs.declared.typed.TypedColumn.{TypedColumn}
use Rattle.relational_algebra.specs.Columns.{among, in_order_of, once, same_column}
use Rattle.relational_algebra.specs.Mentions.{query_mentions}
use Rattle.row_conditions.proofs.BoolLaws.{or_end}
use Rattle.vra_syntax.specs.declared.query.Query.{Query}
use Rattle.vschema.specs.declared.catalog.Table.{Table}
use Rattle.vtable.specs.Answers.{IsAnswerAt, answer_at, column_at, fits, names_are_distinct, rows_at}
use Rattle.vtable.specs.TableForm.{IsNormalOf, columns_are_distinct, rows_mention}
use Rattle.vtable.specs.declared.table.VColumn.{VColumn}
use Rattle.vtable.specs.declared.table.VRow.{VRow}
use Rattle.vtable.specs.declared.table.VTable.{VTable}
use Rattle.query_answers.proofs.PlanLaws.{same_mentions}
use Rattle.query_answers.proofs.RetypeLaws.{Agree, Retypes, distinct_is, retypes, same_headings}
use Rattle.query_answers.proofs.SourceLaws.{answer_columns, database_columns, same_sources}
use Rattle.query_answers.specs.Answers.{IsAnswerTo}
use Rattle.query_answers.specs.Held.{HoldsTables, held_mention}
use Rattle.query_answers.specs.Retyped.{retyped}

-- ---- sets of columns

same_equivalence : IsEquivalence same_column
same_equivalence = record {
  refl = column_same;
  symm = λ one other. let turned = column_decides other one in one_answer (same_column one other) (same_column other one) (column_decides one other) ((λ is. sym (turned.0 is)), (λ is. turned.1 (sym is)));
  congr = λ x y z is. ap (λ k. same_column k z) (column_is x y is);
}

either_way : (a b : Bool) → (a ≡ true → b ≡ true) → (b ≡ true → a ≡ true) → a ≡ b
either_way true true f g = refl
either_way true false f g = sym (f refl)
either_way false true f g = g refl
either_way false false f g = refl

same_among : (one other : Relation) → SameRelation one other → (k : Column) → among k one.columns ≡ among k other.columns
same_among one other same k =
    let columns = same.columns k in
    either_way (among k one.columns) (among k other.columns)
    (λ h. list_any-from_Contains same_equivalence k other.columns (columns.0 (Contains-from_any column_is k one.columns h)))
    (λ h. list_any-from_Contains same_equivalence k one.columns (columns.1 (Contains-from_any column_is k other.columns h)))

same_then : (one two three : Relation) → SameRelation one two → SameRelation two three → SameRelation one three
same_then one two three f g = record {
  columns = λ k. (λ x. (g.columns k).0 ((f.columns k).0 x), λ x. (f.columns k).1 ((g.columns k).1 x));
  rows = λ values. (λ x. (g.rows values).0 ((f.rows values).0 x), λ x. (f.rows values).1 ((g.rows values).1 x));
}

-- ---- a table with other columns, in the same places

abbrev with_columns : VTable → List VColumn → VTable
with_columns table columns = record { columns = columns; rows = table.rows }

module _ (c : List ℕ) (table : VTable) (columns : List VColumn) (same : map (column_at c) columns ≡ map (column_at c) table.columns) (long : length columns ≡ length table.columns) where
  other_answers : IsAnswerAt c table → IsAnswerAt c (with_columns table columns)
  other_answers it = record {
    distinct = ap (λ places. names_are_distinct (columns_of places)) same ∙ it.distinct;
    whole = ap (λ n. list_all (λ (row : VRow). length row.cells == n) table.rows) long ∙ it.whole;
    filled = ap (λ places. list_all (fits places) (rows_at c table)) same ∙ it.filled;
  }

  other_relation : answer_at c (with_columns table columns) ≡ answer_at c table
  other_relation = ap (λ places. relation_of places (rows_at c table)) same

-- ---- the rows at hand

abbrev StoredAs : Expr → Option TableRows → Type 0
StoredAs model None = Unit {0}
StoredAs model (Some table) = IsStored model table.rows

stored_step : (model : Expr) (number : ℕ) (t : TableRows) (ts : List TableRows) (here : Bool) → (t.table == number) ≡ here → IsStored model t.rows → StoredAs model (rows_of ts number) → StoredAs model (rows_of (t ∷ ts) number)
stored_step model number t ts true is one rest = rw is one
stored_step model number t ts false is one rest = rw is rest

every_stored : (model : Expr) (rows : List TableRows) → AllByRecursion (λ (table : TableRows). IsStored model table.rows) rows → (number : ℕ) → StoredAs model (rows_of rows number)
every_stored model [] all number = tt
every_stored model (t ∷ ts) all number = stored_step model number t ts (t.table == number) refl all.0 (every_stored model ts all.1 number)

once_source : (model : Expr) (held : Option TableRows) → StoredAs model held → once (source_by held).possible ≡ (source_by held).possible
once_source model None stored = refl
once_source model (Some table) stored = once_distinct (headings table.rows.columns) (sym (distinct_is table.rows.columns) ∙ stored.distinct)

widened : (a b d : Bool) → (a || d) ≡ true → (a || b || d) ≡ true
widened true b d h = refl
widened false true d h = refl
widened false false d h = h

module _ (columns_law : (c : List ℕ) (kinds : List Kind) (tables : List Table) (database : ℕ → Relation) (query : Query) → HasColumns c (catalog_source tables) database → cases_of (plain_type c kinds tables query) ≡ [] → (meaning c tables database query).columns ≡ columns_in (plain_type c kinds tables query)) (once_law : (sources : ℕ → Source) (p : Plan) → ((table : ℕ) → once (sources table).possible ≡ (sources table).possible) → once (plan_possible sources p) ≡ plan_possible sources p) (model : Expr) (kinds : List Kind) (tables : List Table) (query : Query) (columns : List TypedColumn) (p : Plan) (rows : List TableRows) (typed : IsTyped model kinds tables query columns p) (holds : HoldsTables tables rows) (can : CanRun model rows p) (ran : VTable) (is : IsRunOf model rows p ran) where
  meant_columns : (c : List ℕ) → IsAdmitted model c → (meaning c tables (database_of rows c) query).columns ≡ typing.columns_at c columns
  meant_columns c admitted =
      columns_law c kinds tables (database_of rows c) query (database_columns c tables rows holds) (typed.well.typed c admitted)
      ∙ ap columns_in (typed.columns_are.exact c admitted)

  same_meant : (c : List ℕ) → plan_meaning c (rows_source rows) (database_of rows c) p ≡ meaning c tables (database_of rows c) query
  same_meant c = ap (λ (sources : ℕ → Source). plan_meaning c sources (database_of rows c) p) (same_sources tables rows holds) ∙ typed.plan.means c (database_of rows c)

  ran_right : (c : List ℕ) → IsAdmitted model c → SameRelation (answer_at c ran) (meaning c tables (database_of rows c) query)
  ran_right c admitted = subst (SameRelation (answer_at c ran)) (same_meant c) (is.means c admitted)

  agrees : Agree model ran.columns columns
  agrees = record {
    agree = λ c admitted k.
        sym (ap (among k) (answer_columns c ran))
        ∙ same_among (answer_at c ran) (meaning c tables (database_of rows c) query) (ran_right c admitted) k
        ∙ ap (among k) (meant_columns c admitted);
  }

  ran_possible : headings ran.columns ≡ possible_columns tables query
  ran_possible = is.columns ∙ ap (λ (sources : ℕ → Source). plan_possible sources p) (same_sources tables rows holds) ∙ typed.plan.possible

  ordered : typing.headings columns ≡ in_order_of (headings ran.columns) (typing.headings columns)
  ordered = typed.columns_are.ordered ∙ ap (λ order. in_order_of order (typing.headings columns)) (sym ran_possible)

  ran_once : distinct (headings ran.columns) ≡ true
  ran_once = ap distinct is.columns ∙ distinct_from_once (plan_possible (rows_source rows) p) (once_law (rows_source rows) p (λ number. once_source model (rows_of rows number) (every_stored model rows can.stored number)))

  ran_retypes : Retypes model ran.columns columns
  ran_retypes = retypes model ran.columns columns ran_once ordered agrees typed.columns_are.settled

  abbrev new : VTable
  new = with_columns ran (retyped ran.columns columns)

  long : length (retyped ran.columns columns) ≡ length ran.columns
  long = sym (length-map (retyped ran.columns columns) heading) ∙ ap length (same_headings ran.columns columns) ∙ length-map ran.columns heading

  pub new_distinct : columns_are_distinct (retyped ran.columns columns) ≡ true
  new_distinct = distinct_is (retyped ran.columns columns) ∙ ap distinct (same_headings ran.columns columns) ∙ ran_once

  pub new_answers : (c : List ℕ) → IsAdmitted model c → IsAnswerAt c new
  new_answers c admitted = other_answers c ran (retyped ran.columns columns) (ran_retypes.places c admitted) long (is.formed c admitted)

  within : IsWithin (plan_size (rows_source rows) (rows_size rows) p) (query_size tables (rows_size rows) query)
  within = subst (λ (sources : ℕ → Source). IsWithin (plan_size sources (rows_size rows) p) (query_size tables (rows_size rows) query)) (sym (same_sources tables rows holds)) (typed.plan.bounds (rows_size rows))

  known : (feature : ℕ) → rows_mention feature ran.rows ≡ true → (query_mentions feature query || tables_mention feature tables || stored_rows.tables_mention feature rows) ≡ true
  known feature h =
      let plans : plan_mentions feature p ≡ query_mentions feature query = ap (plan_mentions feature) typed.plan.shape ∙ same_mentions feature tables query in
      widened (query_mentions feature query) (tables_mention feature tables) (stored_rows.tables_mention feature rows)
      (ap (λ b. b || stored_rows.tables_mention feature rows) (sym plans) ∙ is.features feature (or_end (list_any (stored_rows.column_mentions feature) ran.columns) (rows_mention feature ran.rows) h))

  pub answers : (after : VTable) → IsNormalOf model new after → IsAnswerTo model tables (database_of rows) (rows_size rows) (held_mention rows) query columns after
  answers after normal = record {
    form = normal.form;
    columns_are = normal.columns ∙ ran_retypes.staying;
    formed = normal.answer;
    right = λ c admitted. same_then (answer_at c after) (answer_at c new) (meaning c tables (database_of rows c) query) (normal.same c admitted)
        (subst (λ (r : Relation). SameRelation r (meaning c tables (database_of rows c) query)) (sym (other_relation c ran (retyped ran.columns columns) (ran_retypes.places c admitted) long)) (ran_right c admitted));
    rows =
        let fewer = normal.fewer in
        let most = is.rows in
        let bound = within.rows in
        omega (arith, fewer, most, bound);
    row_conditions =
        let lighter = normal.lighter in
        let most = is.rows in
        let heaviest = is.row_weight in
        let bound = within.rows in
        let weight = within.row_weight in
        omega (arith, lighter, most, heaviest, bound, weight);
    known = λ feature h. known feature (normal.known feature h);
  }
