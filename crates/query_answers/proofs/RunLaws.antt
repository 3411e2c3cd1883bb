-- The plan of a typed query without parameters can be run over the rows of the tables.
use Rattle.std.proofs.Common.{◌≡◌, ◌∙◌, ℕ, ◌==◌, Bool, true, false, List, [], ◌∷◌, Option, Some, None, option_map, slice_get, refl, sym, ap, subst, true≢false}
use Rattle.std.specs.Prelude.{is_some}
use Rattle.std.specs.List.{AllByRecursion, list_all}
use Rattle.std.proofs.lemmas.Bool.{eqb-true}
use Rattle.feature_expr.specs.declared.expr.Expr.{Expr}
use Rattle.values.specs.declared.value.Kind.{Kind}
use Rattle.plan_exec.specs.Runs.{CanRun}
use Rattle.plan_tables.specs.StoredRows.{IsStored, rows_of, table_numbers}
use Rattle.plan_tables.specs.declared.rows.TableRows.{TableRows}
use Rattle.query_meaning.specs.Plans.{IsSound, has_number, param_in_plan, plan_of, scans}
use Rattle.query_meaning.specs.Sources.{Source}
use Rattle.query_meaning.specs.Typing.{IsTyped}
use Rattle.query_meaning.specs.declared.plan.Plan.{Plan}
use Rattle.query_names.specs.declared.typed.Typed.{Typed}
use Rattle.row_conditions.proofs.BoolLaws.{and_first, and_second}
use Rattle.vra_syntax.specs.Parameters.{param_in_query}
use Rattle.vra_syntax.specs.declared.query.Query.{Query}
use Rattle.vschema.specs.declared.catalog.Table.{Table}
use Rattle.query_answers.proofs.PlanLaws.{is_table, same_params, scans_tables}
use Rattle.query_answers.proofs.SourceLaws.{same_sources}
use Rattle.query_answers.specs.Answering.{CanAnswer}
use Rattle.query_answers.specs.Held.{HoldsTables, held_columns}

passing_step : (q : ℕ → Bool) (number n : ℕ) (ns : List ℕ) (here : Bool) → (n == number) ≡ here → (has_number number ns ≡ true → q number ≡ true) → has_number number (n ∷ ns) ≡ true → q n ≡ true → q number ≡ true
passing_step q number n ns true is rest h first = subst (λ m. q m ≡ true) (eqb-true n number is) first
passing_step q number n ns false is rest h first = rest (rw is at h)

-- what passes for all numbers passes for one of them
passing : (q : ℕ → Bool) (number : ℕ) (ns : List ℕ) → list_all q ns ≡ true → has_number number ns ≡ true → q number ≡ true
passing q number [] all h = absurd (true≢false (sym h))
passing q number (n ∷ ns) all h = passing_step q number n ns (n == number) refl (passing q number ns (and_second (q n) (list_all q ns) all)) h (and_first (q n) (list_all q ns) all)

found_step : (number : ℕ) (t : TableRows) (ts : List TableRows) (here : Bool) → (t.table == number) ≡ here → (is_some (rows_of ts number) ≡ true → has_number number (table_numbers ts) ≡ true) → is_some (rows_of (t ∷ ts) number) ≡ true → has_number number (table_numbers (t ∷ ts)) ≡ true
found_step number t ts true is rest h = rw is refl
found_step number t ts false is rest h = rw is (rest (rw is at h))

found : (number : ℕ) (ts : List TableRows) → is_some (rows_of ts number) ≡ true → has_number number (table_numbers ts) ≡ true
found number [] h = absurd (true≢false (sym h))
found number (t ∷ ts) h = found_step number t ts (t.table == number) refl (found number ts) h

both_some : (held : Option TableRows) (table : Option Table) → option_map (λ (rows : TableRows). rows.rows.columns) held ≡ option_map held_columns table → is_some table ≡ true → is_some held ≡ true
both_some held None is some = absurd (true≢false (sym some))
both_some None (Some table) is some = absurd (cc is)
both_some (Some rows) (Some table) is some = refl

module _ (model : Expr) (kinds : List Kind) (tables : List Table) (query : Query) (it : Typed) (rows : List TableRows) where
  pub can_run : IsTyped model kinds tables query it.columns it.plan → HoldsTables tables rows → AllByRecursion (λ (table : TableRows). IsStored model table.rows) rows → param_in_query query ≡ 0 → CanRun model rows it.plan
  can_run typed holds stored free =
      let shape : it.plan ≡ plan_of tables query = typed.plan.shape in
      record {
        stored = stored;
        distinct = holds.distinct;
        held = λ number scanned.
            let there = passing (is_table tables) number (scans (plan_of tables query)) (scans_tables tables query) (subst (λ (x : Plan). has_number number (scans x) ≡ true) shape scanned) in
            found number rows (both_some (rows_of rows number) (slice_get tables number) (holds.columns number) there);
        bound = ap param_in_plan shape ∙ same_params tables query ∙ free;
        sound = subst (λ (sources : ℕ → Source). IsSound model sources it.plan) (sym (same_sources tables rows holds)) typed.plan.sound;
      }

  pub can_answer : IsTyped model kinds tables query it.columns it.plan → HoldsTables tables rows → AllByRecursion (λ (table : TableRows). IsStored model table.rows) rows → param_in_query query ≡ 0 → CanAnswer model rows it
  can_answer typed holds stored free = record { kinds = kinds; tables = tables; query = query; typed = typed; held = holds; run = can_run typed holds stored free }
