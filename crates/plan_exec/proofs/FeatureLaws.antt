-- A feature that neither the plan nor a table has stands nowhere in the plan's table.
use Rattle.std.proofs.Common.{◌≡◌, ◌∙◌, ℕ, ◌==◌, Bool, true, false, ◌||◌, List, [], ◌∷◌, refl, sym, subst, true≢false}
use Rattle.std.specs.List.{list_any}
use Rattle.feature_expr.specs.Expressions.{mentions}
use Rattle.relational_algebra.specs.Mentions.{cond_mentions, items_mention}
use Rattle.row_conditions.proofs.BoolLaws.{neither}
use Rattle.plan_exec.specs.RunTables.{run_step, run_table, table_by}
use Rattle.plan_tables.specs.StoredRows.{column_mentions, row_mentions, rows_of, table_mentions, tables_mention}
use Rattle.plan_tables.specs.declared.rows.TableRows.{TableRows}
use Rattle.query_meaning.specs.Plans.{plan_mentions, plan_mentions_step}
use Rattle.query_meaning.specs.declared.plan.Plan.{Plan, map-Plan, roll-Plan}
use Rattle.query_meaning.specs.declared.plan.Plan.TheFolds.{fold-roll-Plan, ind-Plan}
use Rattle.query_meaning.specs.declared.plan.Plan.TheOpen.{Plan-F}
use Rattle.vtable.specs.declared.table.VTable.{VTable}
use Rattle.plan_tables.proofs.FeatureLaws.{none, TableFree}
use Rattle.plan_operators.proofs.FeatureLaws.{filter_free, union_free, chosen_free, except_free}
use Rattle.plan_merges.proofs.FeatureLaws.{keep_free, alias_free, join_free}

module _ (i : ℕ) where
  -- ---- plans

  found_by : (number : ℕ) (table : TableRows) (tables : List TableRows) (here : Bool) → (table.table == number) ≡ here → TableFree i table.rows → TableFree i (table_by (rows_of tables number)) → TableFree i (table_by (rows_of (table ∷ tables) number))
  found_by number table tables true is f rest = rw is f
  found_by number table tables false is f rest = rw is rest

  stored_free : (tables : List TableRows) (number : ℕ) → tables_mention i tables ≡ false → TableFree i (table_by (rows_of tables number))
  stored_free [] number h = record { columns = refl; rows = refl }
  stored_free (table ∷ tables) number h =
      let parts = neither (table_mentions i table.rows) (tables_mention i tables) h in
      let own = neither (list_any (column_mentions i) table.rows.columns) (list_any (row_mentions i) table.rows.rows) parts.0 in
      found_by number table tables (table.table == number) refl (record { columns = own.0; rows = own.1 }) (stored_free tables number parts.1)

  module _ (tables : List TableRows) (stored : tables_mention i tables ≡ false) where
    abbrev P : Plan → Type 0
    P p = plan_mentions i p ≡ false → TableFree i (run_table tables p)

    rolled : (x : Plan-F Plan) → (plan_mentions_step i (map-Plan Plan Bool (plan_mentions i) x) ≡ false → TableFree i (run_step tables (map-Plan Plan VTable (run_table tables) x))) → P (roll-Plan x)
    rolled x f h = subst (TableFree i) (sym (fold-roll-Plan VTable (run_step tables) x)) (f (sym (fold-roll-Plan Bool (plan_mentions_step i) x) ∙ h))

    layer : (y : Plan-F ((p : Plan) × P p)) → P (roll-Plan (map-Plan ((p : Plan) × P p) Plan (λ e. e.0) y))
    layer (Plan-F.Scan number) = rolled (Plan-F.Scan number) (λ h. stored_free tables number stored)
    layer (Plan-F.Filter s cond) = rolled (Plan-F.Filter s.0 cond) (λ h. let k = neither (plan_mentions i s.0) (cond_mentions i cond) h in filter_free i cond (run_table tables s.0) k.1 (s.1 k.0))
    layer (Plan-F.Keep s items) = rolled (Plan-F.Keep s.0 items) (λ h. let k = neither (plan_mentions i s.0) (items_mention i items) h in keep_free i items (run_table tables s.0) k.1 (s.1 k.0))
    layer (Plan-F.Join l r cond) = rolled (Plan-F.Join l.0 r.0 cond) (λ h.
        let k = neither (plan_mentions i l.0 || plan_mentions i r.0) (cond_mentions i cond) h in
        let m = neither (plan_mentions i l.0) (plan_mentions i r.0) k.0 in
        join_free i cond (run_table tables l.0) (run_table tables r.0) k.1 (l.1 m.0) (r.1 m.1))
    layer (Plan-F.Union l r) = rolled (Plan-F.Union l.0 r.0) (λ h. let m = neither (plan_mentions i l.0) (plan_mentions i r.0) h in union_free i (run_table tables l.0) (run_table tables r.0) (l.1 m.0) (r.1 m.1))
    layer (Plan-F.Except l r) = rolled (Plan-F.Except l.0 r.0) (λ h. let m = neither (plan_mentions i l.0) (plan_mentions i r.0) h in except_free i (run_table tables l.0) (run_table tables r.0) (l.1 m.0) (r.1 m.1))
    layer (Plan-F.Rename s alias) = rolled (Plan-F.Rename s.0 alias) (λ h. alias_free i alias (run_table tables s.0) (s.1 h))
    layer (Plan-F.Choose expr l r) = rolled (Plan-F.Choose expr l.0 r.0) (λ h.
        let k = neither (mentions i expr || plan_mentions i l.0) (plan_mentions i r.0) h in
        let m = neither (mentions i expr) (plan_mentions i l.0) k.0 in
        chosen_free i expr (run_table tables l.0) (run_table tables r.0) m.0 (l.1 m.1) (r.1 k.1))
    layer Plan-F.Nothing = rolled Plan-F.Nothing (λ h. record { columns = refl; rows = refl })

    run_free : (p : Plan) → P p
    run_free = ind-Plan P (λ x y is. subst (λ z. P (roll-Plan z)) is (layer y))

  known_by : (tables : List TableRows) (p : Plan) (known : Bool) → (plan_mentions i p || tables_mention i tables) ≡ known → table_mentions i (run_table tables p) ≡ true → (plan_mentions i p || tables_mention i tables) ≡ true
  known_by tables p true is h = is
  known_by tables p false is h =
      let parts = neither (plan_mentions i p) (tables_mention i tables) is in
      let f = run_free tables parts.1 p parts.0 in
      absurd (true≢false (sym h ∙ none _ _ f.columns f.rows))

  pub run_known : (tables : List TableRows) (p : Plan) → table_mentions i (run_table tables p) ≡ true → (plan_mentions i p || tables_mention i tables) ≡ true
  run_known tables p h = known_by tables p (plan_mentions i p || tables_mention i tables) refl h
