-- A plan is as sound with values in the places of its parameters as without, and the plan of a bound query is the bound
-- plan of the query.
use Rattle.std.proofs.Common.{◌≡◌, ℕ, List, Option, Some, None, refl, sym, ◌∙◌, ap}
use Rattle.feature_expr.specs.declared.expr.Expr.{Expr}
use Rattle.values.specs.declared.value.Value.{Value}
use Rattle.vra_syntax.specs.Binding.{bound_cond, bound_query, bound_query_step}
use Rattle.vra_syntax.specs.declared.cond.Cond.{Cond}
use Rattle.vra_syntax.specs.declared.items.Items.{Items}
use Rattle.vra_syntax.specs.declared.query.Query.{Query, fold-Query, map-Query, roll-Query}
use Rattle.vra_syntax.specs.declared.query.Query as query
use Rattle.vra_syntax.specs.declared.query.Query.TheFolds.{fold-roll-Query, ind-Query}
use Rattle.vra_syntax.specs.declared.query.Query.TheOpen.{Query-F}
use Rattle.vschema.specs.declared.catalog.Table.{Table}
use Rattle.query_meaning.specs.PlainTypes.{TypedPart, cases_of}
use Rattle.query_meaning.specs.Plans.{IsSound, bound_plan, bound_plan_step, plan_of, plan_step, plan_type_step, scan_of}
use Rattle.query_meaning.specs.Sources.{Source, number_of}
use Rattle.query_meaning.specs.declared.plan.Plan.{Plan, fold-Plan, map-Plan, roll-Plan}
use Rattle.query_meaning.specs.declared.plan.Plan as plan
use Rattle.query_meaning.specs.declared.plan.Plan.TheFolds.{fold-roll-Plan, ind-Plan}
use Rattle.query_meaning.specs.declared.plan.Plan.TheOpen.{Plan-F}
use denote.Hole.Carrier
use Rattle.std.proofs.Common.{subst}

module _ (R : Type 0) (f : Plan-F R → R) where
  pub at_scan : (table : ℕ) → fold-Plan R f (plan.Scan table) ≡ f (Plan-F.Scan table)
  unfolding roll-Plan Carrier.roll
  at_scan table = fold-roll-Plan R f (Plan-F.Scan table)

  pub at_filter : (source : Plan) (cond : Cond) → fold-Plan R f (plan.Filter source cond) ≡ f (Plan-F.Filter (fold-Plan R f source) cond)
  unfolding roll-Plan Carrier.roll
  at_filter source cond = fold-roll-Plan R f (Plan-F.Filter source cond)

  pub at_keep : (source : Plan) (items : Items) → fold-Plan R f (plan.Keep source items) ≡ f (Plan-F.Keep (fold-Plan R f source) items)
  unfolding roll-Plan Carrier.roll
  at_keep source items = fold-roll-Plan R f (Plan-F.Keep source items)

  pub at_join : (left right : Plan) (cond : Cond) → fold-Plan R f (plan.Join left right cond) ≡ f (Plan-F.Join (fold-Plan R f left) (fold-Plan R f right) cond)
  unfolding roll-Plan Carrier.roll
  at_join left right cond = fold-roll-Plan R f (Plan-F.Join left right cond)

  pub at_union : (left right : Plan) → fold-Plan R f (plan.Union left right) ≡ f (Plan-F.Union (fold-Plan R f left) (fold-Plan R f right))
  unfolding roll-Plan Carrier.roll
  at_union left right = fold-roll-Plan R f (Plan-F.Union left right)

  pub at_except : (left right : Plan) → fold-Plan R f (plan.Except left right) ≡ f (Plan-F.Except (fold-Plan R f left) (fold-Plan R f right))
  unfolding roll-Plan Carrier.roll
  at_except left right = fold-roll-Plan R f (Plan-F.Except left right)

  pub at_rename : (source : Plan) (name : List ℕ) → fold-Plan R f (plan.Rename source name) ≡ f (Plan-F.Rename (fold-Plan R f source) name)
  unfolding roll-Plan Carrier.roll
  at_rename source name = fold-roll-Plan R f (Plan-F.Rename source name)

  pub at_choose : (expr : Expr) (left right : Plan) → fold-Plan R f (plan.Choose expr left right) ≡ f (Plan-F.Choose expr (fold-Plan R f left) (fold-Plan R f right))
  unfolding roll-Plan Carrier.roll
  at_choose expr left right = fold-roll-Plan R f (Plan-F.Choose expr left right)

  pub at_nothing : fold-Plan R f plan.Nothing ≡ f Plan-F.Nothing
  unfolding roll-Plan Carrier.roll
  at_nothing = fold-roll-Plan R f Plan-F.Nothing

-- a layer that makes of a condition with values for its parameters what it makes of the condition
pub record Ignores (R : Type 0) (values : List Value) (φ : Plan-F R → R) : Type 0 where
  pub filter : (x : R) (cond : Cond) → φ (Plan-F.Filter x (bound_cond values cond)) ≡ φ (Plan-F.Filter x cond)
  pub join : (a b : R) (cond : Cond) → φ (Plan-F.Join a b (bound_cond values cond)) ≡ φ (Plan-F.Join a b cond)

module _ (R : Type 0) (values : List Value) (φ : Plan-F R → R) (ignores : Ignores R values φ) where
  abbrev part : Plan → R
  part p = fold-Plan R φ p

  abbrev P : Plan → Type 0
  P p = part (bound_plan values p) ≡ part p

  rolled : (x : Plan-F Plan) → part (bound_plan_step values (map-Plan Plan Plan (bound_plan values) x)) ≡ φ (map-Plan Plan R part x) → P (roll-Plan x)
  rolled x f = ap part (fold-roll-Plan Plan (bound_plan_step values) x) ∙ f ∙ sym (fold-roll-Plan R φ x)

  layer : (y : Plan-F ((p : Plan) × P p)) → P (roll-Plan (map-Plan ((p : Plan) × P p) Plan (λ e. e.0) y))
  layer (Plan-F.Scan table) = rolled (Plan-F.Scan table) (at_scan R φ table)
  layer (Plan-F.Filter s cond) = rolled (Plan-F.Filter s.0 cond) (at_filter R φ (bound_plan values s.0) (bound_cond values cond) ∙ ignores.filter (part (bound_plan values s.0)) cond ∙ ap (λ (p : R). φ (Plan-F.Filter p cond)) s.1)
  layer (Plan-F.Keep s items) = rolled (Plan-F.Keep s.0 items) (at_keep R φ (bound_plan values s.0) items ∙ ap (λ (p : R). φ (Plan-F.Keep p items)) s.1)
  layer (Plan-F.Join l r cond) = rolled (Plan-F.Join l.0 r.0 cond) (at_join R φ (bound_plan values l.0) (bound_plan values r.0) (bound_cond values cond) ∙ ignores.join (part (bound_plan values l.0)) (part (bound_plan values r.0)) cond ∙ ap (λ (p : R). φ (Plan-F.Join p (part (bound_plan values r.0)) cond)) l.1 ∙ ap (λ (p : R). φ (Plan-F.Join (part l.0) p cond)) r.1)
  layer (Plan-F.Union l r) = rolled (Plan-F.Union l.0 r.0) (at_union R φ (bound_plan values l.0) (bound_plan values r.0) ∙ ap (λ (p : R). φ (Plan-F.Union p (part (bound_plan values r.0)))) l.1 ∙ ap (λ (p : R). φ (Plan-F.Union (part l.0) p)) r.1)
  layer (Plan-F.Except l r) = rolled (Plan-F.Except l.0 r.0) (at_except R φ (bound_plan values l.0) (bound_plan values r.0) ∙ ap (λ (p : R). φ (Plan-F.Except p (part (bound_plan values r.0)))) l.1 ∙ ap (λ (p : R). φ (Plan-F.Except (part l.0) p)) r.1)
  layer (Plan-F.Rename s name) = rolled (Plan-F.Rename s.0 name) (at_rename R φ (bound_plan values s.0) name ∙ ap (λ (p : R). φ (Plan-F.Rename p name)) s.1)
  layer (Plan-F.Choose expr l r) = rolled (Plan-F.Choose expr l.0 r.0) (at_choose R φ expr (bound_plan values l.0) (bound_plan values r.0) ∙ ap (λ (p : R). φ (Plan-F.Choose expr p (part (bound_plan values r.0)))) l.1 ∙ ap (λ (p : R). φ (Plan-F.Choose expr (part l.0) p)) r.1)
  layer Plan-F.Nothing = rolled Plan-F.Nothing (at_nothing R φ)

  pub same_fold : (p : Plan) → fold-Plan R φ (bound_plan values p) ≡ fold-Plan R φ p
  same_fold = ind-Plan P (λ x y is. subst (λ z. P (roll-Plan z)) is (layer y))

pub bound_sound : (model : Expr) (sources : ℕ → Source) (values : List Value) (p : Plan) → IsSound model sources p → IsSound model sources (bound_plan values p)
bound_sound model sources values p sound = record { typed = λ c admitted. ap (λ (part : TypedPart). cases_of part.type) (same_part c p) ∙ sound.typed c admitted }
  where
    same_part : (c : List ℕ) (p : Plan) → fold-Plan TypedPart (plan_type_step c sources) (bound_plan values p) ≡ fold-Plan TypedPart (plan_type_step c sources) p
    same_part c = same_fold TypedPart values (plan_type_step c sources) (record { filter = λ x cond. refl; join = λ a b cond. refl })

module _ (tables : List Table) (values : List Value) where
  abbrev Q : Query → Type 0
  Q q = plan_of tables (bound_query values q) ≡ bound_plan values (plan_of tables q)

  query_rolled : (x : Query-F Query) → plan_of tables (bound_query_step values (map-Query Query Query (bound_query values) x)) ≡ bound_plan values (plan_step tables (map-Query Query Plan (plan_of tables) x)) → Q (roll-Query x)
  query_rolled x f = ap (plan_of tables) (fold-roll-Query Query (bound_query_step values) x) ∙ f ∙ sym (ap (bound_plan values) (fold-roll-Query Plan (plan_step tables) x))

  planned_table : (name : List ℕ) → plan_of tables (query.Table name) ≡ scan_of (number_of tables name)
  unfolding roll-Query Carrier.roll
  planned_table name = fold-roll-Query Plan (plan_step tables) (Query-F.Table name)

  planned_select : (items : Items) (source : Query) (cond : Cond) → plan_of tables (query.Select items source cond) ≡ plan.Keep (plan.Filter (plan_of tables source) cond) items
  unfolding roll-Query Carrier.roll
  planned_select items source cond = fold-roll-Query Plan (plan_step tables) (Query-F.Select items source cond)

  planned_join : (left right : Query) (cond : Cond) → plan_of tables (query.Join left right cond) ≡ plan.Join (plan_of tables left) (plan_of tables right) cond
  unfolding roll-Query Carrier.roll
  planned_join left right cond = fold-roll-Query Plan (plan_step tables) (Query-F.Join left right cond)

  planned_union : (left right : Query) → plan_of tables (query.Union left right) ≡ plan.Union (plan_of tables left) (plan_of tables right)
  unfolding roll-Query Carrier.roll
  planned_union left right = fold-roll-Query Plan (plan_step tables) (Query-F.Union left right)

  planned_except : (left right : Query) → plan_of tables (query.Except left right) ≡ plan.Except (plan_of tables left) (plan_of tables right)
  unfolding roll-Query Carrier.roll
  planned_except left right = fold-roll-Query Plan (plan_step tables) (Query-F.Except left right)

  planned_alias : (source : Query) (name : List ℕ) → plan_of tables (query.Alias source name) ≡ plan.Rename (plan_of tables source) name
  unfolding roll-Query Carrier.roll
  planned_alias source name = fold-roll-Query Plan (plan_step tables) (Query-F.Alias source name)

  planned_choice : (expr : Expr) (left right : Query) → plan_of tables (query.Choice expr left right) ≡ plan.Choose expr (plan_of tables left) (plan_of tables right)
  unfolding roll-Query Carrier.roll
  planned_choice expr left right = fold-roll-Query Plan (plan_step tables) (Query-F.Choice expr left right)

  planned_empty : plan_of tables query.Empty ≡ plan.Nothing
  unfolding roll-Query Carrier.roll
  planned_empty = fold-roll-Query Plan (plan_step tables) Query-F.Empty

  bound_scan : (number : Option ℕ) → bound_plan values (scan_of number) ≡ scan_of number
  bound_scan None = at_nothing Plan (bound_plan_step values)
  bound_scan (Some n) = at_scan Plan (bound_plan_step values) n

  query_layer : (y : Query-F ((q : Query) × Q q)) → Q (roll-Query (map-Query ((q : Query) × Q q) Query (λ e. e.0) y))
  query_layer (Query-F.Table name) = query_rolled (Query-F.Table name) (planned_table name ∙ sym (bound_scan (number_of tables name)))
  query_layer (Query-F.Select items s cond) = query_rolled (Query-F.Select items s.0 cond) (planned_select items (bound_query values s.0) (bound_cond values cond) ∙ ap (λ p. plan.Keep (plan.Filter p (bound_cond values cond)) items) s.1 ∙ sym (at_keep Plan (bound_plan_step values) (plan.Filter (plan_of tables s.0) cond) items ∙ ap (λ p. plan.Keep p items) (at_filter Plan (bound_plan_step values) (plan_of tables s.0) cond)))
  query_layer (Query-F.Join l r cond) = query_rolled (Query-F.Join l.0 r.0 cond) (planned_join (bound_query values l.0) (bound_query values r.0) (bound_cond values cond) ∙ ap (λ p. plan.Join p (plan_of tables (bound_query values r.0)) (bound_cond values cond)) l.1 ∙ ap (λ p. plan.Join (bound_plan values (plan_of tables l.0)) p (bound_cond values cond)) r.1 ∙ sym (at_join Plan (bound_plan_step values) (plan_of tables l.0) (plan_of tables r.0) cond))
  query_layer (Query-F.Union l r) = query_rolled (Query-F.Union l.0 r.0) (planned_union (bound_query values l.0) (bound_query values r.0) ∙ ap (λ p. plan.Union p (plan_of tables (bound_query values r.0))) l.1 ∙ ap (λ p. plan.Union (bound_plan values (plan_of tables l.0)) p) r.1 ∙ sym (at_union Plan (bound_plan_step values) (plan_of tables l.0) (plan_of tables r.0)))
  query_layer (Query-F.Except l r) = query_rolled (Query-F.Except l.0 r.0) (planned_except (bound_query values l.0) (bound_query values r.0) ∙ ap (λ p. plan.Except p (plan_of tables (bound_query values r.0))) l.1 ∙ ap (λ p. plan.Except (bound_plan values (plan_of tables l.0)) p) r.1 ∙ sym (at_except Plan (bound_plan_step values) (plan_of tables l.0) (plan_of tables r.0)))
  query_layer (Query-F.Alias s name) = query_rolled (Query-F.Alias s.0 name) (planned_alias (bound_query values s.0) name ∙ ap (λ p. plan.Rename p name) s.1 ∙ sym (at_rename Plan (bound_plan_step values) (plan_of tables s.0) name))
  query_layer (Query-F.Choice expr l r) = query_rolled (Query-F.Choice expr l.0 r.0) (planned_choice expr (bound_query values l.0) (bound_query values r.0) ∙ ap (λ p. plan.Choose expr p (plan_of tables (bound_query values r.0))) l.1 ∙ ap (λ p. plan.Choose expr (bound_plan values (plan_of tables l.0)) p) r.1 ∙ sym (at_choose Plan (bound_plan_step values) expr (plan_of tables l.0) (plan_of tables r.0)))
  query_layer Query-F.Empty = query_rolled Query-F.Empty (planned_empty ∙ sym (at_nothing Plan (bound_plan_step values)))

  pub plan_of_bound : (q : Query) → plan_of tables (bound_query values q) ≡ bound_plan values (plan_of tables q)
  plan_of_bound = ind-Query Q (λ x y is. subst (λ z. Q (roll-Query z)) is (query_layer y))
