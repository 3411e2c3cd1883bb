-- A definition over plans and one over queries that agree form by form agree on a query and its plan. So the plan of a
-- query has the query's possible columns, its meaning, and its bounds.
use Rattle.std.proofs.Common.{◌≡◌, ℕ, List, Option, Some, None, refl, sym, ◌∙◌, ap, subst}
use Rattle.feature_expr.specs.declared.expr.Expr.{Expr}
use Rattle.plain_relation.specs.Relations.{Column, Relation}
use Rattle.vra_syntax.specs.declared.cond.Cond.{Cond}
use Rattle.vra_syntax.specs.declared.items.Items.{Items}
use Rattle.vra_syntax.specs.declared.query.Query.{Query, fold-Query, map-Query, roll-Query}
use Rattle.vra_syntax.specs.declared.query.Query.TheFolds.{fold-roll-Query, ind-Query}
use Rattle.vra_syntax.specs.declared.query.Query.TheOpen.{Query-F}
use Rattle.vschema.specs.declared.catalog.Table.{Table}
use Rattle.query_meaning.specs.Bounds.{Size, table_size, SizedPart, size_step, plan_size_step, query_size, plan_size}
use Rattle.query_meaning.specs.Meaning.{MeantPart, table_in, meaning_step, plan_meaning_step, meaning, plan_meaning}
use Rattle.query_meaning.specs.Plans.{plan_of, plan_step, scan_of, plan_possible, plan_possible_step}
use Rattle.query_meaning.specs.PossibleColumns.{possible_columns, possible_step}
use Rattle.query_meaning.specs.Sources.{catalog_source, number_of, source_by}
use Rattle.query_meaning.specs.declared.plan.Plan.{Plan, fold-Plan, roll-Plan}
use Rattle.query_meaning.specs.declared.plan.Plan as plan
use Rattle.query_meaning.specs.declared.plan.Plan.TheFolds.{fold-roll-Plan}
use Rattle.query_meaning.specs.declared.plan.Plan.TheOpen.{Plan-F}
use denote.Hole.Carrier

-- the two definitions agree form by form
pub record Agrees (R : Type 0) (tables : List Table) (of_plan : Plan-F R → R) (of_query : Query-F R → R) : Type 0 where
  pub table : (name : List ℕ) → fold-Plan R of_plan (scan_of (number_of tables name)) ≡ of_query (Query-F.Table name)
  pub select : (items : Items) (source : R) (cond : Cond) → of_plan (Plan-F.Keep (of_plan (Plan-F.Filter source cond)) items) ≡ of_query (Query-F.Select items source cond)
  pub join : (left right : R) (cond : Cond) → of_plan (Plan-F.Join left right cond) ≡ of_query (Query-F.Join left right cond)
  pub union : (left right : R) → of_plan (Plan-F.Union left right) ≡ of_query (Query-F.Union left right)
  pub except : (left right : R) → of_plan (Plan-F.Except left right) ≡ of_query (Query-F.Except left right)
  pub alias : (source : R) (name : List ℕ) → of_plan (Plan-F.Rename source name) ≡ of_query (Query-F.Alias source name)
  pub choice : (expr : Expr) (left right : R) → of_plan (Plan-F.Choose expr left right) ≡ of_query (Query-F.Choice expr left right)
  pub empty : of_plan Plan-F.Nothing ≡ of_query Query-F.Empty

module _ (R : Type 0) (tables : List Table) (of_plan : Plan-F R → R) (of_query : Query-F R → R) (agrees : Agrees R tables of_plan of_query) where
  abbrev P : Query → Type 0
  P query = fold-Plan R of_plan (plan_of tables query) ≡ fold-Query R of_query query

  rolled : (x : Query-F Query) → fold-Plan R of_plan (plan_step tables (map-Query Query Plan (plan_of tables) x)) ≡ of_query (map-Query Query R (fold-Query R of_query) x) → P (roll-Query x)
  rolled x f = ap (fold-Plan R of_plan) (fold-roll-Query Plan (plan_step tables) x) ∙ f ∙ sym (fold-roll-Query R of_query x)

  plan_keep : (items : Items) (source : Plan) (cond : Cond) → fold-Plan R of_plan (plan.Keep (plan.Filter source cond) items) ≡ of_plan (Plan-F.Keep (of_plan (Plan-F.Filter (fold-Plan R of_plan source) cond)) items)
  unfolding roll-Plan Carrier.roll
  plan_keep items source cond = fold-roll-Plan R of_plan (Plan-F.Keep (plan.Filter source cond) items) ∙ ap (λ (p : R). of_plan (Plan-F.Keep p items)) (fold-roll-Plan R of_plan (Plan-F.Filter source cond))

  plan_join : (left right : Plan) (cond : Cond) → fold-Plan R of_plan (plan.Join left right cond) ≡ of_plan (Plan-F.Join (fold-Plan R of_plan left) (fold-Plan R of_plan right) cond)
  unfolding roll-Plan Carrier.roll
  plan_join left right cond = fold-roll-Plan R of_plan (Plan-F.Join left right cond)

  plan_union : (left right : Plan) → fold-Plan R of_plan (plan.Union left right) ≡ of_plan (Plan-F.Union (fold-Plan R of_plan left) (fold-Plan R of_plan right))
  unfolding roll-Plan Carrier.roll
  plan_union left right = fold-roll-Plan R of_plan (Plan-F.Union left right)

  plan_except : (left right : Plan) → fold-Plan R of_plan (plan.Except left right) ≡ of_plan (Plan-F.Except (fold-Plan R of_plan left) (fold-Plan R of_plan right))
  unfolding roll-Plan Carrier.roll
  plan_except left right = fold-roll-Plan R of_plan (Plan-F.Except left right)

  plan_rename : (source : Plan) (name : List ℕ) → fold-Plan R of_plan (plan.Rename source name) ≡ of_plan (Plan-F.Rename (fold-Plan R of_plan source) name)
  unfolding roll-Plan Carrier.roll
  plan_rename source name = fold-roll-Plan R of_plan (Plan-F.Rename source name)

  plan_choose : (expr : Expr) (left right : Plan) → fold-Plan R of_plan (plan.Choose expr left right) ≡ of_plan (Plan-F.Choose expr (fold-Plan R of_plan left) (fold-Plan R of_plan right))
  unfolding roll-Plan Carrier.roll
  plan_choose expr left right = fold-roll-Plan R of_plan (Plan-F.Choose expr left right)

  plan_nothing : fold-Plan R of_plan plan.Nothing ≡ of_plan Plan-F.Nothing
  unfolding roll-Plan Carrier.roll
  plan_nothing = fold-roll-Plan R of_plan Plan-F.Nothing

  layer : (y : Query-F ((query : Query) × P query)) → P (roll-Query (map-Query ((query : Query) × P query) Query (λ e. e.0) y))
  layer (Query-F.Table name) = rolled (Query-F.Table name) (agrees.table name)
  layer (Query-F.Select items s cond) = rolled (Query-F.Select items s.0 cond) (plan_keep items (plan_of tables s.0) cond ∙ ap (λ (p : R). of_plan (Plan-F.Keep (of_plan (Plan-F.Filter p cond)) items)) s.1 ∙ agrees.select items (fold-Query R of_query s.0) cond)
  layer (Query-F.Join l r cond) = rolled (Query-F.Join l.0 r.0 cond) (plan_join (plan_of tables l.0) (plan_of tables r.0) cond ∙ ap (λ (p : R). of_plan (Plan-F.Join p (fold-Plan R of_plan (plan_of tables r.0)) cond)) l.1 ∙ ap (λ (p : R). of_plan (Plan-F.Join (fold-Query R of_query l.0) p cond)) r.1 ∙ agrees.join (fold-Query R of_query l.0) (fold-Query R of_query r.0) cond)
  layer (Query-F.Union l r) = rolled (Query-F.Union l.0 r.0) (plan_union (plan_of tables l.0) (plan_of tables r.0) ∙ ap (λ (p : R). of_plan (Plan-F.Union p (fold-Plan R of_plan (plan_of tables r.0)))) l.1 ∙ ap (λ (p : R). of_plan (Plan-F.Union (fold-Query R of_query l.0) p)) r.1 ∙ agrees.union (fold-Query R of_query l.0) (fold-Query R of_query r.0))
  layer (Query-F.Except l r) = rolled (Query-F.Except l.0 r.0) (plan_except (plan_of tables l.0) (plan_of tables r.0) ∙ ap (λ (p : R). of_plan (Plan-F.Except p (fold-Plan R of_plan (plan_of tables r.0)))) l.1 ∙ ap (λ (p : R). of_plan (Plan-F.Except (fold-Query R of_query l.0) p)) r.1 ∙ agrees.except (fold-Query R of_query l.0) (fold-Query R of_query r.0))
  layer (Query-F.Alias s name) = rolled (Query-F.Alias s.0 name) (plan_rename (plan_of tables s.0) name ∙ ap (λ (p : R). of_plan (Plan-F.Rename p name)) s.1 ∙ agrees.alias (fold-Query R of_query s.0) name)
  layer (Query-F.Choice expr l r) = rolled (Query-F.Choice expr l.0 r.0) (plan_choose expr (plan_of tables l.0) (plan_of tables r.0) ∙ ap (λ (p : R). of_plan (Plan-F.Choose expr p (fold-Plan R of_plan (plan_of tables r.0)))) l.1 ∙ ap (λ (p : R). of_plan (Plan-F.Choose expr (fold-Query R of_query l.0) p)) r.1 ∙ agrees.choice expr (fold-Query R of_query l.0) (fold-Query R of_query r.0))
  layer Query-F.Empty = rolled Query-F.Empty (plan_nothing ∙ agrees.empty)

  pub agrees_on_plans : (query : Query) → fold-Plan R of_plan (plan_of tables query) ≡ fold-Query R of_query query
  agrees_on_plans = ind-Query P (λ x y is. subst (λ z. P (roll-Query z)) is (layer y))

-- the plan's possible columns are the query's

scan_possible : (tables : List Table) (number : Option ℕ) → fold-Plan (List Column) (plan_possible_step (catalog_source tables)) (scan_of number) ≡ (source_by (catalog_source tables) number).possible
unfolding roll-Plan Carrier.roll
scan_possible tables None = fold-roll-Plan (List Column) (plan_possible_step (catalog_source tables)) Plan-F.Nothing
scan_possible tables (Some n) = fold-roll-Plan (List Column) (plan_possible_step (catalog_source tables)) (Plan-F.Scan n)

possible_agrees : (tables : List Table) → Agrees (List Column) tables (plan_possible_step (catalog_source tables)) (possible_step tables)
possible_agrees tables = record {
  table = λ name. scan_possible tables (number_of tables name);
  select = λ items source cond. refl;
  join = λ left right cond. refl;
  union = λ left right. refl;
  except = λ left right. refl;
  alias = λ source name. refl;
  choice = λ expr left right. refl;
  empty = refl;
}

pub same_possible : (tables : List Table) (query : Query) → plan_possible (catalog_source tables) (plan_of tables query) ≡ possible_columns tables query
same_possible tables query = agrees_on_plans (List Column) tables (plan_possible_step (catalog_source tables)) (possible_step tables) (possible_agrees tables) query

-- the plan means what the query means

scan_meaning : (c : List ℕ) (tables : List Table) (database : ℕ → Relation) (number : Option ℕ) → fold-Plan MeantPart (plan_meaning_step c (catalog_source tables) database) (scan_of number) ≡ record { possible = (source_by (catalog_source tables) number).possible; relation = table_in database number }
unfolding roll-Plan Carrier.roll
scan_meaning c tables database None = fold-roll-Plan MeantPart (plan_meaning_step c (catalog_source tables) database) Plan-F.Nothing
scan_meaning c tables database (Some n) = fold-roll-Plan MeantPart (plan_meaning_step c (catalog_source tables) database) (Plan-F.Scan n)

meaning_agrees : (c : List ℕ) (tables : List Table) (database : ℕ → Relation) → Agrees MeantPart tables (plan_meaning_step c (catalog_source tables) database) (meaning_step c tables database)
meaning_agrees c tables database = record {
  table = λ name. scan_meaning c tables database (number_of tables name);
  select = λ items source cond. refl;
  join = λ left right cond. refl;
  union = λ left right. refl;
  except = λ left right. refl;
  alias = λ source name. refl;
  choice = λ expr left right. refl;
  empty = refl;
}

pub same_meaning : (c : List ℕ) (tables : List Table) (database : ℕ → Relation) (query : Query) → plan_meaning c (catalog_source tables) database (plan_of tables query) ≡ meaning c tables database query
same_meaning c tables database query = ap (λ (part : MeantPart). part.relation) (agrees_on_plans MeantPart tables (plan_meaning_step c (catalog_source tables) database) (meaning_step c tables database) (meaning_agrees c tables database) query)

-- the plan has the query's bounds

scan_size : (tables : List Table) (sizes : ℕ → Size) (number : Option ℕ) → fold-Plan SizedPart (plan_size_step (catalog_source tables) sizes) (scan_of number) ≡ record { possible = (source_by (catalog_source tables) number).possible; size = table_size sizes number }
unfolding roll-Plan Carrier.roll
scan_size tables sizes None = fold-roll-Plan SizedPart (plan_size_step (catalog_source tables) sizes) Plan-F.Nothing
scan_size tables sizes (Some n) = fold-roll-Plan SizedPart (plan_size_step (catalog_source tables) sizes) (Plan-F.Scan n)

size_agrees : (tables : List Table) (sizes : ℕ → Size) → Agrees SizedPart tables (plan_size_step (catalog_source tables) sizes) (size_step tables sizes)
size_agrees tables sizes = record {
  table = λ name. scan_size tables sizes (number_of tables name);
  select = λ items source cond. refl;
  join = λ left right cond. refl;
  union = λ left right. refl;
  except = λ left right. refl;
  alias = λ source name. refl;
  choice = λ expr left right. refl;
  empty = refl;
}

pub same_size : (tables : List Table) (sizes : ℕ → Size) (query : Query) → plan_size (catalog_source tables) sizes (plan_of tables query) ≡ query_size tables sizes query
same_size tables sizes query = ap (λ (part : SizedPart). part.size) (agrees_on_plans SizedPart tables (plan_size_step (catalog_source tables) sizes) (size_step tables sizes) (size_agrees tables sizes) query)
