-- In each variant in which a query has a plain type, its plan has the same one. So the plan of a well-typed query is sound.
use Rattle.std.proofs.Common.{◌≡◌, ℕ, Bool, true, false, List, [], ◌∷◌, ◌++◌, Option, Some, None, refl, sym, ◌∙◌, ap, subst, if◌then◌else◌}
use Rattle.feature_expr.specs.Satisfaction.{satisfies}
use Rattle.feature_expr.specs.declared.expr.Expr.{Expr}
use Rattle.values.specs.declared.value.Kind.{Kind}
use Rattle.plain_relation.specs.Relations.{Column}
use Rattle.vra_syntax.specs.declared.cond.Cond.{Cond}
use Rattle.vra_syntax.specs.declared.items.Items.{Items}
use Rattle.vra_syntax.specs.declared.query.Query.{Query, map-Query, roll-Query}
use Rattle.vra_syntax.specs.declared.query.Query.TheFolds.{fold-roll-Query, ind-Query}
use Rattle.vra_syntax.specs.declared.query.Query.TheOpen.{Query-F}
use Rattle.vschema.specs.declared.catalog.Table.{Table}
use Rattle.query_meaning.specs.Cases.{Case}
use Rattle.relational_algebra.specs.Columns.{once, merged, aliased, both_sides, in_order_of}
use Rattle.relational_algebra.specs.Items.{kept, kept_in_order, possible_kept}
use Rattle.query_meaning.specs.PlainTypes.{PlainType, Ill, Columns, TypedPart, cases_of, columns_in, unless, where_any, over, or_cases, over_both, absent_in_items, twice, asked, select_type, join_type, union_type, except_type, alias_type, chosen_type, type_step, typed_part}
use Rattle.query_meaning.specs.Plans.{IsSound, plan_of, plan_step, scan_of, not_asked, plan_type_step}
use Rattle.query_meaning.specs.Sources.{catalog_source, number_of, source_by}
use Rattle.query_meaning.specs.Typing.{IsWellTyped}
use Rattle.query_meaning.specs.declared.plan.Plan.{Plan, fold-Plan, roll-Plan}
use Rattle.query_meaning.specs.declared.plan.Plan as plan
use Rattle.query_meaning.specs.declared.plan.Plan.TheFolds.{fold-roll-Plan}
use Rattle.query_meaning.specs.declared.plan.Plan.TheOpen.{Plan-F}
use denote.Hole.Carrier

pub no_more : (xs ys : List Case) → xs ++ ys ≡ [] → (xs ≡ []) × (ys ≡ [])
no_more [] ys e = (refl, e)
no_more (x ∷ xs) ys e = absurd (cc e)

unless_none : (cases : List Case) (columns : List Column) → cases_of (unless cases columns) ≡ [] → cases ≡ []
unless_none [] columns e = refl
unless_none (first ∷ more) columns e = e

or_none : (cases : List Case) (type : PlainType) → cases_of (or_cases cases type) ≡ [] → cases ≡ []
or_none [] type e = refl
or_none (first ∷ more) type e = e

-- what isn't asked of a condition is left out
less_asked : (columns : List Column) (xs ys zs : List Case) → where_any columns (xs ++ ys ++ zs) ≡ [] → where_any columns (xs ++ ys ++ []) ≡ []
less_asked [] xs ys zs e = refl
less_asked (column ∷ columns) xs ys zs e =
    let one = no_more (xs ++ ys) zs e in
    rw (one.0) refl

unless_both : (one other : List Case) (columns : List Column) → (one ≡ [] → other ≡ []) → cases_of (unless one columns) ≡ [] → unless other columns ≡ unless one columns
unless_both one other columns h e = let none = unless_none one columns e in rw (none, h none) refl

select_same : (order : List Column) (c : List ℕ) (items : Items) (ask : List Column → List Case) (columns : List Column) → cases_of (select_type order c items ask columns) ≡ [] → select_type order c items not_asked columns ≡ select_type order c items ask columns
select_same order c items ask columns e =
    unless_both (where_any columns (absent_in_items c items columns ++ twice (kept c items columns) ++ ask columns)) (where_any columns (absent_in_items c items columns ++ twice (kept c items columns) ++ [])) (kept_in_order order c items columns)
    (less_asked columns (absent_in_items c items columns) (twice (kept c items columns)) (ask columns)) e

no_cases : (columns : List Column) (xs ys : List Case) → xs ++ where_any columns ys ≡ [] → xs ++ where_any columns [] ≡ []
no_cases [] xs ys e = e
no_cases (column ∷ columns) xs ys e = let one = no_more xs ys e in rw (one.0) refl

join_same : (order : List Column) (ask : List Column → List Case) (left right : List Column) → cases_of (join_type order ask left right) ≡ [] → join_type order not_asked left right ≡ join_type order ask left right
join_same order ask left right e =
    let both = both_sides left right in
    unless_both (twice both ++ where_any both (ask both)) (twice both ++ where_any both []) (in_order_of order both) (no_cases both (twice both) (ask both)) e

over_same : (form other : List Column → PlainType) (s t : PlainType) → (cases_of t ≡ [] → s ≡ t) → ((columns : List Column) → cases_of (form columns) ≡ [] → other columns ≡ form columns) → cases_of (over form t) ≡ [] → over other s ≡ over form t
over_same form other s (Ill first more) h f e = ap (over other) (h e)
over_same form other s (Columns columns) h f e = ap (over other) (h refl) ∙ f columns e

or_same : (cases : List Case) (s t : PlainType) → (cases_of t ≡ [] → s ≡ t) → cases_of (or_cases cases t) ≡ [] → or_cases cases s ≡ or_cases cases t
or_same [] s t h e = h e
or_same (first ∷ more) s t h e = refl

both_same : (form other : List Column → List Column → PlainType) (l r s t : PlainType) → (cases_of s ≡ [] → l ≡ s) → (cases_of t ≡ [] → r ≡ t) → ((left right : List Column) → cases_of (form left right) ≡ [] → other left right ≡ form left right) → cases_of (over_both form s t) ≡ [] → over_both other l r ≡ over_both form s t
both_same form other l r s t h k f e =
    let parts = no_more (cases_of s) (cases_of t) (or_none (cases_of s ++ cases_of t) (form (columns_in s) (columns_in t)) e) in
    ap (λ (x : PlainType). over_both other x r) (h parts.0) ∙ ap (λ (x : PlainType). over_both other s x) (k parts.1)
    ∙ or_same (cases_of s ++ cases_of t) (other (columns_in s) (columns_in t)) (form (columns_in s) (columns_in t)) (f (columns_in s) (columns_in t)) e

chosen_same : (b : Bool) (order : List Column) (l r s t : PlainType) → (cases_of s ≡ [] → l ≡ s) → (cases_of t ≡ [] → r ≡ t) → cases_of (chosen_type order (if b then s else t)) ≡ [] → chosen_type order (if b then l else r) ≡ chosen_type order (if b then s else t)
chosen_same true order l r s t h k e = over_same (λ columns. Columns (in_order_of order columns)) (λ columns. Columns (in_order_of order columns)) l s h (λ columns no. refl) e
chosen_same false order l r s t h k e = over_same (λ columns. Columns (in_order_of order columns)) (λ columns. Columns (in_order_of order columns)) r t k (λ columns no. refl) e

-- a plan's part has a query's possible columns, and its plain type where it has one
pub record Follows (p t : TypedPart) : Type 0 where
  pub possible : p.possible ≡ t.possible
  pub type : cases_of t.type ≡ [] → p.type ≡ t.type

both_merged : (a b x y : List Column) → a ≡ x → b ≡ y → merged a b ≡ merged x y
both_merged a b x y e f = ap (λ k. merged k b) e ∙ ap (merged x) f

module _ (c : List ℕ) (kinds : List Kind) (tables : List Table) where
  abbrev planned : Plan → TypedPart
  planned p = fold-Plan TypedPart (plan_type_step c (catalog_source tables)) p

  abbrev P : Query → Type 0
  P query = Follows (planned (plan_of tables query)) (typed_part c kinds tables query)

  rolled : (x : Query-F Query) → Follows (planned (plan_step tables (map-Query Query Plan (plan_of tables) x))) (type_step c kinds tables (map-Query Query TypedPart (typed_part c kinds tables) x)) → P (roll-Query x)
  rolled x f = subst (λ (p : Plan). Follows (planned p) (typed_part c kinds tables (roll-Query x))) (sym (fold-roll-Query Plan (plan_step tables) x)) (subst (λ (t : TypedPart). Follows (planned (plan_step tables (map-Query Query Plan (plan_of tables) x))) t) (sym (fold-roll-Query TypedPart (type_step c kinds tables) x)) f)

  scanned : (number : Option ℕ) → planned (scan_of number) ≡ record { possible = (source_by (catalog_source tables) number).possible; type = Columns ((source_by (catalog_source tables) number).columns_at c) }
  unfolding roll-Plan Carrier.roll
  scanned None = fold-roll-Plan TypedPart (plan_type_step c (catalog_source tables)) Plan-F.Nothing
  scanned (Some n) = fold-roll-Plan TypedPart (plan_type_step c (catalog_source tables)) (Plan-F.Scan n)

  plan_keep : (items : Items) (source : Plan) (cond : Cond) → planned (plan.Keep (plan.Filter source cond) items) ≡ plan_type_step c (catalog_source tables) (Plan-F.Keep (plan_type_step c (catalog_source tables) (Plan-F.Filter (planned source) cond)) items)
  unfolding roll-Plan Carrier.roll
  plan_keep items source cond = fold-roll-Plan TypedPart (plan_type_step c (catalog_source tables)) (Plan-F.Keep (plan.Filter source cond) items) ∙ ap (λ (p : TypedPart). plan_type_step c (catalog_source tables) (Plan-F.Keep p items)) (fold-roll-Plan TypedPart (plan_type_step c (catalog_source tables)) (Plan-F.Filter source cond))

  plan_join : (left right : Plan) (cond : Cond) → planned (plan.Join left right cond) ≡ plan_type_step c (catalog_source tables) (Plan-F.Join (planned left) (planned right) cond)
  unfolding roll-Plan Carrier.roll
  plan_join left right cond = fold-roll-Plan TypedPart (plan_type_step c (catalog_source tables)) (Plan-F.Join left right cond)

  plan_union : (left right : Plan) → planned (plan.Union left right) ≡ plan_type_step c (catalog_source tables) (Plan-F.Union (planned left) (planned right))
  unfolding roll-Plan Carrier.roll
  plan_union left right = fold-roll-Plan TypedPart (plan_type_step c (catalog_source tables)) (Plan-F.Union left right)

  plan_except : (left right : Plan) → planned (plan.Except left right) ≡ plan_type_step c (catalog_source tables) (Plan-F.Except (planned left) (planned right))
  unfolding roll-Plan Carrier.roll
  plan_except left right = fold-roll-Plan TypedPart (plan_type_step c (catalog_source tables)) (Plan-F.Except left right)

  plan_rename : (source : Plan) (name : List ℕ) → planned (plan.Rename source name) ≡ plan_type_step c (catalog_source tables) (Plan-F.Rename (planned source) name)
  unfolding roll-Plan Carrier.roll
  plan_rename source name = fold-roll-Plan TypedPart (plan_type_step c (catalog_source tables)) (Plan-F.Rename source name)

  plan_choose : (expr : Expr) (left right : Plan) → planned (plan.Choose expr left right) ≡ plan_type_step c (catalog_source tables) (Plan-F.Choose expr (planned left) (planned right))
  unfolding roll-Plan Carrier.roll
  plan_choose expr left right = fold-roll-Plan TypedPart (plan_type_step c (catalog_source tables)) (Plan-F.Choose expr left right)

  plan_nothing : planned plan.Nothing ≡ plan_type_step c (catalog_source tables) Plan-F.Nothing
  unfolding roll-Plan Carrier.roll
  plan_nothing = fold-roll-Plan TypedPart (plan_type_step c (catalog_source tables)) Plan-F.Nothing

  follows_from : (p q t : TypedPart) → p ≡ q → Follows q t → Follows p t
  follows_from p q t e f = subst (λ (x : TypedPart). Follows x t) (sym e) f

  layer : (y : Query-F ((query : Query) × P query)) → P (roll-Query (map-Query ((query : Query) × P query) Query (λ e. e.0) y))
  layer (Query-F.Table name) = rolled (Query-F.Table name) (follows_from _ _ _ (scanned (number_of tables name)) (record { possible = refl; type = λ e. refl }))
  layer (Query-F.Select items s cond) = rolled (Query-F.Select items s.0 cond) (follows_from _ _ _ (plan_keep items (plan_of tables s.0) cond) (record {
    possible = ap (possible_kept items) s.1.possible;
    type = λ e. rw (s.1.possible) (over_same (select_type (possible_kept items (typed_part c kinds tables s.0).possible) c items (asked c kinds cond)) (select_type (possible_kept items (typed_part c kinds tables s.0).possible) c items not_asked) (planned (plan_of tables s.0)).type (typed_part c kinds tables s.0).type s.1.type (select_same (possible_kept items (typed_part c kinds tables s.0).possible) c items (asked c kinds cond)) e);
  }))
  layer (Query-F.Join l r cond) = rolled (Query-F.Join l.0 r.0 cond) (follows_from _ _ _ (plan_join (plan_of tables l.0) (plan_of tables r.0) cond) (record {
    possible = both_merged _ _ _ _ l.1.possible r.1.possible;
    type = λ e. rw (l.1.possible, r.1.possible) (both_same (join_type (merged (typed_part c kinds tables l.0).possible (typed_part c kinds tables r.0).possible) (asked c kinds cond)) (join_type (merged (typed_part c kinds tables l.0).possible (typed_part c kinds tables r.0).possible) not_asked) (planned (plan_of tables l.0)).type (planned (plan_of tables r.0)).type (typed_part c kinds tables l.0).type (typed_part c kinds tables r.0).type l.1.type r.1.type (join_same (merged (typed_part c kinds tables l.0).possible (typed_part c kinds tables r.0).possible) (asked c kinds cond)) e);
  }))
  layer (Query-F.Union l r) = rolled (Query-F.Union l.0 r.0) (follows_from _ _ _ (plan_union (plan_of tables l.0) (plan_of tables r.0)) (record {
    possible = both_merged _ _ _ _ l.1.possible r.1.possible;
    type = λ e. rw (l.1.possible, r.1.possible) (both_same (union_type (merged (typed_part c kinds tables l.0).possible (typed_part c kinds tables r.0).possible)) (union_type (merged (typed_part c kinds tables l.0).possible (typed_part c kinds tables r.0).possible)) (planned (plan_of tables l.0)).type (planned (plan_of tables r.0)).type (typed_part c kinds tables l.0).type (typed_part c kinds tables r.0).type l.1.type r.1.type (λ left right no. refl) e);
  }))
  layer (Query-F.Except l r) = rolled (Query-F.Except l.0 r.0) (follows_from _ _ _ (plan_except (plan_of tables l.0) (plan_of tables r.0)) (record {
    possible = l.1.possible;
    type = λ e. both_same except_type except_type (planned (plan_of tables l.0)).type (planned (plan_of tables r.0)).type (typed_part c kinds tables l.0).type (typed_part c kinds tables r.0).type l.1.type r.1.type (λ left right no. refl) e;
  }))
  layer (Query-F.Alias s name) = rolled (Query-F.Alias s.0 name) (follows_from _ _ _ (plan_rename (plan_of tables s.0) name) (record {
    possible = ap (λ k. once (aliased name k)) s.1.possible;
    type = λ e. rw (s.1.possible) (over_same (alias_type (once (aliased name (typed_part c kinds tables s.0).possible)) name) (alias_type (once (aliased name (typed_part c kinds tables s.0).possible)) name) (planned (plan_of tables s.0)).type (typed_part c kinds tables s.0).type s.1.type (λ columns no. refl) e);
  }))
  layer (Query-F.Choice expr l r) = rolled (Query-F.Choice expr l.0 r.0) (follows_from _ _ _ (plan_choose expr (plan_of tables l.0) (plan_of tables r.0)) (record {
    possible = both_merged _ _ _ _ l.1.possible r.1.possible;
    type = λ e. rw (l.1.possible, r.1.possible) (chosen_same (satisfies c expr) (merged (typed_part c kinds tables l.0).possible (typed_part c kinds tables r.0).possible) (planned (plan_of tables l.0)).type (planned (plan_of tables r.0)).type (typed_part c kinds tables l.0).type (typed_part c kinds tables r.0).type l.1.type r.1.type e);
  }))
  layer Query-F.Empty = rolled Query-F.Empty (follows_from _ _ _ plan_nothing (record { possible = refl; type = λ e. refl }))

  pub follows : (query : Query) → Follows (planned (plan_of tables query)) (typed_part c kinds tables query)
  follows = ind-Query P (λ x y is. subst (λ z. P (roll-Query z)) is (layer y))

-- the plan of a well-typed query is sound
pub sound_plan : (model : Expr) (kinds : List Kind) (tables : List Table) (query : Query) → IsWellTyped model kinds tables query → IsSound model (catalog_source tables) (plan_of tables query)
sound_plan model kinds tables query well = record { typed = λ c admitted. ap cases_of ((follows c kinds tables query).type (well.typed c admitted)) ∙ well.typed c admitted }
