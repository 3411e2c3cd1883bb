-- Plans: the shape that a query gives one, the columns that it can have, and when it is sound. A plan goes over the tables
-- by their numbers, whatever they are kept in.
use Rattle.std.specs.Prelude.{ℕ, ◌≡◌, ◌==◌, ◌&&◌, nat_lt, max, ◌||◌, Bool, true, false, List, [], ◌∷◌, ◌++◌, Option, Some, None, if◌then◌else◌}
use Rattle.std.specs.List.{list_any}
use Rattle.condition_sat.specs.Admitted.{IsAdmitted}
use Rattle.feature_expr.specs.Expressions.{mentions}
use Rattle.feature_expr.specs.Satisfaction.{satisfies}
use Rattle.feature_expr.specs.declared.expr.Expr.{Expr}
use Rattle.values.specs.declared.value.Value.{Value}
use Rattle.plain_relation.specs.Relations.{Column}
use Rattle.vra_syntax.specs.Binding.{bound_cond}
use Rattle.vra_syntax.specs.Parameters.{param_in_cond}
use Rattle.vra_syntax.specs.declared.query.Query.{Query, fold-Query}
use Rattle.vra_syntax.specs.declared.query.Query.TheOpen.{Query-F}
use Rattle.vschema.specs.declared.catalog.Table.{Table}
use Rattle.query_meaning.specs.Cases.{Case}
use Rattle.relational_algebra.specs.Columns.{once, merged, aliased}
use Rattle.relational_algebra.specs.Items.{possible_kept}
use Rattle.relational_algebra.specs.Mentions.{cond_mentions, items_mention}
use Rattle.query_meaning.specs.PlainTypes.{PlainType, Columns, TypedPart, cases_of, over, over_both, select_type, join_type, union_type, except_type, alias_type, chosen_type}
use Rattle.query_meaning.specs.Sources.{Source, number_of}
use Rattle.query_meaning.specs.declared.plan.Plan.{Plan, fold-Plan, map-Plan}
use Rattle.query_meaning.specs.declared.plan.Plan.TheOpen.{Plan-F}
use Rattle.query_meaning.specs.declared.plan.Plan as plan

abbrev pub scan_of : Option ℕ → Plan
scan_of None = plan.Nothing
scan_of (Some number) = plan.Scan number

-- one layer of a query, whose parts are plans
abbrev pub plan_step : List Table → Query-F Plan → Plan
plan_step tables (Query-F.Table name) = scan_of (number_of tables name)
plan_step tables (Query-F.Select items source cond) = plan.Keep (plan.Filter source cond) items
plan_step tables (Query-F.Join left right cond) = plan.Join left right cond
plan_step tables (Query-F.Union left right) = plan.Union left right
plan_step tables (Query-F.Except left right) = plan.Except left right
plan_step tables (Query-F.Alias source alias) = plan.Rename source alias
plan_step tables (Query-F.Choice expr left right) = plan.Choose expr left right
plan_step tables Query-F.Empty = plan.Nothing

-- the plan of the query's own shape, with the numbers of tables for their names
abbrev pub plan_of : List Table → Query → Plan
plan_of tables query = fold-Query Plan (plan_step tables) query

-- one layer of a plan, whose parts have the values in the places of their parameters
abbrev pub bound_plan_step : List Value → Plan-F Plan → Plan
bound_plan_step values (Plan-F.Scan table) = plan.Scan table
bound_plan_step values (Plan-F.Filter source cond) = plan.Filter source (bound_cond values cond)
bound_plan_step values (Plan-F.Keep source items) = plan.Keep source items
bound_plan_step values (Plan-F.Join left right cond) = plan.Join left right (bound_cond values cond)
bound_plan_step values (Plan-F.Union left right) = plan.Union left right
bound_plan_step values (Plan-F.Except left right) = plan.Except left right
bound_plan_step values (Plan-F.Rename source alias) = plan.Rename source alias
bound_plan_step values (Plan-F.Choose expr left right) = plan.Choose expr left right
bound_plan_step values Plan-F.Nothing = plan.Nothing

abbrev pub bound_plan : List Value → Plan → Plan
bound_plan values p = fold-Plan Plan (bound_plan_step values) p

-- one layer, with the greatest number of a parameter in each part
abbrev pub param_in_plan_step : Plan-F ℕ → ℕ
param_in_plan_step (Plan-F.Scan table) = 0
param_in_plan_step (Plan-F.Filter source cond) = max source (param_in_cond cond)
param_in_plan_step (Plan-F.Keep source items) = source
param_in_plan_step (Plan-F.Join left right cond) = max (max left right) (param_in_cond cond)
param_in_plan_step (Plan-F.Union left right) = max left right
param_in_plan_step (Plan-F.Except left right) = max left right
param_in_plan_step (Plan-F.Rename source alias) = source
param_in_plan_step (Plan-F.Choose expr left right) = max left right
param_in_plan_step Plan-F.Nothing = 0

-- the greatest number of a parameter, 0 where the plan has none
abbrev pub param_in_plan : Plan → ℕ
param_in_plan p = fold-Plan ℕ param_in_plan_step p

abbrev pub plan_mentions_step : ℕ → Plan-F Bool → Bool
plan_mentions_step feature (Plan-F.Scan table) = false
plan_mentions_step feature (Plan-F.Filter source cond) = source || cond_mentions feature cond
plan_mentions_step feature (Plan-F.Keep source items) = source || items_mention feature items
plan_mentions_step feature (Plan-F.Join left right cond) = left || right || cond_mentions feature cond
plan_mentions_step feature (Plan-F.Union left right) = left || right
plan_mentions_step feature (Plan-F.Except left right) = left || right
plan_mentions_step feature (Plan-F.Rename source alias) = source
plan_mentions_step feature (Plan-F.Choose expr left right) = mentions feature expr || left || right
plan_mentions_step feature Plan-F.Nothing = false

-- whether a feature occurs in the plan
abbrev pub plan_mentions : ℕ → Plan → Bool
plan_mentions feature p = fold-Plan Bool (plan_mentions_step feature) p

abbrev pub scans_step : Plan-F (List ℕ) → List ℕ
scans_step (Plan-F.Scan table) = table ∷ []
scans_step (Plan-F.Filter source cond) = source
scans_step (Plan-F.Keep source items) = source
scans_step (Plan-F.Join left right cond) = left ++ right
scans_step (Plan-F.Union left right) = left ++ right
scans_step (Plan-F.Except left right) = left ++ right
scans_step (Plan-F.Rename source alias) = source
scans_step (Plan-F.Choose expr left right) = left ++ right
scans_step Plan-F.Nothing = []

-- the numbers of the tables that a plan scans, one for each scan
abbrev pub scans : Plan → List ℕ
scans p = fold-Plan (List ℕ) scans_step p

abbrev pub has_number : ℕ → List ℕ → Bool
has_number number numbers = list_any (λ other. other == number) numbers

abbrev pub ascends : List ℕ → Bool
ascends [] = true
ascends (number ∷ []) = true
ascends (number ∷ next ∷ numbers) = nat_lt number next && ascends (next ∷ numbers)

-- the scanned tables, ascending, each once
pub record AreScanned (p : Plan) (numbers : List ℕ) : Type 0 where
  pub ascending : ascends numbers ≡ true
  pub same : (number : ℕ) → has_number number numbers ≡ has_number number (scans p)

-- one layer of a plan, with the possible columns of its parts
abbrev pub plan_possible_step : (ℕ → Source) → Plan-F (List Column) → List Column
plan_possible_step sources (Plan-F.Scan table) = (sources table).possible
plan_possible_step sources (Plan-F.Filter source cond) = source
plan_possible_step sources (Plan-F.Keep source items) = possible_kept items source
plan_possible_step sources (Plan-F.Join left right cond) = merged left right
plan_possible_step sources (Plan-F.Union left right) = merged left right
plan_possible_step sources (Plan-F.Except left right) = left
plan_possible_step sources (Plan-F.Rename source alias) = once (aliased alias source)
plan_possible_step sources (Plan-F.Choose expr left right) = merged left right
plan_possible_step sources Plan-F.Nothing = []

abbrev pub plan_possible : (ℕ → Source) → Plan → List Column
plan_possible sources p = fold-Plan (List Column) (plan_possible_step sources) p

-- a plan's condition is asked nothing: a comparison that isn't possible is false
abbrev pub not_asked : List Column → List Case
not_asked columns = []

abbrev pub plan_type_at : List ℕ → (ℕ → Source) → List Column → Plan-F PlainType → PlainType
plan_type_at c sources order (Plan-F.Scan table) = Columns ((sources table).columns_at c)
plan_type_at c sources order (Plan-F.Filter source cond) = source
plan_type_at c sources order (Plan-F.Keep source items) = over (select_type order c items not_asked) source
plan_type_at c sources order (Plan-F.Join left right cond) = over_both (join_type order not_asked) left right
plan_type_at c sources order (Plan-F.Union left right) = over_both (union_type order) left right
plan_type_at c sources order (Plan-F.Except left right) = over_both except_type left right
plan_type_at c sources order (Plan-F.Rename source alias) = over (alias_type order alias) source
plan_type_at c sources order (Plan-F.Choose expr left right) = chosen_type order (if satisfies c expr then left else right)
plan_type_at c sources order Plan-F.Nothing = Columns []

abbrev pub plan_type_step : List ℕ → (ℕ → Source) → Plan-F TypedPart → TypedPart
plan_type_step c sources form =
    let order = plan_possible_step sources (map-Plan TypedPart (List Column) (λ (part : TypedPart). part.possible) form) in
    record { possible = order; type = plan_type_at c sources order (map-Plan TypedPart PlainType (λ (part : TypedPart). part.type) form) }

abbrev pub plan_type : List ℕ → (ℕ → Source) → Plan → PlainType
plan_type c sources p = (fold-Plan TypedPart (plan_type_step c sources) p).type

-- in each admitted variant the configured plan has a plain type
pub record IsSound (model : Expr) (sources : ℕ → Source) (p : Plan) : Type 0 where
  pub typed : (c : List ℕ) → IsAdmitted model c → cases_of (plan_type c sources p) ≡ []
