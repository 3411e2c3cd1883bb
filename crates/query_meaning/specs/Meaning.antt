-- What a query and a plan mean in one variant. `database` gives what each stored table is there, by its number, and absent
-- for a table that isn't there.
use Rattle.std.specs.Prelude.{ℕ, ◌≡◌, List, Option, Some, None, if◌then◌else◌}
use Rattle.feature_expr.specs.Satisfaction.{satisfies}
use Rattle.plain_relation.specs.Relations.{Column, Relation, absent}
use Rattle.vra_syntax.specs.declared.query.Query.{Query, fold-Query, map-Query}
use Rattle.vra_syntax.specs.declared.query.Query.TheOpen.{Query-F}
use Rattle.vschema.specs.declared.catalog.Table.{Table}
use Rattle.relational_algebra.specs.Operations.{filtered, projected, selected, joined, united, excepted, aliased_relation, chosen}
use Rattle.query_meaning.specs.Plans.{plan_possible_step}
use Rattle.query_meaning.specs.PossibleColumns.{possible_step}
use Rattle.query_meaning.specs.Sources.{Source, number_of}
use Rattle.query_meaning.specs.declared.plan.Plan.{Plan, fold-Plan, map-Plan}
use Rattle.query_meaning.specs.declared.plan.Plan.TheOpen.{Plan-F}

-- the columns of each table are those that its source has in the variant
abbrev pub HasColumns : List ℕ → (ℕ → Source) → (ℕ → Relation) → Type 0
HasColumns c sources database = (table : ℕ) → (database table).columns ≡ (sources table).columns_at c

abbrev pub table_in : (ℕ → Relation) → Option ℕ → Relation
table_in database None = absent
table_in database (Some number) = database number

-- a part in a variant, with the columns that are possible in it
pub record MeantPart : Type 0 where
  pub possible : List Column
  pub relation : Relation

abbrev pub meaning_at : List ℕ → List Table → (ℕ → Relation) → List Column → Query-F Relation → Relation
meaning_at c tables database order (Query-F.Table name) = table_in database (number_of tables name)
meaning_at c tables database order (Query-F.Select items source cond) = selected order c items cond source
meaning_at c tables database order (Query-F.Join left right cond) = joined order c cond left right
meaning_at c tables database order (Query-F.Union left right) = united order left right
meaning_at c tables database order (Query-F.Except left right) = excepted left right
meaning_at c tables database order (Query-F.Alias source alias) = aliased_relation order alias source
meaning_at c tables database order (Query-F.Choice expr left right) = chosen order (if satisfies c expr then left else right)
meaning_at c tables database order Query-F.Empty = absent

abbrev pub meaning_step : List ℕ → List Table → (ℕ → Relation) → Query-F MeantPart → MeantPart
meaning_step c tables database form =
    let order = possible_step tables (map-Query MeantPart (List Column) (λ (part : MeantPart). part.possible) form) in
    record { possible = order; relation = meaning_at c tables database order (map-Query MeantPart Relation (λ (part : MeantPart). part.relation) form) }

-- the meaning of the configured query over the variant's database
abbrev pub meaning : List ℕ → List Table → (ℕ → Relation) → Query → Relation
meaning c tables database query = (fold-Query MeantPart (meaning_step c tables database) query).relation

abbrev pub plan_meaning_at : List ℕ → (ℕ → Relation) → List Column → Plan-F Relation → Relation
plan_meaning_at c database order (Plan-F.Scan table) = database table
plan_meaning_at c database order (Plan-F.Filter source cond) = filtered c cond source
plan_meaning_at c database order (Plan-F.Keep source items) = projected order c items source
plan_meaning_at c database order (Plan-F.Join left right cond) = joined order c cond left right
plan_meaning_at c database order (Plan-F.Union left right) = united order left right
plan_meaning_at c database order (Plan-F.Except left right) = excepted left right
plan_meaning_at c database order (Plan-F.Rename source alias) = aliased_relation order alias source
plan_meaning_at c database order (Plan-F.Choose expr left right) = chosen order (if satisfies c expr then left else right)
plan_meaning_at c database order Plan-F.Nothing = absent

abbrev pub plan_meaning_step : List ℕ → (ℕ → Source) → (ℕ → Relation) → Plan-F MeantPart → MeantPart
plan_meaning_step c sources database form =
    let order = plan_possible_step sources (map-Plan MeantPart (List Column) (λ (part : MeantPart). part.possible) form) in
    record { possible = order; relation = plan_meaning_at c database order (map-Plan MeantPart Relation (λ (part : MeantPart). part.relation) form) }

-- the meaning of the configured plan over the variant's database
abbrev pub plan_meaning : List ℕ → (ℕ → Source) → (ℕ → Relation) → Plan → Relation
plan_meaning c sources database p = (fold-Plan MeantPart (plan_meaning_step c sources database) p).relation
