-- When a query is well typed, and what its typing gives: the columns of its answers, a plan, and the tables that the plan
-- goes over.
use Rattle.std.specs.Prelude.{ℕ, ◌≡◌, ◌≤◌, ◌||◌, Bool, true, List, [], ◌∷◌, map, Option, Some, None, slice_get, option_map, if◌then◌else◌}
use Rattle.std.specs.List.{AllByRecursion, list_any, sum_by}
use Rattle.condition_sat.specs.Admitted.{IsAdmitted, SomeAdmitted}
use Rattle.feature_expr.specs.Expressions.{and_of, mentions, weight_of}
use Rattle.feature_expr.specs.Satisfaction.{satisfies}
use Rattle.feature_expr.specs.declared.expr.Expr.{Expr}
use Rattle.feature_expr.specs.declared.expr.Expr as e
use Rattle.values.specs.declared.value.Kind.{Kind}
use Rattle.plain_relation.specs.Relations.{Column, Relation}
use Rattle.vra_syntax.specs.declared.query.Query.{Query}
use Rattle.vschema.specs.Variants.{bare_name}
use Rattle.vschema.specs.declared.catalog.Column as catalog
use Rattle.vschema.specs.declared.catalog.Table.{Table}
use Rattle.query_meaning.specs.Bounds.{Size, IsWithin, empty_sizes, query_size, plan_size}
use Rattle.query_meaning.specs.Cases.{Case, IsOneOf, case_of}
use Rattle.relational_algebra.specs.Columns.{in_order_of}
use Rattle.relational_algebra.specs.Mentions.{query_mentions}
use Rattle.query_meaning.specs.Meaning.{meaning, plan_meaning}
use Rattle.query_meaning.specs.Names.{name_cases, too_wide}
use Rattle.query_meaning.specs.PlainTypes.{Columns, plain_type, cases_of}
use Rattle.query_meaning.specs.Plans.{AreScanned, IsSound, plan_of, plan_possible}
use Rattle.query_meaning.specs.PossibleColumns.{possible_columns}
use Rattle.query_meaning.specs.Sources.{catalog_source}
use Rattle.query_meaning.specs.declared.ill.TypeRefused.{TypeRefused}
use Rattle.query_meaning.specs.declared.ill.TypeRefused.TheVariants as refused
use Rattle.query_meaning.specs.declared.plan.Plan.{Plan}
use Rattle.query_meaning.specs.declared.typed.TableColumns.{TableColumns}
use Rattle.query_meaning.specs.declared.typed.TypedColumn.{TypedColumn}

-- Well typed: the names are in order whatever the variant, and in each admitted variant the configured query has a plain
-- type.
pub record IsWellTyped (model : Expr) (kinds : List Kind) (tables : List Table) (query : Query) : Type 0 where
  pub named : name_cases kinds tables query ≡ []
  pub typed : (c : List ℕ) → IsAdmitted model c → cases_of (plain_type c kinds tables query) ≡ []

-- a column without its condition
abbrev pub heading : TypedColumn → Column
heading column = record { name = column.name; kind = column.kind }

abbrev pub headings : List TypedColumn → List Column
headings columns = map heading columns

-- the columns that are there
abbrev pub columns_at : List ℕ → List TypedColumn → List Column
columns_at c [] = []
columns_at c (column ∷ columns) = if satisfies c column.cond then heading column ∷ columns_at c columns else columns_at c columns

abbrev pub columns_weight : List TypedColumn → ℕ
columns_weight columns = sum_by (λ (column : TypedColumn). weight_of column.cond) columns

-- a condition that some admitted variant satisfies, and that is `true` if all do
pub record IsSettled (model cond : Expr) : Type 0 where
  pub satisfiable : SomeAdmitted model (λ c. satisfies c cond ≡ true)
  pub always : ((c : List ℕ) → IsAdmitted model c → satisfies c cond ≡ true) → cond ≡ e.True

-- The columns of the answers: those of the possible columns, in their order, that some admitted variant has, each under
-- a condition that holds in just the admitted variants that have it.
pub record AreAnswerColumns (model : Expr) (kinds : List Kind) (tables : List Table) (query : Query) (columns : List TypedColumn) : Type 0 where
  pub ordered : headings columns ≡ in_order_of (possible_columns tables query) (headings columns)
  pub exact : (c : List ℕ) → IsAdmitted model c → plain_type c kinds tables query ≡ Columns (columns_at c columns)
  pub settled : AllByRecursion (λ (column : TypedColumn). IsSettled model column.cond) columns

-- The plan has the query's shape. It means what the query means, whatever the tables hold, and has no greater bounds,
-- whatever their sizes.
pub record IsPlanFor (model : Expr) (tables : List Table) (query : Query) (p : Plan) : Type 0 where
  pub shape : p ≡ plan_of tables query
  pub sound : IsSound model (catalog_source tables) p
  pub possible : plan_possible (catalog_source tables) p ≡ possible_columns tables query
  pub means : (c : List ℕ) (database : ℕ → Relation) → plan_meaning c (catalog_source tables) database p ≡ meaning c tables database query
  pub bounds : (sizes : ℕ → Size) → IsWithin (plan_size (catalog_source tables) sizes p) (query_size tables sizes query)

abbrev pub column_mentions : ℕ → TypedColumn → Bool
column_mentions feature column = mentions feature column.cond

abbrev pub table_mentions : ℕ → Table → Bool
table_mentions feature table = mentions feature table.cond || list_any (λ (column : catalog.Column). mentions feature column.cond) table.columns

abbrev pub tables_mention : ℕ → List Table → Bool
tables_mention feature tables = list_any (table_mentions feature) tables

-- What the typing of a query gives: that it is well typed and no part of it has too many columns, the columns of its
-- answers, whose conditions weigh no more than the bound and have no features of their own, and its plan.
pub record IsTyped (model : Expr) (kinds : List Kind) (tables : List Table) (query : Query) (columns : List TypedColumn) (p : Plan) : Type 0 where
  pub well : IsWellTyped model kinds tables query
  pub narrow : too_wide tables query ≡ None
  pub columns_are : AreAnswerColumns model kinds tables query columns
  pub weight : columns_weight columns ≤ (query_size tables (empty_sizes tables) query).column_weight
  pub features : (feature : ℕ) → list_any (column_mentions feature) columns ≡ true → (query_mentions feature query || tables_mention feature tables) ≡ true
  pub plan : IsPlanFor model tables query p

-- a table's column under its own condition and the table's
abbrev pub stored_column : Table → catalog.Column → TypedColumn
stored_column table column = record { name = bare_name column.name; kind = column.kind; cond = and_of table.cond column.cond }

abbrev pub IsTableOf : List Table → TableColumns → Type 0
IsTableOf tables it = option_map (λ (table : Table). map (stored_column table) table.columns) (slice_get tables it.table) ≡ Some it.columns

-- the tables that a plan scans, each with its columns
pub record AreTables (tables : List Table) (p : Plan) (them : List TableColumns) : Type 0 where
  pub scanned : AreScanned p (map (λ (it : TableColumns). it.table) them)
  pub stored : AllByRecursion (IsTableOf tables) them

-- a case that the names have, or one that holds in the admitted variant that is shown
abbrev pub ShowsCase : Expr → List Kind → List Table → Query → Case → Option (List ℕ) → Type 0
ShowsCase model kinds tables query case None = IsOneOf (name_cases kinds tables query) case
ShowsCase model kinds tables query case (Some c) = IsAdmitted model c × IsOneOf (cases_of (plain_type c kinds tables query)) case

-- What each refusal of a query says. A part that has too many columns goes before every other case, and want of memory
-- says nothing.
abbrev pub Refuses : Expr → List Kind → List Table → Query → TypeRefused → Type 0
Refuses model kinds tables query (refused.TooWide count) = too_wide tables query ≡ Some count
Refuses model kinds tables query (refused.Ill why) = (too_wide tables query ≡ None) × ShowsCase model kinds tables query (case_of why) why.config
Refuses model kinds tables query refused.Memory = Unit {0}
