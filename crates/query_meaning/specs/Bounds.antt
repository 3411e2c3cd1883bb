-- Bounds of a query's or a plan's table: how many rows it has, what their conditions weigh in total, and what the
-- conditions of its columns do. They are made from those of the stored tables, form by form.
use Rattle.std.specs.Prelude.{ℕ, ◌+◌, ◌*◌, ◌^◌, ◌==◌, ◌≤◌, List, [], ◌∷◌, map, filter, fold, length, count_by, Option, Some, None, slice_get, if◌then◌else◌}
use Rattle.std.specs.List.{list_any, sum_by}
use Rattle.feature_expr.specs.Expressions.{weight_of}
use Rattle.values.specs.declared.column_name.ColName.{ColName}
use Rattle.feature_expr.specs.declared.expr.Expr.{Expr}
use Rattle.feature_expr.specs.declared.expr.Expr as e
use Rattle.plain_relation.specs.Relations.{Column, same_name}
use Rattle.vra_syntax.specs.declared.cond.Cond.{Cond}
use Rattle.vra_syntax.specs.declared.items.Item.{Item}
use Rattle.vra_syntax.specs.declared.items.Items.{Items}
use Rattle.vra_syntax.specs.declared.items.Items.TheVariants.{All, Listed}
use Rattle.vra_syntax.specs.declared.query.Query.{Query, fold-Query, map-Query}
use Rattle.vra_syntax.specs.declared.query.Query.TheOpen.{Query-F}
use Rattle.vschema.specs.declared.catalog.Column as catalog
use Rattle.vschema.specs.declared.catalog.Table.{Table}
use Rattle.relational_algebra.specs.Columns.{among, prefixed}
use Rattle.relational_algebra.specs.Conditions.{condition_cost}
use Rattle.relational_algebra.specs.Items.{given}
use Rattle.query_meaning.specs.Plans.{plan_possible_step}
use Rattle.query_meaning.specs.PossibleColumns.{possible_step}
use Rattle.query_meaning.specs.Sources.{Source, number_of}
use Rattle.query_meaning.specs.declared.plan.Plan.{Plan, fold-Plan, map-Plan}
use Rattle.query_meaning.specs.declared.plan.Plan.TheOpen.{Plan-F}

pub record Size : Type 0 where
  pub rows : ℕ
  pub row_weight : ℕ
  pub column_weight : ℕ

abbrev pub no_size : Size
no_size = record { rows = 0; row_weight = 0; column_weight = 0 }

-- no more in any of the three
pub record IsWithin (one other : Size) : Type 0 where
  pub rows : one.rows ≤ other.rows
  pub row_weight : one.row_weight ≤ other.row_weight
  pub column_weight : one.column_weight ≤ other.column_weight

abbrev pub column_weight_in : ℕ → catalog.Column → ℕ
column_weight_in table column = table + weight_of column.cond + 1

-- what the conditions of a stored table's columns may weigh: each stands with the table's own
abbrev pub table_column_weight : Table → ℕ
table_column_weight table = sum_by (column_weight_in (weight_of table.cond)) table.columns

abbrev pub column_weight_of : Option Table → ℕ
column_weight_of None = 0
column_weight_of (Some table) = table_column_weight table

-- the tables of a catalogue without rows: what the conditions of columns weigh doesn't depend on rows
abbrev pub empty_sizes : List Table → ℕ → Size
empty_sizes tables number = record no_size { column_weight = column_weight_of (slice_get tables number) }

-- each name where it stands last
abbrev pub distinct_names : List ColName → List ColName
distinct_names [] = []
distinct_names (name ∷ names) = if list_any (same_name name) names then distinct_names names else name ∷ distinct_names names

-- In how many ways one row may be several: where a name is given by several columns, each variant may take it from
-- another of them. It is the product, over the distinct names, of how often the name is given.
abbrev pub ways : List ColName → ℕ
ways names = fold (λ product name. product * count_by (same_name name) names) 1 (distinct_names names)

abbrev pub cond_or_true : Option Expr → Expr
cond_or_true None = e.True
cond_or_true (Some cond) = cond

abbrev pub item_weight : ℕ → Item → ℕ
item_weight columns item = 4 * weight_of (cond_or_true item.cond) + 8 + 2 * columns

-- The rows that satisfy the condition.
abbrev pub filtered_size : Cond → Size → Size
filtered_size cond x = record x { row_weight = x.row_weight + x.rows * (1 + condition_cost cond x.column_weight) }

-- so many items or names as these give, whose columns weigh so much
abbrev pub listed_size : List ColName → ℕ → Size → Size
listed_size names columns x = record {
  rows = ways names * x.rows;
  row_weight = ways names * x.row_weight + ways names * x.rows * columns;
  column_weight = columns;
}

-- the columns and cells that the items keep
abbrev pub kept_size : Items → Size → Size
kept_size All x = x
kept_size (Listed items) x = listed_size (map given items) (sum_by (item_weight x.column_weight) items) x

-- how many columns may come from either side
abbrev pub shared_count : List Column → List Column → ℕ
shared_count left right = length (filter (λ column. among column right) left)

-- `a` and `b` are the possible columns of the sides
abbrev pub joined_column_weight : List Column → List Column → Size → Size → ℕ
joined_column_weight a b l r =
    l.column_weight + r.column_weight + length a * (r.column_weight + length b + 1) + length b * (l.column_weight + length a + 1)

-- In different variants a shared column is filled from different sides, so that a pair of rows may become several.
abbrev pub joined_size : List Column → List Column → Cond → Size → Size → Size
joined_size a b cond l r =
    let shared = shared_count a b in
    let columns = joined_column_weight a b l r in
    record {
      rows = 2 ^ shared * l.rows * r.rows;
      row_weight = 2 ^ shared * (r.rows * l.row_weight + l.rows * r.row_weight + l.rows * r.rows * (2 + shared * (columns + 3) + condition_cost cond columns));
      column_weight = columns;
    }

abbrev pub united_size : List Column → List Column → Size → Size → Size
united_size a b l r = record {
  rows = l.rows + r.rows;
  row_weight = l.row_weight + r.row_weight + l.rows * (l.column_weight + length a + 1) + r.rows * (r.column_weight + length b + 1);
  column_weight = l.column_weight + r.column_weight + length a + length b;
}

abbrev pub excepted_size : List Column → List Column → Size → Size → Size
excepted_size a b l r = record l {
  row_weight = l.row_weight + l.rows * (4 + r.row_weight + r.rows * (l.column_weight + r.column_weight + 4 * (length a + length b) + 8));
}

abbrev pub names_in : List Column → List ColName
names_in columns = distinct_names (map (λ (column : Column). column.name) columns)

-- Where an alias makes one of two names, it is the list of items that give each name once, renamed, without a condition.
abbrev pub aliased_size : List Column → List ℕ → Size → Size
aliased_size a alias x =
    let names = map (prefixed alias) (names_in a) in
    if ways names == 1 then x else listed_size names (length names * (12 + 2 * x.column_weight)) x

abbrev pub chosen_size : List Column → List Column → Expr → Size → Size → Size
chosen_size a b expr l r = record {
  rows = l.rows + r.rows;
  row_weight = l.row_weight + r.row_weight + (l.rows + r.rows) * (weight_of expr + 2);
  column_weight = l.column_weight + r.column_weight + (length a + length b) * (2 * weight_of expr + 5);
}

-- a part, with the columns that are possible in it
pub record SizedPart : Type 0 where
  pub possible : List Column
  pub size : Size

abbrev pub table_size : (ℕ → Size) → Option ℕ → Size
table_size sizes None = no_size
table_size sizes (Some number) = sizes number

abbrev pub size_at : List Table → (ℕ → Size) → Query-F SizedPart → Size
size_at tables sizes (Query-F.Table name) = table_size sizes (number_of tables name)
size_at tables sizes (Query-F.Select items x cond) = kept_size items (filtered_size cond x.size)
size_at tables sizes (Query-F.Join l r cond) = joined_size l.possible r.possible cond l.size r.size
size_at tables sizes (Query-F.Union l r) = united_size l.possible r.possible l.size r.size
size_at tables sizes (Query-F.Except l r) = excepted_size l.possible r.possible l.size r.size
size_at tables sizes (Query-F.Alias x alias) = aliased_size x.possible alias x.size
size_at tables sizes (Query-F.Choice expr l r) = chosen_size l.possible r.possible expr l.size r.size
size_at tables sizes Query-F.Empty = no_size

abbrev pub size_step : List Table → (ℕ → Size) → Query-F SizedPart → SizedPart
size_step tables sizes form =
    record { possible = possible_step tables (map-Query SizedPart (List Column) (λ (part : SizedPart). part.possible) form); size = size_at tables sizes form }

-- the bounds of a query over stored tables of these sizes
abbrev pub query_size : List Table → (ℕ → Size) → Query → Size
query_size tables sizes query = (fold-Query SizedPart (size_step tables sizes) query).size

abbrev pub plan_size_at : (ℕ → Size) → Plan-F SizedPart → Size
plan_size_at sizes (Plan-F.Scan table) = sizes table
plan_size_at sizes (Plan-F.Filter x cond) = filtered_size cond x.size
plan_size_at sizes (Plan-F.Keep x items) = kept_size items x.size
plan_size_at sizes (Plan-F.Join l r cond) = joined_size l.possible r.possible cond l.size r.size
plan_size_at sizes (Plan-F.Union l r) = united_size l.possible r.possible l.size r.size
plan_size_at sizes (Plan-F.Except l r) = excepted_size l.possible r.possible l.size r.size
plan_size_at sizes (Plan-F.Rename x alias) = aliased_size x.possible alias x.size
plan_size_at sizes (Plan-F.Choose expr l r) = chosen_size l.possible r.possible expr l.size r.size
plan_size_at sizes Plan-F.Nothing = no_size

abbrev pub plan_size_step : (ℕ → Source) → (ℕ → Size) → Plan-F SizedPart → SizedPart
plan_size_step sources sizes form =
    record { possible = plan_possible_step sources (map-Plan SizedPart (List Column) (λ (part : SizedPart). part.possible) form); size = plan_size_at sizes form }

abbrev pub plan_size : (ℕ → Source) → (ℕ → Size) → Plan → Size
plan_size sources sizes p = (fold-Plan SizedPart (plan_size_step sources sizes) p).size

-- a part, with how many pairs of rows its joins may form
pub record PairedPart : Type 0 where
  pub part : SizedPart
  pub pairs : ℕ

abbrev pub pairs_at : Plan-F PairedPart → ℕ
pairs_at (Plan-F.Scan table) = 0
pairs_at (Plan-F.Filter x cond) = x.pairs
pairs_at (Plan-F.Keep x items) = x.pairs
pairs_at (Plan-F.Join l r cond) = l.pairs + r.pairs + l.part.size.rows * r.part.size.rows
pairs_at (Plan-F.Union l r) = l.pairs + r.pairs
pairs_at (Plan-F.Except l r) = l.pairs + r.pairs
pairs_at (Plan-F.Rename x alias) = x.pairs
pairs_at (Plan-F.Choose expr l r) = l.pairs + r.pairs
pairs_at Plan-F.Nothing = 0

abbrev pub pairs_step : (ℕ → Source) → (ℕ → Size) → Plan-F PairedPart → PairedPart
pairs_step sources sizes form =
    record { part = plan_size_step sources sizes (map-Plan PairedPart SizedPart (λ (paired : PairedPart). paired.part) form); pairs = pairs_at form }

-- the most pairs of rows that the plan's joins may form: for each join, all pairs of its sides' rows
abbrev pub pairs_bound : (ℕ → Source) → (ℕ → Size) → Plan → ℕ
pairs_bound sources sizes p = (fold-Plan PairedPart (pairs_step sources sizes) p).pairs
