-- The plain type of a query in one variant: the columns that it has there, or the cases that make it ill.
use Rattle.std.specs.Prelude.{ℕ, Bool, not, List, [], ◌∷◌, ◌++◌, map, Option, Some, None, option_to_list, if◌then◌else◌}
use Rattle.std.specs.List.{flat_map, list_any}
use Rattle.feature_expr.specs.Satisfaction.{satisfies}
use Rattle.values.specs.Value.{kind_of}
use Rattle.values.specs.declared.column_name.ColName.{ColName}
use Rattle.feature_expr.specs.declared.expr.Expr.{Expr}
use Rattle.values.specs.declared.value.Kind.{Kind}
use Rattle.plain_relation.specs.Relations.{Column, has_name}
use Rattle.vra_syntax.specs.declared.cond.Cond.{Cond, fold-Cond}
use Rattle.vra_syntax.specs.declared.cond.Cond.TheOpen.{Cond-F}
use Rattle.vra_syntax.specs.declared.cond.Operand.{Operand}
use Rattle.vra_syntax.specs.declared.cond.Operand.TheVariants as operand
use Rattle.vra_syntax.specs.declared.items.Item.{Item}
use Rattle.vra_syntax.specs.declared.items.Items.{Items}
use Rattle.vra_syntax.specs.declared.items.Items.TheVariants.{All, Listed}
use Rattle.vra_syntax.specs.declared.query.Query.{Query, fold-Query, map-Query}
use Rattle.vra_syntax.specs.declared.query.Query.TheOpen.{Query-F}
use Rattle.vschema.specs.declared.catalog.Table.{Table}
use Rattle.query_meaning.specs.Cases.{Case, case, operand_name}
use Rattle.relational_algebra.specs.Columns.{same_columns, named, kinds_of, repeated, in_order_of, both_sides, aliased, first_name}
use Rattle.relational_algebra.specs.Items.{kept, kept_in_order}
use Rattle.query_meaning.specs.Parameters.{kind_at}
use Rattle.query_meaning.specs.PossibleColumns.{possible_step}
use Rattle.query_meaning.specs.Sources.{source_named}
use Rattle.plain_relation.specs.Values.{same_kind}
use Rattle.query_meaning.specs.declared.ill.IllCase.TheVariants as ill

-- A query that is ill has the cases that hold in it. They are those of parts whose own parts have a plain type: where a
-- part is ill, nothing more is said of what stands above it. Without columns a query is absent.
pub data PlainType : Type 0 where
  Ill : (first : Case) (more : List Case) → PlainType
  Columns : (columns : List Column) → PlainType

-- none, where there is a plain type
abbrev pub cases_of : PlainType → List Case
cases_of (Ill first more) = first ∷ more
cases_of (Columns columns) = []

abbrev pub columns_in : PlainType → List Column
columns_in (Ill first more) = []
columns_in (Columns columns) = columns

-- the columns, if none of these cases holds
abbrev pub unless : List Case → List Column → PlainType
unless [] columns = Columns columns
unless (first ∷ more) columns = Ill first more

-- an absent source is asked nothing
abbrev pub where_any : List Column → List Case → List Case
where_any [] cases = []
where_any (column ∷ columns) cases = cases

abbrev pub absent_name : List Column → ColName → List Case
absent_name columns name = if has_name name columns then [] else case ill.AbsentColumn name ∷ []

-- an item whose condition holds needs its column, and one without a condition doesn't
abbrev pub absent_if : List ℕ → List Column → ColName → Option Expr → List Case
absent_if c columns name None = []
absent_if c columns name (Some cond) = if satisfies c cond then absent_name columns name else []

abbrev pub absent_in_items : List ℕ → Items → List Column → List Case
absent_in_items c All columns = []
absent_in_items c (Listed items) columns = flat_map (λ (item : Item). absent_if c columns item.column item.cond) items

-- no two columns may have one name
abbrev pub twice : List Column → List Case
twice columns = map (case ill.Twice) (repeated columns)

-- one kind, where the operand is there
abbrev pub operand_kinds : List Kind → List Column → Operand → List Kind
operand_kinds kinds columns (operand.Column name) = kinds_of (named name columns)
operand_kinds kinds columns (operand.Literal value) = kind_of value ∷ []
operand_kinds kinds columns (operand.Param number) = option_to_list (kind_at kinds number)

abbrev pub absent_operand : List Column → Operand → List Case
absent_operand columns (operand.Column name) = absent_name columns name
absent_operand columns _ = []

abbrev pub is_other_kind : List Kind → Kind → Bool
is_other_kind kinds kind = list_any (λ other. not (same_kind kind other)) kinds

abbrev pub kinds_differ : List Kind → List Kind → Bool
kinds_differ left right = list_any (is_other_kind right) left

abbrev pub comparison_cases : List Kind → List Column → Operand → Operand → List Case
comparison_cases kinds columns left right =
    absent_operand columns left ++ absent_operand columns right ++ (if kinds_differ (operand_kinds kinds columns left) (operand_kinds kinds columns right) then case ill.KindsDiffer (operand_name left) ∷ [] else [])

-- one layer of a condition over the columns that are there; nothing is asked of the side that isn't chosen
abbrev pub asked_step : List ℕ → List Kind → List Column → Cond-F (List Case) → List Case
asked_step c kinds columns (Cond-F.Cmp left sign right) = comparison_cases kinds columns left right
asked_step c kinds columns (Cond-F.Not inner) = inner
asked_step c kinds columns (Cond-F.And left right) = left ++ right
asked_step c kinds columns (Cond-F.Or left right) = left ++ right
asked_step c kinds columns (Cond-F.Choice expr left right) = if satisfies c expr then left else right
asked_step c kinds columns Cond-F.True = []
asked_step c kinds columns Cond-F.False = []

-- the cases of a condition that is reached, where its parameters have these kinds
abbrev pub asked : List ℕ → List Kind → Cond → List Column → List Case
asked c kinds cond columns = fold-Cond (List Case) (asked_step c kinds columns) cond

-- The forms, over the columns of their parts. `order` is the form's possible columns, and `ask` gives the cases of its
-- condition.

abbrev pub select_type : List Column → List ℕ → Items → (List Column → List Case) → List Column → PlainType
select_type order c items ask columns =
    unless (where_any columns (absent_in_items c items columns ++ twice (kept c items columns) ++ ask columns)) (kept_in_order order c items columns)

abbrev pub join_type : List Column → (List Column → List Case) → List Column → List Column → PlainType
join_type order ask left right = let both = both_sides left right in unless (twice both ++ where_any both (ask both)) (in_order_of order both)

-- two sides that are there have the same columns
abbrev pub columns_differ : List Column → List Column → List Case
columns_differ left right = where_any left (where_any right (if same_columns left right then [] else case ill.ColumnsDiffer (first_name left) ∷ []))

abbrev pub union_type : List Column → List Column → List Column → PlainType
union_type order left right = unless (columns_differ left right) (in_order_of order (left ++ right))

abbrev pub except_type : List Column → List Column → PlainType
except_type left right = unless (columns_differ left right) left

abbrev pub alias_type : List Column → List ℕ → List Column → PlainType
alias_type order alias columns = unless (twice (aliased alias columns)) (in_order_of order (aliased alias columns))

-- a form over a part, and one over two, where these have plain types
abbrev pub over : (List Column → PlainType) → PlainType → PlainType
over form (Ill first more) = Ill first more
over form (Columns columns) = form columns

abbrev pub or_cases : List Case → PlainType → PlainType
or_cases [] type = type
or_cases (first ∷ more) type = Ill first more

abbrev pub over_both : (List Column → List Column → PlainType) → PlainType → PlainType → PlainType
over_both form left right = or_cases (cases_of left ++ cases_of right) (form (columns_in left) (columns_in right))

-- the side that the variant chooses, in the order of the possible columns of both
abbrev pub chosen_type : List Column → PlainType → PlainType
chosen_type order side = over (λ columns. Columns (in_order_of order columns)) side

-- a part in a variant, with the columns that are possible in it
pub record TypedPart : Type 0 where
  pub possible : List Column
  pub type : PlainType

-- One layer. A choice is the side that the variant chooses, and the other is dropped unread.
abbrev pub type_at : List ℕ → List Kind → List Table → List Column → Query-F PlainType → PlainType
type_at c kinds tables order (Query-F.Table name) = Columns ((source_named tables name).columns_at c)
type_at c kinds tables order (Query-F.Select items source cond) = over (select_type order c items (asked c kinds cond)) source
type_at c kinds tables order (Query-F.Join left right cond) = over_both (join_type order (asked c kinds cond)) left right
type_at c kinds tables order (Query-F.Union left right) = over_both (union_type order) left right
type_at c kinds tables order (Query-F.Except left right) = over_both except_type left right
type_at c kinds tables order (Query-F.Alias source alias) = over (alias_type order alias) source
type_at c kinds tables order (Query-F.Choice expr left right) = chosen_type order (if satisfies c expr then left else right)
type_at c kinds tables order Query-F.Empty = Columns []

abbrev pub type_step : List ℕ → List Kind → List Table → Query-F TypedPart → TypedPart
type_step c kinds tables form =
    let order = possible_step tables (map-Query TypedPart (List Column) (λ (part : TypedPart). part.possible) form) in
    record { possible = order; type = type_at c kinds tables order (map-Query TypedPart PlainType (λ (part : TypedPart). part.type) form) }

abbrev pub typed_part : List ℕ → List Kind → List Table → Query → TypedPart
typed_part c kinds tables query = fold-Query TypedPart (type_step c kinds tables) query

-- the plain type of the configured query, where its parameters have these kinds
abbrev pub plain_type : List ℕ → List Kind → List Table → Query → PlainType
plain_type c kinds tables query = (typed_part c kinds tables query).type
