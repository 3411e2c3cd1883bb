-- What the items of a select keep of its source. An item stands for the columns of its name, of which a variant has one
-- at most.
use Rattle.std.specs.Prelude.{ℕ, Bool, true, List, [], map, filter, Option, Some, None, unwrap_or, if◌then◌else◌}
use Rattle.std.specs.List.{flat_map}
use Rattle.feature_expr.specs.Satisfaction.{satisfies}
use Rattle.values.specs.declared.column_name.ColName.{ColName}
use Rattle.feature_expr.specs.declared.expr.Expr.{Expr}
use Rattle.plain_relation.specs.Relations.{Cell, Column, same_name}
use Rattle.vra_syntax.specs.declared.items.Item.{Item}
use Rattle.vra_syntax.specs.declared.items.Items.{Items}
use Rattle.vra_syntax.specs.declared.items.Items.TheVariants.{All, Listed}
use Rattle.relational_algebra.specs.Columns.{named, renamed, once, in_order_of}

-- the name that an item gives
abbrev pub given : Item → ColName
given item = unwrap_or item.rename item.column

-- the columns that an item stands for, under the name that it gives
abbrev pub picked : List Column → Item → List Column
picked columns item = map (renamed (given item)) (named item.column columns)

-- all that the items can keep, each column once
abbrev pub possible_kept : Items → List Column → List Column
possible_kept All columns = columns
possible_kept (Listed items) columns = once (flat_map (picked columns) items)

-- an item without a condition is kept in each variant
abbrev pub is_kept : List ℕ → Option Expr → Bool
is_kept c None = true
is_kept c (Some cond) = satisfies c cond

abbrev pub kept_by : List ℕ → List Column → Item → List Column
kept_by c columns item = if is_kept c item.cond then picked columns item else []

-- the columns that the items keep in a variant, in their order; one that is kept twice stands twice
abbrev pub kept : List ℕ → Items → List Column → List Column
kept c All columns = columns
kept c (Listed items) columns = flat_map (kept_by c columns) items

-- the same, in the order of the possible columns
abbrev pub kept_in_order : List Column → List ℕ → Items → List Column → List Column
kept_in_order order c All columns = columns
kept_in_order order c (Listed items) columns = in_order_of order (kept c (Listed items) columns)

abbrev pub renamed_cell : ColName → Cell → Cell
renamed_cell name cell = record { name = name; value = cell.value }

abbrev pub cells_kept_by : List ℕ → List Cell → Item → List Cell
cells_kept_by c row item =
    if is_kept c item.cond then map (renamed_cell (given item)) (filter (λ (cell : Cell). same_name cell.name item.column) row) else []

-- the cells of a row that the items keep
abbrev pub kept_cells : List ℕ → Items → List Cell → List Cell
kept_cells c All row = row
kept_cells c (Listed items) row = flat_map (cells_kept_by c row) items
