-- What items, an alias and a join make of tables: first the columns and cells as they come, of which several may have one
-- name and kind, and then each name and kind once.
use Rattle.std.specs.Prelude.{ℕ, zero, suc, ◌+◌, ◌==◌, max, Bool, ◌&&◌, List, [], ◌∷◌, ◌++◌, fold, map, Option, Some, None, if◌then◌else◌}
use Rattle.std.specs.List.{filter_map, flat_map, list_any}
use Rattle.feature_expr.specs.Expressions.{and_of, not_of}
use Rattle.feature_expr.specs.declared.expr.Expr.{Expr}
use Rattle.feature_expr.specs.declared.expr.Expr as e
use Rattle.values.specs.declared.column_name.ColName.{ColName}
use Rattle.values.specs.declared.value.Value.{Value}
use Rattle.plain_relation.specs.Relations.{Column, same_name}
use Rattle.relational_algebra.specs.Columns.{prefixed, same_column}
use Rattle.relational_algebra.specs.Items.{given}
use Rattle.row_conditions.specs.Truths.{Slot, slots_of, truth_of}
use Rattle.plan_tables.specs.Tables.{heading, any_of, columns_under, laid_cells, or_once, row_under, settled}
use Rattle.plan_merges.specs.declared.way.Ranked.{Ranked}
use Rattle.plan_merges.specs.declared.way.Way.{Way}
use Rattle.vra_syntax.specs.declared.cond.Cond.{Cond}
use Rattle.vra_syntax.specs.declared.items.Item.{Item}
use Rattle.vra_syntax.specs.declared.items.Items.{Items}
use Rattle.vra_syntax.specs.declared.items.Items.TheVariants.{All, Listed}
use Rattle.vtable.specs.declared.table.VColumn.{VColumn}
use Rattle.vtable.specs.declared.table.VRow.{VRow}
use Rattle.vtable.specs.declared.table.VTable.{VTable}

-- ---- columns of which several have one name and kind

abbrev pub count_same : Column → List Column → ℕ
count_same key [] = 0
count_same key (column ∷ columns) = if same_column key column then 1 + count_same key columns else count_same key columns

abbrev pub ranked_behind : List Column → List VColumn → List Ranked
ranked_behind before [] = []
ranked_behind before (column ∷ columns) = record { column = column; rank = count_same (heading column) before } ∷ ranked_behind (before ++ heading column ∷ []) columns

abbrev pub ranked_headings : List Ranked → List Column
ranked_headings xs = map (λ (x : Ranked). heading x.column) xs

abbrev pub ranked : List VColumn → List Ranked
ranked columns = ranked_behind [] columns

-- or where the column is there, if it has the name and rank
abbrev pub with_rank : ColName → ℕ → Expr → Ranked → Expr
with_rank name rank out x = if same_name x.column.name name && (x.rank == rank) then or_once out x.column.cond else out

-- where a column of the name and rank is there
abbrev pub rank_cond : ColName → ℕ → List Ranked → Expr
rank_cond name rank columns = fold (with_rank name rank) e.False columns

-- the greatest rank of a column of the name
abbrev pub last_rank : ColName → List Ranked → ℕ
last_rank name [] = 0
last_rank name (x ∷ xs) = if same_name x.column.name name then max x.rank (last_rank name xs) else last_rank name xs

-- where none of so many ranks is there, from the first on
abbrev pub none_ranked : ColName → List Ranked → ℕ → Expr
none_ranked name columns zero = e.True
none_ranked name columns (suc rank) = and_of (none_ranked name columns rank) (not_of (rank_cond name (suc rank) columns))

abbrev pub way_with : Expr → ColName → ℕ → Way → Way
way_with cond name rank way = record { cond = and_of cond way.cond; ranks = (name, rank) ∷ way.ranks }

-- the ways in which a name's columns have one of so many ranks
abbrev pub ways_ranked : ColName → List Ranked → ℕ → List Way → List Way
ways_ranked name columns zero ways = []
ways_ranked name columns (suc rank) ways = ways_ranked name columns rank ways ++ map (way_with (rank_cond name (suc rank) columns) name (suc rank)) ways

-- or where no column of a greater rank is there, those of rank 0
abbrev pub ways_of : ColName → List Ranked → List Way → List Way
ways_of name columns ways =
    map (way_with (none_ranked name columns (last_rank name columns)) name 0) ways ++ ways_ranked name columns (last_rank name columns) ways

abbrev pub with_name : List ColName → Ranked → List ColName
with_name names x = if x.rank == 0 then names else (if list_any (same_name x.column.name) names then names else names ++ x.column.name ∷ [])

-- the names of which some name and kind stands again
abbrev pub repeated_names : List Ranked → List ColName
repeated_names columns = fold with_name [] columns

-- in each variant one of them holds, whose columns are all that are there
abbrev pub all_ways : List ColName → List Ranked → List Way
all_ways [] columns = record { cond = e.True; ranks = [] } ∷ []
all_ways (name ∷ names) columns = ways_of name columns (all_ways names columns)

abbrev pub rank_in : List (ColName × ℕ) → ColName → ℕ
rank_in [] name = 0
rank_in (choice ∷ ranks) name = if same_name choice.0 name then choice.1 else rank_in ranks name

abbrev pub is_taken : List (ColName × ℕ) → Ranked → Bool
is_taken ranks x = x.rank == rank_in ranks x.column.name

-- a list's items at the places whose columns are taken
abbrev pub taken : {X : Type 0} → List (ColName × ℕ) → List Ranked → List X → List X
taken ranks [] xs = []
taken ranks (column ∷ columns) [] = []
taken ranks (column ∷ columns) (x ∷ xs) = if is_taken ranks column then x ∷ taken ranks columns xs else taken ranks columns xs

-- a row's cells in the order of other columns, where these are taken
abbrev pub cells_taken : List VColumn → List VColumn → List (ColName × ℕ) → List (Option Value) → List (Option Value)
cells_taken to columns ranks cells = laid_cells to (slots_of (taken ranks (ranked columns) columns) (taken ranks (ranked columns) cells))

abbrev pub row_taken : List VColumn → List VColumn → Way → VRow → Option VRow
row_taken to columns way row = row_under (cells_taken to columns way.ranks row.cells) (and_of row.cond way.cond)

-- the taken ones of a row's slots
abbrev pub taken_slots : List (ColName × ℕ) → List Ranked → List (Option Value) → List Slot
taken_slots ranks [] cells = []
taken_slots ranks (x ∷ xs) [] = []
taken_slots ranks (x ∷ xs) (cell ∷ cells) = if is_taken ranks x then record { column = x.column; cell = cell } ∷ taken_slots ranks xs cells else taken_slots ranks xs cells

abbrev pub row_by_slots : List VColumn → List Ranked → Way → VRow → Option VRow
row_by_slots to columns way row = row_under (laid_cells to (taken_slots way.ranks columns row.cells)) (and_of row.cond way.cond)

abbrev pub rows_by_slots : List VColumn → List Ranked → List VRow → Way → List VRow
rows_by_slots to columns rows way = filter_map (row_by_slots to columns way) rows

-- the ways of names, behind one another
abbrev pub with_ways : List Ranked → List ColName → List Way → List Way
with_ways columns [] ways = ways
with_ways columns (name ∷ names) ways = ways_of name columns (with_ways columns names ways)

abbrev pub rows_taken : List VColumn → List VColumn → List VRow → Way → List VRow
rows_taken to columns rows way = filter_map (row_taken to columns way) rows

-- each name and kind once: a row is there in one of several ways
abbrev pub merged_table : VTable → VTable
merged_table table =
    let to = settled table.columns in
    record { columns = to; rows = flat_map (rows_taken to table.columns table.rows) (all_ways (repeated_names (ranked table.columns)) (ranked table.columns)) }

-- ---- items, an alias and a join, before each name and kind stands once

abbrev pub cond_of_item : Option Expr → Expr → Expr
cond_of_item None cond = cond
cond_of_item (Some kept) cond = and_of kept cond

abbrev pub column_of_item : Item → VColumn → Option VColumn
column_of_item item column =
    if same_name column.name item.column then Some (record { name = given item; kind = column.kind; cond = cond_of_item item.cond column.cond }) else None

abbrev pub columns_of_item : List VColumn → Item → List VColumn
columns_of_item columns item = filter_map (column_of_item item) columns

-- the cells in the columns of an item
abbrev pub cells_of_item : List VColumn → List (Option Value) → Item → List (Option Value)
cells_of_item [] cells item = []
cells_of_item (column ∷ columns) [] item = []
cells_of_item (column ∷ columns) (cell ∷ cells) item = if same_name column.name item.column then cell ∷ cells_of_item columns cells item else cells_of_item columns cells item

abbrev pub row_of_items : List VColumn → List Item → VRow → VRow
row_of_items columns items row = record { cells = flat_map (cells_of_item columns row.cells) items; cond = row.cond }

abbrev pub items_table : List Item → VTable → VTable
items_table items table = record { columns = flat_map (columns_of_item table.columns) items; rows = map (row_of_items table.columns items) table.rows }

abbrev pub kept_table : Items → VTable → VTable
kept_table All table = table
kept_table (Listed items) table = merged_table (items_table items table)

abbrev pub aliased_column : List ℕ → VColumn → VColumn
aliased_column alias column = record { name = prefixed alias column.name; kind = column.kind; cond = column.cond }

abbrev pub aliased_table : List ℕ → VTable → VTable
aliased_table alias table = merged_table (record { columns = map (aliased_column alias) table.columns; rows = table.rows })

abbrev pub pair_meeting : Cond → List VColumn → List VColumn → VRow → VRow → Option VRow
pair_meeting cond left right row other =
    row_under (row.cells ++ other.cells) (and_of (and_of row.cond other.cond) (truth_of (slots_of left row.cells ++ slots_of right other.cells) cond))

abbrev pub pairs_of_row : Cond → List VColumn → VTable → VRow → List VRow
pairs_of_row cond left right row = filter_map (pair_meeting cond left right.columns row) right.rows

-- a side's columns are there where the other side is
abbrev pub pairs_table : Cond → VTable → VTable → VTable
pairs_table cond left right = record {
  columns = columns_under (any_of right.columns) left.columns ++ columns_under (any_of left.columns) right.columns;
  rows = flat_map (pairs_of_row cond left.columns right) left.rows;
}

abbrev pub joined_table : Cond → VTable → VTable → VTable
joined_table cond left right = merged_table (pairs_table cond left right)
