-- A feature that neither the operator nor a side has stands nowhere in what it makes.
use Rattle.std.proofs.Common.{◌≡◌, ◌∙◌, ℕ, zero, suc, ◌==◌, Bool, true, false, ◌&&◌, List, [], ◌∷◌, ◌++◌, map, fold, Option, Some, None, refl}
use Rattle.std.proofs.lemmas.List.Folds.{list_any-append}
use Rattle.std.specs.List.{filter_map, flat_map, list_any}
use Rattle.feature_expr.specs.Expressions.{and_of, mentions, not_of}
use Rattle.feature_expr.specs.declared.expr.Expr.{Expr}
use Rattle.feature_expr.specs.declared.expr.Expr as e
use Rattle.values.specs.declared.column_name.ColName.{ColName}
use Rattle.plain_relation.specs.Relations.{Column, same_name}
use Rattle.relational_algebra.specs.Mentions.{cond_mentions, items_mention, option_mentions}
use Rattle.row_conditions.proofs.BoolLaws.{neither}
use Rattle.row_conditions.proofs.FoldingLaws.{mentions_False, mentions_True}
use Rattle.row_conditions.specs.Truths.{Slot, slots_of, truth_of}
use Rattle.plan_merges.specs.Merges.{aliased_column, aliased_table, all_ways, cells_taken, columns_of_item, cond_of_item, items_table, joined_table, kept_table, last_rank, merged_table, none_ranked, pair_meeting, pairs_of_row, pairs_table, rank_cond, ranked, ranked_behind, repeated_names, row_of_items, rows_taken, way_with, ways_ranked, with_rank}
use Rattle.plan_tables.specs.StoredRows.{column_mentions}
use Rattle.plan_tables.specs.Tables.{heading, any_of, columns_under, settled}
use Rattle.plan_merges.specs.declared.way.Ranked.{Ranked}
use Rattle.plan_merges.specs.declared.way.Way.{Way}
use Rattle.vra_syntax.specs.declared.cond.Cond.{Cond}
use Rattle.vra_syntax.specs.declared.items.Item.{Item}
use Rattle.vra_syntax.specs.declared.items.Items.{Items}
use Rattle.vra_syntax.specs.declared.items.Items.TheVariants.{All, Listed}
use Rattle.vtable.specs.declared.table.VColumn.{VColumn}
use Rattle.vtable.specs.declared.table.VRow.{VRow}
use Rattle.vtable.specs.declared.table.VTable.{VTable}
use Rattle.plan_tables.proofs.FeatureLaws.{none, IsFree, and_free, not_free, once_free, AreFree, RowsFree, first_free, rest_free, row_free, rows_rest, columns_append, rows_append, slots_free, truth_free, under_free, settled_free, any_free, columns_under_free, TableFree}

module _ (i : ℕ) where
  -- ---- columns of which several have one name and kind

  abbrev RankedFree : List Ranked → Type 0
  RankedFree xs = list_any (λ (x : Ranked). column_mentions i x.column) xs ≡ false

  ranked_free : (before : List Column) (ks : List VColumn) → AreFree i ks → RankedFree (ranked_behind before ks)
  ranked_free before [] h = refl
  ranked_free before (k ∷ ks) h = none _ _ (first_free i k ks h) (ranked_free (before ++ heading k ∷ []) ks (rest_free i k ks h))

  rank_step : (name : ColName) (rank : ℕ) (out : Expr) (x : Ranked) (fits : Bool) → (same_name x.column.name name && (x.rank == rank)) ≡ fits → IsFree i out → IsFree i x.column.cond → IsFree i (with_rank name rank out x)
  rank_step name rank out x true is h k = rw is (once_free i out x.column.cond h k)
  rank_step name rank out x false is h k = rw is h

  rank_from : (name : ColName) (rank : ℕ) (out : Expr) (xs : List Ranked) → IsFree i out → RankedFree xs → IsFree i (fold (with_rank name rank) out xs)
  rank_from name rank out [] h k = h
  rank_from name rank out (x ∷ xs) h k =
      let parts = neither (column_mentions i x.column) (list_any (λ (x : Ranked). column_mentions i x.column) xs) k in
      rank_from name rank (with_rank name rank out x) xs (rank_step name rank out x (same_name x.column.name name && (x.rank == rank)) refl h parts.0) parts.1

  rank_free : (name : ColName) (rank : ℕ) (xs : List Ranked) → RankedFree xs → IsFree i (rank_cond name rank xs)
  rank_free name rank xs k = rank_from name rank e.False xs (mentions_False i) k

  none_free : (name : ColName) (xs : List Ranked) (last : ℕ) → RankedFree xs → IsFree i (none_ranked name xs last)
  none_free name xs zero k = mentions_True i
  none_free name xs (suc last) k = and_free i (none_ranked name xs last) (not_of (rank_cond name (suc last) xs)) (none_free name xs last k) (not_free i (rank_cond name (suc last) xs) (rank_free name (suc last) xs k))

  abbrev WaysFree : List Way → Type 0
  WaysFree ways = list_any (λ (way : Way). mentions i way.cond) ways ≡ false

  ways_append : (xs ys : List Way) → WaysFree xs → WaysFree ys → WaysFree (xs ++ ys)
  ways_append xs ys h k = list_any-append (λ (way : Way). mentions i way.cond) xs ys ∙ none _ _ h k

  with_free : (cond : Expr) (name : ColName) (rank : ℕ) (ways : List Way) → IsFree i cond → WaysFree ways → WaysFree (map (way_with cond name rank) ways)
  with_free cond name rank [] h k = refl
  with_free cond name rank (way ∷ ways) h k =
      let parts = neither (mentions i way.cond) (list_any (λ (way : Way). mentions i way.cond) ways) k in
      none _ _ (and_free i cond way.cond h parts.0) (with_free cond name rank ways h parts.1)

  ranks_free : (name : ColName) (xs : List Ranked) (last : ℕ) (ways : List Way) → RankedFree xs → WaysFree ways → WaysFree (ways_ranked name xs last ways)
  ranks_free name xs zero ways k w = refl
  ranks_free name xs (suc last) ways k w = ways_append (ways_ranked name xs last ways) (map (way_with (rank_cond name (suc last) xs) name (suc last)) ways) (ranks_free name xs last ways k w) (with_free (rank_cond name (suc last) xs) name (suc last) ways (rank_free name (suc last) xs k) w)

  all_free : (names : List ColName) (xs : List Ranked) → RankedFree xs → WaysFree (all_ways names xs)
  all_free [] xs k = none _ _ (mentions_True i) refl
  all_free (name ∷ names) xs k =
      ways_append (map (way_with (none_ranked name xs (last_rank name xs)) name 0) (all_ways names xs)) (ways_ranked name xs (last_rank name xs) (all_ways names xs))
      (with_free (none_ranked name xs (last_rank name xs)) name 0 (all_ways names xs) (none_free name xs (last_rank name xs) k) (all_free names xs k))
      (ranks_free name xs (last_rank name xs) (all_ways names xs) k (all_free names xs k))

  taken_free : (to columns : List VColumn) (rows : List VRow) (way : Way) → IsFree i way.cond → RowsFree i rows → RowsFree i (rows_taken to columns rows way)
  taken_free to columns [] way h r = refl
  taken_free to columns (row ∷ rows) way h r =
      under_free i (cells_taken to columns way.ranks row.cells) (and_of row.cond way.cond) (rows_taken to columns rows way)
      (and_free i row.cond way.cond (row_free i row rows r) h)
      (taken_free to columns rows way h (rows_rest i row rows r))

  in_ways_free : (to columns : List VColumn) (rows : List VRow) (ways : List Way) → WaysFree ways → RowsFree i rows → RowsFree i (flat_map (rows_taken to columns rows) ways)
  in_ways_free to columns rows [] w r = refl
  in_ways_free to columns rows (way ∷ ways) w r =
      let parts = neither (mentions i way.cond) (list_any (λ (way : Way). mentions i way.cond) ways) w in
      rows_append i (rows_taken to columns rows way) (flat_map (rows_taken to columns rows) ways) (taken_free to columns rows way parts.0 r) (in_ways_free to columns rows ways parts.1 r)

  merged_free : (t : VTable) → TableFree i t → TableFree i (merged_table t)
  merged_free t f = record {
    columns = settled_free i t.columns f.columns;
    rows = in_ways_free (settled t.columns) t.columns t.rows (all_ways (repeated_names (ranked t.columns)) (ranked t.columns)) (all_free (repeated_names (ranked t.columns)) (ranked t.columns) (ranked_free [] t.columns f.columns)) f.rows;
  }

  -- ---- items, an alias and a join

  item_cond_free : (cond : Option Expr) (expr : Expr) → option_mentions i cond ≡ false → IsFree i expr → IsFree i (cond_of_item cond expr)
  item_cond_free None expr h k = k
  item_cond_free (Some cond) expr h k = and_free i cond expr h k

  item_step : (item : Item) (k : VColumn) (ks : List VColumn) (is_named : Bool) → same_name k.name item.column ≡ is_named → option_mentions i item.cond ≡ false → IsFree i k.cond → AreFree i (columns_of_item ks item) → AreFree i (columns_of_item (k ∷ ks) item)
  item_step item k ks true is h c rest = rw is (none _ _ (item_cond_free item.cond k.cond h c) rest)
  item_step item k ks false is h c rest = rw is rest

  item_free : (item : Item) (ks : List VColumn) → option_mentions i item.cond ≡ false → AreFree i ks → AreFree i (columns_of_item ks item)
  item_free item [] h k = refl
  item_free item (x ∷ xs) h k = item_step item x xs (same_name x.name item.column) refl h (first_free i x xs k) (item_free item xs h (rest_free i x xs k))

  items_free : (items : List Item) (ks : List VColumn) → items_mention i (Listed items) ≡ false → AreFree i ks → AreFree i (flat_map (columns_of_item ks) items)
  items_free [] ks h k = refl
  items_free (item ∷ items) ks h k =
      let parts = neither (option_mentions i item.cond) (list_any (λ (item : Item). option_mentions i item.cond) items) h in
      columns_append i (columns_of_item ks item) (flat_map (columns_of_item ks) items) (item_free item ks parts.0 k) (items_free items ks parts.1 k)

  item_rows_free : (items : List Item) (columns : List VColumn) (rows : List VRow) → RowsFree i rows → RowsFree i (map (row_of_items columns items) rows)
  item_rows_free items columns [] r = refl
  item_rows_free items columns (row ∷ rows) r = none _ _ (row_free i row rows r) (item_rows_free items columns rows (rows_rest i row rows r))

  pub keep_free : (items : Items) (t : VTable) → items_mention i items ≡ false → TableFree i t → TableFree i (kept_table items t)
  keep_free All t h f = f
  keep_free (Listed items) t h f = merged_free (items_table items t) (record { columns = items_free items t.columns h f.columns; rows = item_rows_free items t.columns t.rows f.rows })

  alias_columns_free : (alias : List ℕ) (ks : List VColumn) → AreFree i ks → AreFree i (map (aliased_column alias) ks)
  alias_columns_free alias [] h = refl
  alias_columns_free alias (k ∷ ks) h = none _ _ (first_free i k ks h) (alias_columns_free alias ks (rest_free i k ks h))

  pub alias_free : (alias : List ℕ) (t : VTable) → TableFree i t → TableFree i (aliased_table alias t)
  alias_free alias t f = merged_free (record { columns = map (aliased_column alias) t.columns; rows = t.rows }) (record { columns = alias_columns_free alias t.columns f.columns; rows = f.rows })

  pair_free : (cond : Cond) (left right : List VColumn) (row : VRow) (rows : List VRow) → cond_mentions i cond ≡ false → AreFree i left → AreFree i right → IsFree i row.cond → RowsFree i rows → RowsFree i (filter_map (pair_meeting cond left right row) rows)
  pair_free cond left right row [] h l r c rest = refl
  pair_free cond left right row (other ∷ rows) h l r c rest =
      let slots : List Slot = slots_of left row.cells ++ slots_of right other.cells in
      under_free i (row.cells ++ other.cells) (and_of (and_of row.cond other.cond) (truth_of slots cond)) (filter_map (pair_meeting cond left right row) rows)
      (and_free i (and_of row.cond other.cond) (truth_of slots cond) (and_free i row.cond other.cond c (row_free i other rows rest))
      (truth_free i cond slots h (list_any-append (λ (slot : Slot). mentions i slot.column.cond) (slots_of left row.cells) (slots_of right other.cells) ∙ none _ _ (slots_free i left row.cells l) (slots_free i right other.cells r))))
      (pair_free cond left right row rows h l r c (rows_rest i other rows rest))

  pairs_free : (cond : Cond) (left : List VColumn) (right : VTable) (rows : List VRow) → cond_mentions i cond ≡ false → AreFree i left → TableFree i right → RowsFree i rows → RowsFree i (flat_map (pairs_of_row cond left right) rows)
  pairs_free cond left right [] h l g r = refl
  pairs_free cond left right (row ∷ rows) h l g r =
      rows_append i (pairs_of_row cond left right row) (flat_map (pairs_of_row cond left right) rows)
      (pair_free cond left right.columns row right.rows h l g.columns (row_free i row rows r) g.rows)
      (pairs_free cond left right rows h l g (rows_rest i row rows r))

  pub join_free : (cond : Cond) (l r : VTable) → cond_mentions i cond ≡ false → TableFree i l → TableFree i r → TableFree i (joined_table cond l r)
  join_free cond l r h f g = merged_free (pairs_table cond l r) (record {
    columns = columns_append i (columns_under (any_of r.columns) l.columns) (columns_under (any_of l.columns) r.columns) (columns_under_free i (any_of r.columns) l.columns (any_free i r.columns g.columns) f.columns) (columns_under_free i (any_of l.columns) r.columns (any_free i l.columns f.columns) g.columns);
    rows = pairs_free cond l.columns r l.rows h f.columns g f.rows;
  })
