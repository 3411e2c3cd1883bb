-- The columns and cells that items keep.
use Rattle.std.proofs.Common.{◌≡◌, ◌∙◌, ℕ, ◌==◌, Bool, true, false, ◌&&◌, List, [], ◌∷◌, ◌++◌, map, filter, length, length-append, Option, Some, None, if◌then◌else◌, refl, sym, ap, ap₂, subst, true≢false, arith, eq-eqb}
use Rattle.std.proofs.lemmas.Bool.{eqb-true}
use Rattle.std.proofs.lemmas.List.{length-map, map-append}
use Rattle.std.specs.List.{flat_map}
use Rattle.feature_expr.specs.Satisfaction.{satisfies}
use Rattle.feature_expr.specs.declared.expr.Expr.{Expr}
use Rattle.values.specs.Value.{kind_of}
use Rattle.values.specs.declared.value.Value.{Value}
use Rattle.plain_relation.specs.Relations.{Cell, Column, relation_with, row_of, same_name}
use Rattle.plain_relation.specs.Values.{same_kind}
use Rattle.relational_algebra.specs.Columns.{in_order_of, once}
use Rattle.relational_algebra.specs.Items.{cells_kept_by, given, is_kept, kept, kept_by, kept_cells, picked, possible_kept, renamed_cell}
use Rattle.relational_algebra.specs.Operations.{projected, relation_by}
use Rattle.row_conditions.proofs.BoolLaws.{and_first, and_second}
use Rattle.row_conditions.proofs.FoldingLaws.{and_holds}
use Rattle.plan_tables.proofs.MemberLaws.{both}
use Rattle.plan_merges.proofs.MergeLaws.{merge_answers, merge_formed}
use Rattle.plan_tables.proofs.StandLaws.{Stands, answer_of, are_filled, are_whole, columns_at-append, standing, stands_from}
use Rattle.plan_merges.proofs.WideLaws.{by_none, fits-append, row_of-append}
use Rattle.plan_merges.specs.Merges.{cells_of_item, columns_of_item, cond_of_item, kept_table, row_of_items}
use Rattle.plan_tables.specs.Tables.{heading, columns_at, headings}
use Rattle.vra_syntax.specs.declared.items.Item.{Item}
use Rattle.vra_syntax.specs.declared.items.Items.TheVariants.{Listed}
use Rattle.vtable.specs.Answers.{IsAnswerAt, answer_at, column_at, fits, names_are_distinct}
use Rattle.vtable.specs.declared.table.VColumn.{VColumn}
use Rattle.vtable.specs.declared.table.VRow.{VRow}
use Rattle.vtable.specs.declared.table.VTable.{VTable}

item_holds : (c : List ℕ) (cond : Option Expr) (expr : Expr) → satisfies c (cond_of_item cond expr) ≡ (is_kept c cond && satisfies c expr)
item_holds c None expr = refl
item_holds c (Some kept) expr = and_holds c kept expr

module _ (c : List ℕ) (item : Item) where
  column_step : (k : VColumn) (ks : List VColumn) (is_named kept there : Bool) → same_name k.name item.column ≡ is_named → is_kept c item.cond ≡ kept → satisfies c k.cond ≡ there → columns_at c (columns_of_item ks item) ≡ (if kept then picked (columns_at c ks) item else []) → columns_at c (columns_of_item (k ∷ ks) item) ≡ (if kept then picked (columns_at c (k ∷ ks)) item else [])
  column_step k ks false true true n i t rest = rw (n, t) (rw n rest)
  column_step k ks false true false n i t rest = rw (n, t) rest
  column_step k ks false false there n i t rest = rw n rest
  column_step k ks true true true n i t rest = rw (n, item_holds c item.cond k.cond, i, t) (rw n (ap (λ xs. record { name = given item; kind = k.kind } ∷ xs) rest))
  column_step k ks true true false n i t rest = rw (n, item_holds c item.cond k.cond, i, t) rest
  column_step k ks true false there n i t rest = rw (n, item_holds c item.cond k.cond, i) rest

  item_columns_by : (ks : List VColumn) (kept : Bool) → is_kept c item.cond ≡ kept → columns_at c (columns_of_item ks item) ≡ (if kept then picked (columns_at c ks) item else [])
  item_columns_by [] true i = refl
  item_columns_by [] false i = refl
  item_columns_by (k ∷ ks) kept i = column_step k ks (same_name k.name item.column) kept (satisfies c k.cond) refl i refl (item_columns_by ks kept i)

  item_columns : (ks : List VColumn) → columns_at c (columns_of_item ks item) ≡ kept_by c (columns_at c ks) item
  item_columns ks = item_columns_by ks (is_kept c item.cond) refl

  row_step : (k : VColumn) (ks : List VColumn) (x : Option Value) (xs : List (Option Value)) (is_named kept there : Bool) → same_name k.name item.column ≡ is_named → is_kept c item.cond ≡ kept → satisfies c k.cond ≡ there → row_of (map (column_at c) (columns_of_item ks item)) (cells_of_item ks xs item) ≡ (if kept then map (renamed_cell (given item)) (filter (λ (cell : Cell). same_name cell.name item.column) (row_of (map (column_at c) ks) xs)) else []) → row_of (map (column_at c) (columns_of_item (k ∷ ks) item)) (cells_of_item (k ∷ ks) (x ∷ xs) item) ≡ (if kept then map (renamed_cell (given item)) (filter (λ (cell : Cell). same_name cell.name item.column) (row_of (map (column_at c) (k ∷ ks)) (x ∷ xs))) else [])
  row_step k ks None xs false true true n i t rest = rw (n, t) rest
  row_step k ks (Some v) xs false true true n i t rest = rw (n, t) (rw n rest)
  row_step k ks x xs false true false n i t rest = rw (n, t) rest
  row_step k ks x xs false false there n i t rest = rw n rest
  row_step k ks None xs true true true n i t rest = rw (n, item_holds c item.cond k.cond, i, t) rest
  row_step k ks (Some v) xs true true true n i t rest = rw (n, item_holds c item.cond k.cond, i, t) (rw n (ap (λ xs. record { name = given item; value = v } ∷ xs) rest))
  row_step k ks x xs true true false n i t rest = rw (n, item_holds c item.cond k.cond, i, t) rest
  row_step k ks x xs true false there n i t rest = rw (n, item_holds c item.cond k.cond, i) rest

  item_row_by : (ks : List VColumn) (xs : List (Option Value)) (kept : Bool) → length xs ≡ length ks → is_kept c item.cond ≡ kept → row_of (map (column_at c) (columns_of_item ks item)) (cells_of_item ks xs item) ≡ (if kept then map (renamed_cell (given item)) (filter (λ (cell : Cell). same_name cell.name item.column) (row_of (map (column_at c) ks) xs)) else [])
  item_row_by [] xs true long i = refl
  item_row_by [] xs false long i = refl
  item_row_by (k ∷ ks) [] kept long i = absurd (omega (arith, long))
  item_row_by (k ∷ ks) (x ∷ xs) kept long i = row_step k ks x xs (same_name k.name item.column) kept (satisfies c k.cond) refl i refl (item_row_by ks xs kept (omega (arith, long)) i)

  item_row : (ks : List VColumn) (xs : List (Option Value)) → length xs ≡ length ks → row_of (map (column_at c) (columns_of_item ks item)) (cells_of_item ks xs item) ≡ cells_kept_by c (row_of (map (column_at c) ks) xs) item
  item_row ks xs long = item_row_by ks xs (is_kept c item.cond) long refl

  fits_step : (k : VColumn) (ks : List VColumn) (x : Option Value) (xs : List (Option Value)) (is_named kept there : Bool) → same_name k.name item.column ≡ is_named → is_kept c item.cond ≡ kept → satisfies c k.cond ≡ there → fits (map (column_at c) (k ∷ ks)) (x ∷ xs) ≡ true → (fits (map (column_at c) ks) xs ≡ true → fits (map (column_at c) (columns_of_item ks item)) (cells_of_item ks xs item) ≡ true) → fits (map (column_at c) (columns_of_item (k ∷ ks) item)) (cells_of_item (k ∷ ks) (x ∷ xs) item) ≡ true
  fits_step k ks None xs is_named kept true n i t fit rest = absurd (true≢false (sym (rw t at fit)))
  fits_step k ks (Some v) xs false kept true n i t fit rest = rw n (rest (and_second (same_kind (kind_of v) k.kind) _ (rw t at fit)))
  fits_step k ks (Some v) xs true true true n i t fit rest =
      let parts = rw t at fit in
      rw (n, item_holds c item.cond k.cond, i, t) (both _ _ (and_first _ _ parts) (rest (and_second (same_kind (kind_of v) k.kind) _ parts)))
  fits_step k ks (Some v) xs true false true n i t fit rest = rw (n, item_holds c item.cond k.cond, i) (rest (and_second (same_kind (kind_of v) k.kind) _ (rw t at fit)))
  fits_step k ks x xs false kept false n i t fit rest = rw n (rest (rw t at fit))
  fits_step k ks x xs true true false n i t fit rest = rw (n, item_holds c item.cond k.cond, i, t) (rest (rw t at fit))
  fits_step k ks x xs true false false n i t fit rest = rw (n, item_holds c item.cond k.cond, i) (rest (rw t at fit))

  item_fits : (ks : List VColumn) (xs : List (Option Value)) → fits (map (column_at c) ks) xs ≡ true → fits (map (column_at c) (columns_of_item ks item)) (cells_of_item ks xs item) ≡ true
  item_fits [] [] fit = refl
  item_fits [] (x ∷ xs) fit = absurd (true≢false (sym fit))
  item_fits (k ∷ ks) [] fit = absurd (no_cell (satisfies c k.cond) refl fit)
    where
      no_cell : (there : Bool) → satisfies c k.cond ≡ there → fits (map (column_at c) (k ∷ ks)) [] ≡ true → ⊥
      no_cell true is h = true≢false (sym (rw is at h))
      no_cell false is h = true≢false (sym (rw is at h))
  item_fits (k ∷ ks) (x ∷ xs) fit = fits_step k ks x xs (same_name k.name item.column) (is_kept c item.cond) (satisfies c k.cond) refl refl refl fit (item_fits ks xs)

long_step : (item : Item) (k : VColumn) (ks : List VColumn) (x : Option Value) (xs : List (Option Value)) (is_named : Bool) → same_name k.name item.column ≡ is_named → length (cells_of_item ks xs item) ≡ length (columns_of_item ks item) → length (cells_of_item (k ∷ ks) (x ∷ xs) item) ≡ length (columns_of_item (k ∷ ks) item)
long_step item k ks x xs true n rest = rw n (omega (arith, rest))
long_step item k ks x xs false n rest = rw n rest

item_long : (item : Item) (ks : List VColumn) (xs : List (Option Value)) → length xs ≡ length ks → length (cells_of_item ks xs item) ≡ length (columns_of_item ks item)
item_long item [] xs long = refl
item_long item (k ∷ ks) [] long = absurd (omega (arith, long))
item_long item (k ∷ ks) (x ∷ xs) long = long_step item k ks x xs (same_name k.name item.column) refl (item_long item ks xs (omega (arith, long)))

items_long : (items : List Item) (ks : List VColumn) (xs : List (Option Value)) → length xs ≡ length ks → length (flat_map (cells_of_item ks xs) items) ≡ length (flat_map (columns_of_item ks) items)
items_long [] ks xs long = refl
items_long (item ∷ items) ks xs long =
    let one = item_long item ks xs long in
    let rest = items_long items ks xs long in
    let a = length-append (cells_of_item ks xs item) (flat_map (cells_of_item ks xs) items) in
    let b = length-append (columns_of_item ks item) (flat_map (columns_of_item ks) items) in
    omega (arith, one, rest, a, b)

head_step : (item : Item) (k : VColumn) (ks : List VColumn) (is_named : Bool) → same_name k.name item.column ≡ is_named → headings (columns_of_item ks item) ≡ picked (headings ks) item → headings (columns_of_item (k ∷ ks) item) ≡ picked (headings (k ∷ ks)) item
head_step item k ks true n rest = rw n (ap (λ xs. record { name = given item; kind = k.kind } ∷ xs) rest)
head_step item k ks false n rest = rw n rest

item_headings : (item : Item) (ks : List VColumn) → headings (columns_of_item ks item) ≡ picked (headings ks) item
item_headings item [] = refl
item_headings item (k ∷ ks) = head_step item k ks (same_name k.name item.column) refl (item_headings item ks)

-- the columns are the possible ones
pub items_headings : (items : List Item) (ks : List VColumn) → headings (flat_map (columns_of_item ks) items) ≡ flat_map (picked (headings ks)) items
items_headings [] ks = refl
items_headings (item ∷ items) ks = map-append heading (columns_of_item ks item) (flat_map (columns_of_item ks) items) ∙ ap₂ (λ xs ys. xs ++ ys) (item_headings item ks) (items_headings items ks)

module _ (c : List ℕ) where
  pub items_columns : (items : List Item) (ks : List VColumn) → columns_at c (flat_map (columns_of_item ks) items) ≡ kept c (Listed items) (columns_at c ks)
  items_columns [] ks = refl
  items_columns (item ∷ items) ks = columns_at-append c (columns_of_item ks item) (flat_map (columns_of_item ks) items) ∙ ap₂ (λ xs ys. xs ++ ys) (item_columns c item ks) (items_columns items ks)

  items_row : (items : List Item) (ks : List VColumn) (xs : List (Option Value)) → length xs ≡ length ks → row_of (map (column_at c) (flat_map (columns_of_item ks) items)) (flat_map (cells_of_item ks xs) items) ≡ kept_cells c (Listed items) (row_of (map (column_at c) ks) xs)
  items_row [] ks xs long = refl
  items_row (item ∷ items) ks xs long =
      ap (λ ps. row_of ps (cells_of_item ks xs item ++ flat_map (cells_of_item ks xs) items)) (map-append (column_at c) (columns_of_item ks item) (flat_map (columns_of_item ks) items))
      ∙ row_of-append (map (column_at c) (columns_of_item ks item)) (map (column_at c) (flat_map (columns_of_item ks) items)) (cells_of_item ks xs item) (flat_map (cells_of_item ks xs) items) (item_long item ks xs long ∙ sym (length-map (columns_of_item ks item) (column_at c)))
      ∙ ap₂ (λ a b. a ++ b) (item_row c item ks xs long) (items_row items ks xs long)

  items_fits : (items : List Item) (ks : List VColumn) (xs : List (Option Value)) → fits (map (column_at c) ks) xs ≡ true → fits (map (column_at c) (flat_map (columns_of_item ks) items)) (flat_map (cells_of_item ks xs) items) ≡ true
  items_fits [] ks xs fit = refl
  items_fits (item ∷ items) ks xs fit =
      subst (λ ps. fits ps (cells_of_item ks xs item ++ flat_map (cells_of_item ks xs) items) ≡ true) (sym (map-append (column_at c) (columns_of_item ks item) (flat_map (columns_of_item ks) items)))
      (fits-append (map (column_at c) (columns_of_item ks item)) (map (column_at c) (flat_map (columns_of_item ks) items)) (cells_of_item ks xs item) (flat_map (cells_of_item ks xs) items) (item_fits c item ks xs fit) (items_fits items ks xs fit))

  module _ (items : List Item) (columns : List VColumn) where
    abbrev wide : List VColumn
    wide = flat_map (columns_of_item columns) items

    stand_step : (row : VRow) (rows : List VRow) (there : Bool) → satisfies c row.cond ≡ there → length row.cells ≡ length columns → standing c wide (map (row_of_items columns items) rows) ≡ map (kept_cells c (Listed items)) (standing c columns rows) → standing c wide (map (row_of_items columns items) (row ∷ rows)) ≡ map (kept_cells c (Listed items)) (standing c columns (row ∷ rows))
    stand_step row rows true t long rest = rw t (ap₂ (λ x xs. x ∷ xs) (items_row items columns row.cells long) rest)
    stand_step row rows false t long rest = rw t rest

    items_standing : (rows : List VRow) → are_whole (length columns) rows ≡ true → standing c wide (map (row_of_items columns items) rows) ≡ map (kept_cells c (Listed items)) (standing c columns rows)
    items_standing [] whole = refl
    items_standing (row ∷ rows) whole = stand_step row rows (satisfies c row.cond) refl (eqb-true (length row.cells) (length columns) (and_first _ _ whole)) (items_standing rows (and_second (length row.cells == length columns) _ whole))

    filled_step : (row : VRow) (rows : List VRow) (there : Bool) → satisfies c row.cond ≡ there → are_filled c columns (row ∷ rows) ≡ true → (are_filled c columns rows ≡ true → are_filled c wide (map (row_of_items columns items) rows) ≡ true) → are_filled c wide (map (row_of_items columns items) (row ∷ rows)) ≡ true
    filled_step row rows true t filled rest =
        let parts = rw t at filled in
        rw t (both _ _ (items_fits items columns row.cells (and_first _ _ parts)) (rest (and_second (fits (map (column_at c) columns) row.cells) _ parts)))
    filled_step row rows false t filled rest = rw t (rest (rw t at filled))

    items_filled : (rows : List VRow) → are_filled c columns rows ≡ true → are_filled c wide (map (row_of_items columns items) rows) ≡ true
    items_filled [] filled = refl
    items_filled (row ∷ rows) filled = filled_step row rows (satisfies c row.cond) refl filled (items_filled rows)

items_whole : (items : List Item) (columns : List VColumn) (rows : List VRow) → are_whole (length columns) rows ≡ true → are_whole (length (flat_map (columns_of_item columns) items)) (map (row_of_items columns items) rows) ≡ true
items_whole items columns [] whole = refl
items_whole items columns (row ∷ rows) whole =
    both _ _ (eq-eqb _ _ (items_long items columns row.cells (eqb-true (length row.cells) (length columns) (and_first _ _ whole))))
    (items_whole items columns rows (and_second (length row.cells == length columns) _ whole))

pub kept_none : (c : List ℕ) (items : List Item) → kept c (Listed items) [] ≡ []
kept_none c [] = refl
kept_none c (item ∷ items) = ap₂ (λ xs ys. xs ++ ys) (one (is_kept c item.cond)) (kept_none c items) where
  one : (b : Bool) → (if b then picked [] item else []) ≡ []
  one true = refl
  one false = refl

project_case : (c : List ℕ) (order : List Column) (items : List Item) (L W : List Column) (LR S : List (List Cell)) → W ≡ kept c (Listed items) L → S ≡ map (kept_cells c (Listed items)) LR → relation_by (in_order_of order W) S ≡ projected order c (Listed items) (relation_with L LR)
project_case c order items [] W LR S w s =
    by_none order W S (map (kept_cells c (Listed items)) []) (w ∙ kept_none c items)
    ∙ ap (λ k. relation_by (in_order_of order k) (map (kept_cells c (Listed items)) [])) (sym (kept_none c items))
project_case c order items (k ∷ ks) W LR S w s = ap₂ (λ x y. relation_by (in_order_of order x) y) w s

module _ (c : List ℕ) (items : List Item) (table : VTable) (answer : IsAnswerAt c table) (distinct : names_are_distinct (kept c (Listed items) (columns_at c table.columns)) ≡ true) where
  stands : Stands c (flat_map (columns_of_item table.columns) items) (map (row_of_items table.columns items) table.rows)
  stands =
      let s = stands_from c table answer in
      record {
        distinct = ap names_are_distinct (items_columns c items table.columns) ∙ distinct;
        whole = items_whole items table.columns table.rows s.whole;
        filled = items_filled c items table.columns table.rows s.filled;
      }

  pub keep_answers : answer_at c (kept_table (Listed items) table) ≡ projected (possible_kept (Listed items) (headings table.columns)) c (Listed items) (answer_at c table)
  keep_answers =
      merge_answers c (flat_map (columns_of_item table.columns) items) (map (row_of_items table.columns items) table.rows) stands
      ∙ ap (λ order. relation_by (in_order_of (once order) (columns_at c (flat_map (columns_of_item table.columns) items))) (standing c (flat_map (columns_of_item table.columns) items) (map (row_of_items table.columns items) table.rows))) (items_headings items table.columns)
      ∙ project_case c (possible_kept (Listed items) (headings table.columns)) items (columns_at c table.columns) (columns_at c (flat_map (columns_of_item table.columns) items)) (standing c table.columns table.rows) (standing c (flat_map (columns_of_item table.columns) items) (map (row_of_items table.columns items) table.rows))
      (items_columns c items table.columns) (items_standing c items table.columns table.rows (stands_from c table answer).whole)
      ∙ ap (projected (possible_kept (Listed items) (headings table.columns)) c (Listed items)) (sym (answer_of c table))

  pub keep_formed : IsAnswerAt c (kept_table (Listed items) table)
  keep_formed = merge_formed c (flat_map (columns_of_item table.columns) items) (map (row_of_items table.columns items) table.rows) stands
