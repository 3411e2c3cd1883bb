-- What the loops over ranks and ways make.
use Rattle.std.proofs.Common.{◌≡◌, ◌∙◌, ℕ, suc, ◌+◌, ◌<◌, max, Bool, true, false, List, [], ◌∷◌, ◌++◌, map, length, take, get_or, Option, if◌then◌else◌, refl, sym, ap, ap₂, append_assoc, arith}
use Rattle.std.proofs.lemmas.List.{map-append, take_more}
use Rattle.std.specs.List.{cons_option, filter_map, flat_map}
use Rattle.feature_expr.specs.Expressions.{and_of, not_of}
use Rattle.feature_expr.specs.declared.expr.Expr.{Expr}
use Rattle.feature_expr.specs.declared.expr.Expr as e
use Rattle.values.specs.declared.column_name.ColName.{ColName}
use Rattle.values.specs.declared.value.Value.{Value}
use Rattle.plain_relation.specs.Relations.{Column, same_name}
use Rattle.relational_algebra.specs.Columns.{same_column}
use Rattle.row_conditions.specs.Truths.{slots_of}
use Rattle.plan_merges.specs.Merges.{all_ways, count_same, is_taken, last_rank, merged_table, none_ranked, rank_cond, ranked, ranked_behind, ranked_headings, repeated_names, row_by_slots, row_taken, rows_by_slots, rows_taken, taken, taken_slots, way_with, ways_of, ways_ranked, with_ways}
use Rattle.plan_tables.specs.Tables.{heading, laid_cells, row_under, settled}
use Rattle.plan_merges.specs.declared.way.Ranked.{Ranked}
use Rattle.plan_merges.specs.declared.way.Way.{Way}
use Rattle.vtable.specs.declared.table.VColumn.{VColumn}
use Rattle.vtable.specs.declared.table.VRow.{VRow}
use Rattle.vtable.specs.declared.table.VTable.{VTable}

-- one more column gets its rank
pub ranked_more : (out new : List Ranked) (cs : List VColumn) (column : VColumn) (columns : List VColumn) (whole : List Ranked) → cs ≡ column ∷ columns → out ++ ranked_behind (ranked_headings out) cs ≡ whole → new ≡ out ++ record { column = column; rank = count_same (heading column) (ranked_headings out) } ∷ [] → new ++ ranked_behind (ranked_headings new) columns ≡ whole
ranked_more out new cs column columns whole split is made =
    let x : Ranked = record { column = column; rank = count_same (heading column) (ranked_headings out) } in
    ap (λ xs. xs ++ ranked_behind (ranked_headings xs) columns) made
    ∙ ap (λ hs. (out ++ x ∷ []) ++ ranked_behind hs columns) (map-append (λ (x : Ranked). heading x.column) out (x ∷ []))
    ∙ append_assoc out (x ∷ []) (ranked_behind (ranked_headings out ++ heading column ∷ []) columns)
    ∙ ap (λ ks. out ++ ranked_behind (ranked_headings out) ks) (sym split)
    ∙ is

count-append : (key : Column) (xs : List Column) (k : Column) → count_same key (xs ++ k ∷ []) ≡ count_same key xs + (if same_column key k then 1 else 0)
count-append key [] k = one (same_column key k) refl where
  one : (b : Bool) → same_column key k ≡ b → count_same key (k ∷ []) ≡ 0 + (if same_column key k then 1 else 0)
  one true is = rw is (omega arith)
  one false is = rw is (omega arith)
count-append key (x ∷ xs) k = step (same_column key x) refl (count-append key xs k) where
  step : (b : Bool) → same_column key x ≡ b → count_same key (xs ++ k ∷ []) ≡ count_same key xs + (if same_column key k then 1 else 0) → count_same key (x ∷ (xs ++ k ∷ [])) ≡ count_same key (x ∷ xs) + (if same_column key k then 1 else 0)
  step true is h = rw is (omega (arith, h))
  step false is h = rw is h

-- one more column is counted
pub count_more : (key : Column) (xs : List Ranked) (i : ℕ) (x : Ranked) (same : Bool) → i < length xs → x ≡ get_or xs i x → same_column key (heading x.column) ≡ same → count_same key (ranked_headings (take i xs)) + (if same then 1 else 0) ≡ count_same key (ranked_headings (take (i + 1) xs))
count_more key xs i x same below is_x is =
    ap (λ b. count_same key (ranked_headings (take i xs)) + (if b then 1 else 0)) (sym is)
    ∙ sym (count-append key (ranked_headings (take i xs)) (heading x.column))
    ∙ ap (count_same key) (sym (map-append (λ (x : Ranked). heading x.column) (take i xs) (x ∷ [])))
    ∙ ap (λ y. count_same key (ranked_headings (take i xs ++ y ∷ []))) is_x
    ∙ ap (λ ys. count_same key (ranked_headings ys)) (sym (take_more xs i x below))

-- the last name's ways are the first to be made
pub with_ways_push : (columns : List Ranked) (names : List ColName) (name : ColName) (ways : List Way) → with_ways columns (names ++ name ∷ []) ways ≡ with_ways columns names (ways_of name columns ways)
with_ways_push columns [] name ways = refl
with_ways_push columns (n ∷ names) name ways = ap (ways_of n columns) (with_ways_push columns names name ways)

pub ways_are : (columns : List Ranked) (names : List ColName) → with_ways columns names (record { cond = e.True; ranks = [] } ∷ []) ≡ all_ways names columns
ways_are columns [] = refl
ways_are columns (name ∷ names) = ap (ways_of name columns) (ways_are columns names)

plus_one : (n : ℕ) → suc n ≡ n + 1
plus_one n = omega arith

-- one more rank
pub ranks_more : (name : ColName) (columns : List Ranked) (ways first out new : List Way) (rank : ℕ) → out ≡ first ++ ways_ranked name columns rank ways → new ≡ out ++ map (way_with (rank_cond name (rank + 1) columns) name (rank + 1)) ways → new ≡ first ++ ways_ranked name columns (rank + 1) ways
ranks_more name columns ways first out new rank is made =
    made
    ∙ ap (λ xs. xs ++ map (way_with (rank_cond name (rank + 1) columns) name (rank + 1)) ways) is
    ∙ append_assoc first (ways_ranked name columns rank ways) (map (way_with (rank_cond name (rank + 1) columns) name (rank + 1)) ways)
    ∙ ap (λ n. first ++ (ways_ranked name columns rank ways ++ map (way_with (rank_cond name n columns) name n) ways)) (sym (plus_one rank))
    ∙ ap (λ n. first ++ ways_ranked name columns n ways) (plus_one rank)

pub none_more : (name : ColName) (columns : List Ranked) (rank : ℕ) → and_of (none_ranked name columns rank) (not_of (rank_cond name (rank + 1) columns)) ≡ none_ranked name columns (rank + 1)
none_more name columns rank =
    ap (λ n. and_of (none_ranked name columns rank) (not_of (rank_cond name n columns))) (sym (plus_one rank))
    ∙ ap (none_ranked name columns) (plus_one rank)

-- one more column's rank
pub last_more : (name : ColName) (last new : ℕ) (x : Ranked) (xs : List Ranked) (same : Bool) → same_name x.column.name name ≡ same → new ≡ (if same then max last x.rank else last) → max new (last_rank name xs) ≡ max last (last_rank name (x ∷ xs))
last_more name last new x xs true is h = rw (is, h) (omega arith)
last_more name last new x xs false is h = rw (is, h) refl

-- ---- the slots of the taken columns

no_slots : (ks : List VColumn) → slots_of ks [] ≡ []
no_slots [] = refl
no_slots (k ∷ ks) = refl

slots_step : (ranks : List (ColName × ℕ)) (before : List Column) (k : VColumn) (ks : List VColumn) (x : Option Value) (xs : List (Option Value)) (is_in : Bool) → is_taken ranks (record { column = k; rank = count_same (heading k) before }) ≡ is_in → taken_slots ranks (ranked_behind (before ++ heading k ∷ []) ks) xs ≡ slots_of (taken ranks (ranked_behind (before ++ heading k ∷ []) ks) ks) (taken ranks (ranked_behind (before ++ heading k ∷ []) ks) xs) → taken_slots ranks (ranked_behind before (k ∷ ks)) (x ∷ xs) ≡ slots_of (taken ranks (ranked_behind before (k ∷ ks)) (k ∷ ks)) (taken ranks (ranked_behind before (k ∷ ks)) (x ∷ xs))
slots_step ranks before k ks x xs true is rest = rw is (ap (λ ys. record { column = k; cell = x } ∷ ys) rest)
slots_step ranks before k ks x xs false is rest = rw is rest

slots_are : (ranks : List (ColName × ℕ)) (before : List Column) (ks : List VColumn) (xs : List (Option Value)) → taken_slots ranks (ranked_behind before ks) xs ≡ slots_of (taken ranks (ranked_behind before ks) ks) (taken ranks (ranked_behind before ks) xs)
slots_are ranks before [] xs = refl
slots_are ranks before (k ∷ ks) [] = sym (no_slots (taken ranks (ranked_behind before (k ∷ ks)) (k ∷ ks)))
slots_are ranks before (k ∷ ks) (x ∷ xs) = slots_step ranks before k ks x xs (is_taken ranks (record { column = k; rank = count_same (heading k) before })) refl (slots_are ranks (before ++ heading k ∷ []) ks xs)

row_same : (to columns : List VColumn) (way : Way) (row : VRow) → row_by_slots to (ranked columns) way row ≡ row_taken to columns way row
row_same to columns way row = ap (λ slots. row_under (laid_cells to slots) (and_of row.cond way.cond)) (slots_are way.ranks [] columns row.cells)

kept_same : {X Y : Type 0} (f g : X → Option Y) → ((x : X) → f x ≡ g x) → (xs : List X) → filter_map f xs ≡ filter_map g xs
kept_same f g same [] = refl
kept_same f g same (x ∷ xs) = ap₂ cons_option (same x) (kept_same f g same xs)

pub ways_same : (to columns : List VColumn) (rows : List VRow) (ways : List Way) → flat_map (rows_by_slots to (ranked columns) rows) ways ≡ flat_map (rows_taken to columns rows) ways
ways_same to columns rows [] = refl
ways_same to columns rows (way ∷ ways) = ap₂ (λ xs ys. xs ++ ys) (kept_same (row_by_slots to (ranked columns) way) (row_taken to columns way) (row_same to columns way) rows) (ways_same to columns rows ways)

pub merged_is : (table : VTable) (columns : List VColumn) (columns_ranked : List Ranked) (names : List ColName) (ways : List Way) (rows : List VRow) → columns ≡ settled table.columns → columns_ranked ≡ ranked table.columns → names ≡ repeated_names columns_ranked → ways ≡ all_ways names columns_ranked → rows ≡ flat_map (rows_by_slots columns columns_ranked table.rows) ways → (let it : VTable = record { columns = columns; rows = rows } in it) ≡ merged_table table
merged_is table columns columns_ranked names ways rows k r n w h =
    let made : List VColumn → List VRow → VTable = λ columns rows. record { columns = columns; rows = rows } in
    let all : ways ≡ all_ways (repeated_names (ranked table.columns)) (ranked table.columns) = w ∙ ap (λ x. all_ways x columns_ranked) n ∙ ap (λ x. all_ways (repeated_names x) x) r in
    let rows_are : rows ≡ flat_map (rows_taken (settled table.columns) table.columns table.rows) (all_ways (repeated_names (ranked table.columns)) (ranked table.columns)) =
    h ∙ ap (λ x. flat_map (rows_by_slots x columns_ranked table.rows) ways) k
    ∙ ap (λ x. flat_map (rows_by_slots (settled table.columns) x table.rows) ways) r
    ∙ ap (flat_map (rows_by_slots (settled table.columns) (ranked table.columns) table.rows)) all
    ∙ ways_same (settled table.columns) table.columns table.rows (all_ways (repeated_names (ranked table.columns)) (ranked table.columns)) in
    ap₂ made k rows_are
