-- A row that is made under a condition stands where the condition holds.
use Rattle.std.proofs.Common.{◌≡◌, ◌∙◌, ℕ, ◌==◌, Bool, true, false, not, ◌&&◌, List, [], ◌∷◌, map, length, Option, Some, None, if◌then◌else◌, refl, sym, ap, ap₂, true≢false, eq-eqb}
use Rattle.std.proofs.lemmas.List.{length-map}
use Rattle.std.specs.List.{cons_option}
use Rattle.feature_expr.specs.Expressions.{and_of}
use Rattle.feature_expr.specs.Satisfaction.{satisfies, holds_at}
use Rattle.feature_expr.specs.declared.expr.Expr.{Expr, fold-Expr, map-Expr, out-Expr}
use Rattle.feature_expr.specs.declared.expr.Expr.TheFolds.{fold_out-Expr}
use Rattle.feature_expr.specs.declared.expr.Expr.TheOpen.{Expr-F}
use Rattle.values.specs.declared.value.Value.{Value}
use Rattle.plain_relation.specs.Relations.{Cell, Column, columns_of, has_name, row_of, same_name}
use Rattle.relational_algebra.specs.Operations.{laid}
use Rattle.row_conditions.proofs.BoolLaws.{and_first, and_second, neither, not_true}
use Rattle.row_conditions.proofs.FoldingLaws.{and_holds}
use Rattle.row_conditions.specs.RowConditions.{cells_are_distinct, has_cell_named}
use Rattle.row_conditions.specs.Truths.{slots_of}
use Rattle.plan_tables.proofs.OnceLaws.{and_once_holds}
use Rattle.plan_tables.proofs.LayLaws.{IsWithinAt, lay_fits, lay_row}
use Rattle.plan_tables.proofs.MemberLaws.{both}
use Rattle.plan_tables.proofs.StandLaws.{are_filled, are_whole, standing}
use Rattle.plan_tables.specs.Tables.{and_once, columns_at, false_layer, headings, is_false, is_true, laid_cells, once_each, row_under, rows_laid, true_layer}
use Rattle.vtable.specs.Answers.{column_at, fits, names_are_distinct}
use Rattle.vtable.specs.declared.table.VColumn.{VColumn}
use Rattle.vtable.specs.declared.table.VRow.{VRow}

false_at : (c : List ℕ) (cond : Expr) (x : Expr-F Expr) → out-Expr cond ≡ x → false_layer x ≡ true → satisfies c cond ≡ false
false_at c cond Expr-F.False is h = fold_out-Expr Bool (holds_at c) cond ∙ ap (λ y. holds_at c (map-Expr Expr Bool (fold-Expr Bool (holds_at c)) y)) is
false_at c cond Expr-F.True is h = absurd (true≢false (sym h))
false_at c cond (Expr-F.Feature i) is h = absurd (true≢false (sym h))
false_at c cond (Expr-F.Not inner) is h = absurd (true≢false (sym h))
false_at c cond (Expr-F.And l r) is h = absurd (true≢false (sym h))
false_at c cond (Expr-F.Or l r) is h = absurd (true≢false (sym h))

-- the constant `false` holds nowhere
pub never_holds : (c : List ℕ) (cond : Expr) → is_false cond ≡ true → satisfies c cond ≡ false
never_holds c cond h = false_at c cond (out-Expr cond) refl h

true_at : (c : List ℕ) (cond : Expr) (x : Expr-F Expr) → out-Expr cond ≡ x → true_layer x ≡ true → satisfies c cond ≡ true
true_at c cond Expr-F.True is h = fold_out-Expr Bool (holds_at c) cond ∙ ap (λ y. holds_at c (map-Expr Expr Bool (fold-Expr Bool (holds_at c)) y)) is
true_at c cond Expr-F.False is h = absurd (true≢false (sym h))
true_at c cond (Expr-F.Feature i) is h = absurd (true≢false (sym h))
true_at c cond (Expr-F.Not inner) is h = absurd (true≢false (sym h))
true_at c cond (Expr-F.And l r) is h = absurd (true≢false (sym h))
true_at c cond (Expr-F.Or l r) is h = absurd (true≢false (sym h))

-- the constant `true` holds everywhere
pub always_holds : (c : List ℕ) (cond : Expr) → is_true cond ≡ true → satisfies c cond ≡ true
always_holds c cond h = true_at c cond (out-Expr cond) refl h

module _ (c : List ℕ) (columns : List VColumn) (cells : List (Option Value)) (cond : Expr) (rows : List VRow) where
  stands_by : (none there : Bool) → is_false cond ≡ none → satisfies c cond ≡ there → standing c columns (cons_option (row_under cells cond) rows) ≡ (if there then row_of (map (column_at c) columns) cells ∷ standing c columns rows else standing c columns rows)
  stands_by false true is h = rw (is, h) refl
  stands_by false false is h = rw (is, h) refl
  stands_by true false is h = rw is refl
  stands_by true true is h = absurd (true≢false (sym h ∙ never_holds c cond is))

  -- it stands where its condition holds
  pub under_stands : (there : Bool) → satisfies c cond ≡ there → standing c columns (cons_option (row_under cells cond) rows) ≡ (if there then row_of (map (column_at c) columns) cells ∷ standing c columns rows else standing c columns rows)
  under_stands there h = stands_by (is_false cond) there refl h

  filled_by : (none there : Bool) → is_false cond ≡ none → satisfies c cond ≡ there → (there ≡ true → fits (map (column_at c) columns) cells ≡ true) → are_filled c columns rows ≡ true → are_filled c columns (cons_option (row_under cells cond) rows) ≡ true
  filled_by true there is h fit rest = rw is rest
  filled_by false true is h fit rest = rw (is, h) (both _ _ (fit refl) rest)
  filled_by false false is h fit rest = rw (is, h) rest

  pub under_filled : (satisfies c cond ≡ true → fits (map (column_at c) columns) cells ≡ true) → are_filled c columns rows ≡ true → are_filled c columns (cons_option (row_under cells cond) rows) ≡ true
  under_filled fit rest = filled_by (is_false cond) (satisfies c cond) refl refl fit rest

pub under_whole : (width : ℕ) (cells : List (Option Value)) (cond : Expr) (rows : List VRow) (none : Bool) → is_false cond ≡ none → (length cells == width) ≡ true → are_whole width rows ≡ true → are_whole width (cons_option (row_under cells cond) rows) ≡ true
under_whole width cells cond rows true is long rest = rw is rest
under_whole width cells cond rows false is long rest = rw is (both _ _ long rest)

-- ---- the cells of a row have distinct names, where its columns do

row_lacks : (places : List (Option Column)) (cells : List (Option Value)) (cell : Cell) → has_name cell.name (columns_of places) ≡ false → has_cell_named (row_of places cells) cell ≡ false
row_lacks [] cells cell h = refl
row_lacks (place ∷ places) [] cell h = refl
row_lacks (None ∷ places) (x ∷ cells) cell h = row_lacks places cells cell h
row_lacks (Some k ∷ places) (None ∷ cells) cell h = row_lacks places cells cell (neither (same_name k.name cell.name) (has_name cell.name (columns_of places)) h).1
row_lacks (Some k ∷ places) (Some v ∷ cells) cell h =
    let parts = neither (same_name k.name cell.name) (has_name cell.name (columns_of places)) h in
    rw parts.0 (row_lacks places cells cell parts.1)

pub cells_distinct : (places : List (Option Column)) (cells : List (Option Value)) → names_are_distinct (columns_of places) ≡ true → cells_are_distinct (row_of places cells) ≡ true
cells_distinct [] cells h = refl
cells_distinct (place ∷ places) [] h = refl
cells_distinct (None ∷ places) (x ∷ cells) h = cells_distinct places cells h
cells_distinct (Some k ∷ places) (None ∷ cells) h = cells_distinct places cells (and_second (not (has_name k.name (columns_of places))) _ h)
cells_distinct (Some k ∷ places) (Some v ∷ cells) h =
    let lacks : has_cell_named (row_of places cells) (record { name = k.name; value = v }) ≡ false = row_lacks places cells (record { name = k.name; value = v }) (not_true _ (and_first (not (has_name k.name (columns_of places))) _ h)) in
    rw lacks (cells_distinct places cells (and_second (not (has_name k.name (columns_of places))) _ h))

-- ---- rows in the order of other columns

-- what it takes to lay the rows of a side in a variant
pub record CanLay (c : List ℕ) (to columns : List VColumn) (rows : List VRow) : Type 0 where
  pub once : once_each (headings columns) ≡ true
  pub distinct : names_are_distinct (columns_at c columns) ≡ true
  pub filled : are_filled c columns rows ≡ true
  pub within : IsWithinAt c to columns

can_rest : (c : List ℕ) (to columns : List VColumn) (row : VRow) (rows : List VRow) (there : Bool) → satisfies c row.cond ≡ there → CanLay c to columns (row ∷ rows) → CanLay c to columns rows
can_rest c to columns row rows true is it = record { once = it.once; distinct = it.distinct; filled = and_second (fits (map (column_at c) columns) row.cells) _ (rw is at it.filled); within = it.within }
can_rest c to columns row rows false is it = record { once = it.once; distinct = it.distinct; filled = rw is at it.filled; within = it.within }

fits_here : (c : List ℕ) (to columns : List VColumn) (row : VRow) (rows : List VRow) → satisfies c row.cond ≡ true → CanLay c to columns (row ∷ rows) → fits (map (column_at c) columns) row.cells ≡ true
fits_here c to columns row rows is it = and_first _ _ (rw is at it.filled)

module _ (c : List ℕ) (to columns : List VColumn) (cond : Expr) where
  laid_step : (row : VRow) (rows : List VRow) (there here : Bool) → satisfies c row.cond ≡ there → satisfies c cond ≡ here → (here ≡ true → CanLay c to columns (row ∷ rows)) → standing c to (rows_laid to columns cond rows) ≡ (if here then map (laid (columns_at c to)) (standing c columns rows) else []) → standing c to (rows_laid to columns cond (row ∷ rows)) ≡ (if here then map (laid (columns_at c to)) (standing c columns (row ∷ rows)) else [])
  laid_step row rows there false is h can rest =
      under_stands c to (laid_cells to (slots_of columns row.cells)) (and_once row.cond cond) (rows_laid to columns cond rows) false (and_once_holds c row.cond cond ∙ ap (λ b. satisfies c row.cond && b) h ∙ and_false (satisfies c row.cond)) ∙ rest
    where
      and_false : (b : Bool) → (b && false) ≡ false
      and_false true = refl
      and_false false = refl
  laid_step row rows false true is h can rest =
      under_stands c to (laid_cells to (slots_of columns row.cells)) (and_once row.cond cond) (rows_laid to columns cond rows) false (and_once_holds c row.cond cond ∙ ap (λ b. b && satisfies c cond) is) ∙ rest ∙ rw is refl
  laid_step row rows true true is h can rest =
      let it = can refl in
      under_stands c to (laid_cells to (slots_of columns row.cells)) (and_once row.cond cond) (rows_laid to columns cond rows) true (and_once_holds c row.cond cond ∙ ap (λ b. b && satisfies c cond) is ∙ h)
      ∙ rw is (ap₂ (λ x xs. x ∷ xs) (lay_row c columns row.cells it.once it.distinct (fits_here c to columns row rows is it) to it.within) rest)

  -- they are the same rows, in the columns' order, where the condition holds, and none elsewhere
  pub laid_standing : (rows : List VRow) (here : Bool) → satisfies c cond ≡ here → (here ≡ true → CanLay c to columns rows) → standing c to (rows_laid to columns cond rows) ≡ (if here then map (laid (columns_at c to)) (standing c columns rows) else [])
  laid_standing [] true h can = refl
  laid_standing [] false h can = refl
  laid_standing (row ∷ rows) here h can = laid_step row rows (satisfies c row.cond) here refl h can (laid_standing rows here h (λ t. can_rest c to columns row rows (satisfies c row.cond) refl (can t)))

  pub laid_filled : (rows : List VRow) → (satisfies c cond ≡ true → CanLay c to columns rows) → are_filled c to (rows_laid to columns cond rows) ≡ true
  laid_filled [] can = refl
  laid_filled (row ∷ rows) can =
      under_filled c to (laid_cells to (slots_of columns row.cells)) (and_once row.cond cond) (rows_laid to columns cond rows)
      (λ h.
      let parts : (satisfies c row.cond && satisfies c cond) ≡ true = sym (and_once_holds c row.cond cond) ∙ h in
      let it = can (and_second (satisfies c row.cond) _ parts) in
      lay_fits c columns row.cells it.once it.distinct (fits_here c to columns row rows (and_first _ _ parts) it) to it.within)
      (laid_filled rows (λ t. can_rest c to columns row rows (satisfies c row.cond) refl (can t)))

pub laid_whole : (to columns : List VColumn) (cond : Expr) (rows : List VRow) → are_whole (length to) (rows_laid to columns cond rows) ≡ true
laid_whole to columns cond [] = refl
laid_whole to columns cond (row ∷ rows) =
    under_whole (length to) (laid_cells to (slots_of columns row.cells)) (and_once row.cond cond) (rows_laid to columns cond rows) (is_false (and_once row.cond cond)) refl
    (eq-eqb _ _ (length-map to _))
    (laid_whole to columns cond rows)
