-- A feature that neither the operator nor a side has stands nowhere in what it makes.
use Rattle.std.proofs.Common.{◌≡◌, ℕ, Bool, true, false, List, [], ◌∷◌, ◌++◌, filter, fold, Option, refl}
use Rattle.std.specs.List.{filter_map}
use Rattle.feature_expr.specs.Expressions.{and_of, not_of}
use Rattle.feature_expr.specs.declared.expr.Expr.{Expr}
use Rattle.feature_expr.specs.declared.expr.Expr as e
use Rattle.values.specs.declared.value.Value.{Value}
use Rattle.relational_algebra.specs.Mentions.{cond_mentions}
use Rattle.row_conditions.proofs.FoldingLaws.{mentions_False, mentions_True}
use Rattle.row_conditions.specs.Truths.{Slot, slots_of, truth_of}
use Rattle.plan_tables.specs.Tables.{heading, any_of, cell_under, columns_under, laid_cells, rows_laid, settled}
use Rattle.plan_operators.specs.Operators.{alike, chosen_table, excepted_table, filtered_table, has_key, matching, row_without, rows_meeting, same_cell, sure_columns, united_table, with_alike, with_match}
use Rattle.vra_syntax.specs.declared.cond.Cond.{Cond}
use Rattle.vtable.specs.declared.table.VColumn.{VColumn}
use Rattle.vtable.specs.declared.table.VRow.{VRow}
use Rattle.vtable.specs.declared.table.VTable.{VTable}
use Rattle.plan_tables.proofs.FeatureLaws.{none, IsFree, and_free, or_free, not_free, AreFree, RowsFree, first_free, rest_free, row_free, rows_rest, columns_append, rows_append, slots_free, truth_free, under_free, settled_free, any_free, columns_under_free, laid_free, TableFree}

module _ (i : ℕ) where
  meeting_free : (cond : Cond) (columns : List VColumn) (rows : List VRow) → cond_mentions i cond ≡ false → AreFree i columns → RowsFree i rows → RowsFree i (rows_meeting cond columns rows)
  meeting_free cond columns [] h k r = refl
  meeting_free cond columns (row ∷ rows) h k r =
      under_free i row.cells (and_of row.cond (truth_of (slots_of columns row.cells) cond)) (rows_meeting cond columns rows)
      (and_free i row.cond (truth_of (slots_of columns row.cells) cond) (row_free i row rows r) (truth_free i cond (slots_of columns row.cells) h (slots_free i columns row.cells k)))
      (meeting_free cond columns rows h k (rows_rest i row rows r))

  pub filter_free : (cond : Cond) (t : VTable) → cond_mentions i cond ≡ false → TableFree i t → TableFree i (filtered_table cond t)
  filter_free cond t h f = record { columns = f.columns; rows = meeting_free cond t.columns t.rows h f.columns f.rows }

  pub union_free : (l r : VTable) → TableFree i l → TableFree i r → TableFree i (united_table l r)
  union_free l r f g = record {
    columns = settled_free i (l.columns ++ r.columns) (columns_append i l.columns r.columns f.columns g.columns);
    rows = rows_append i (rows_laid (settled (l.columns ++ r.columns)) l.columns (any_of l.columns) l.rows) (rows_laid (settled (l.columns ++ r.columns)) r.columns (any_of r.columns) r.rows)
        (laid_free i (settled (l.columns ++ r.columns)) l.columns (any_of l.columns) l.rows (any_free i l.columns f.columns) f.rows)
        (laid_free i (settled (l.columns ++ r.columns)) r.columns (any_of r.columns) r.rows (any_free i r.columns g.columns) g.rows);
  }

  pub chosen_free : (expr : Expr) (l r : VTable) → IsFree i expr → TableFree i l → TableFree i r → TableFree i (chosen_table expr l r)
  chosen_free expr l r h f g =
      let all : List VColumn = columns_under expr l.columns ++ columns_under (not_of expr) r.columns in
      record {
        columns = settled_free i all (columns_append i (columns_under expr l.columns) (columns_under (not_of expr) r.columns) (columns_under_free i expr l.columns h f.columns) (columns_under_free i (not_of expr) r.columns (not_free i expr h) g.columns));
        rows = rows_append i (rows_laid (settled all) l.columns expr l.rows) (rows_laid (settled all) r.columns (not_of expr) r.rows)
            (laid_free i (settled all) l.columns expr l.rows h f.rows)
            (laid_free i (settled all) r.columns (not_of expr) r.rows (not_free i expr h) g.rows);
      }

  alike_step : (right : List Slot) (out : Expr) (slot : Slot) (same : Bool) → same_cell slot.cell (cell_under right (heading slot.column)) ≡ same → IsFree i out → IsFree i slot.column.cond → IsFree i (with_alike right out slot)
  alike_step right out slot true is h k = rw is h
  alike_step right out slot false is h k = rw is (and_free i out (not_of slot.column.cond) h (not_free i slot.column.cond k))

  alike_from : (right : List Slot) (out : Expr) (columns : List VColumn) (cells : List (Option Value)) → IsFree i out → AreFree i columns → IsFree i (fold (with_alike right) out (slots_of columns cells))
  alike_from right out [] cells h k = h
  alike_from right out (x ∷ xs) [] h k = h
  alike_from right out (x ∷ xs) (cell ∷ cells) h k =
      let slot : Slot = record { column = x; cell = cell } in
      alike_from right (with_alike right out slot) xs cells (alike_step right out slot (same_cell cell (cell_under right (heading x))) refl h (first_free i x xs k)) (rest_free i x xs k)

  match_from : (others columns : List VColumn) (cells : List (Option Value)) (out : Expr) (rows : List VRow) → IsFree i out → AreFree i columns → RowsFree i rows → IsFree i (fold (with_match others (slots_of columns cells)) out rows)
  match_from others columns cells out [] h k r = h
  match_from others columns cells out (row ∷ rows) h k r =
      match_from others columns cells (with_match others (slots_of columns cells) out row) rows
      (or_free i out (and_of row.cond (alike (slots_of columns cells) (slots_of others row.cells))) h (and_free i row.cond (alike (slots_of columns cells) (slots_of others row.cells)) (row_free i row rows r) (alike_from (slots_of others row.cells) e.True columns cells (mentions_True i) k)))
      k (rows_rest i row rows r)

  kept_step : (test : VRow → Bool) (row : VRow) (rows : List VRow) (kept : Bool) → test row ≡ kept → IsFree i row.cond → RowsFree i (filter test rows) → RowsFree i (filter test (row ∷ rows))
  kept_step test row rows true is h rest = rw is (none _ _ h rest)
  kept_step test row rows false is h rest = rw is rest

  kept_free : (test : VRow → Bool) (rows : List VRow) → RowsFree i rows → RowsFree i (filter test rows)
  kept_free test [] r = refl
  kept_free test (row ∷ rows) r = kept_step test row rows (test row) refl (row_free i row rows r) (kept_free test rows (rows_rest i row rows r))

  without_free : (columns : List VColumn) (right : VTable) (rows : List VRow) → AreFree i columns → TableFree i right → RowsFree i rows → RowsFree i (filter_map (row_without columns right) rows)
  without_free columns right [] k g r = refl
  without_free columns right (row ∷ rows) k g r =
      let keys : List VColumn = sure_columns (any_of right.columns) right.columns in
      let test : VRow → Bool = has_key keys right.columns (laid_cells keys (slots_of columns row.cells)) in
      let found : Expr = and_of (any_of right.columns) (matching (slots_of columns row.cells) right) in
      under_free i row.cells (and_of row.cond (not_of found)) (filter_map (row_without columns right) rows)
      (and_free i row.cond (not_of found) (row_free i row rows r) (not_free i found (and_free i (any_of right.columns) (matching (slots_of columns row.cells) right) (any_free i right.columns g.columns) (match_from right.columns columns row.cells e.False (filter test right.rows) (mentions_False i) k (kept_free test right.rows g.rows)))))
      (without_free columns right rows k g (rows_rest i row rows r))

  pub except_free : (l r : VTable) → TableFree i l → TableFree i r → TableFree i (excepted_table l r)
  except_free l r f g = record { columns = f.columns; rows = without_free l.columns r l.rows f.columns g f.rows }
