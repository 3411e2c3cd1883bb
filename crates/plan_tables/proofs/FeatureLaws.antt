-- A feature that the parts don't have stands in nothing that is made of them.
use Rattle.std.proofs.Common.{◌≡◌, ◌∙◌, ℕ, Bool, true, false, ◌||◌, List, [], ◌∷◌, ◌++◌, fold, Option, refl, sym, true≢false}
use Rattle.std.proofs.lemmas.List.Folds.{list_any-append}
use Rattle.std.specs.List.{cons_option, list_any}
use Rattle.feature_expr.specs.Expressions.{and_of, mentions, not_of, or_of}
use Rattle.feature_expr.specs.declared.expr.Expr.{Expr}
use Rattle.feature_expr.specs.declared.expr.Expr as e
use Rattle.values.specs.declared.value.Value.{Value}
use Rattle.plain_relation.specs.Relations.{Column}
use Rattle.relational_algebra.specs.Columns.{among, same_column}
use Rattle.relational_algebra.specs.Mentions.{cond_mentions}
use Rattle.row_conditions.proofs.BoolLaws.{neither}
use Rattle.row_conditions.proofs.FoldingLaws.{and_mentions, mentions_False, not_mentions, or_mentions}
use Rattle.row_conditions.proofs.TruthFeatures.{slots_known, slots_mention, truth_mentions}
use Rattle.row_conditions.specs.Truths.{Slot, slots_of, truth_of}
use Rattle.plan_tables.specs.StoredRows.{column_mentions, row_mentions}
use Rattle.plan_tables.proofs.OnceLaws.{and_once_lacks}
use Rattle.plan_tables.specs.Tables.{heading, and_once, any_of, columns_under, headings, is_false, is_within, laid_cells, or_once, row_under, rows_laid, settled, settled_column, with_column_cond, with_settled}
use Rattle.vra_syntax.specs.declared.cond.Cond.{Cond}
use Rattle.vtable.specs.declared.table.VColumn.{VColumn}
use Rattle.vtable.specs.declared.table.VRow.{VRow}
use Rattle.vtable.specs.declared.table.VTable.{VTable}

-- what isn't true is false
pub unless : (b : Bool) → (b ≡ true → ⊥) → b ≡ false
unless true f = absurd (f refl)
unless false f = refl

pub none : (a b : Bool) → a ≡ false → b ≡ false → (a || b) ≡ false
none true b h k = absurd (true≢false h)
none false b h k = k

module _ (i : ℕ) where
  abbrev pub IsFree : Expr → Type 0
  IsFree expr = mentions i expr ≡ false

  pub and_free : (l r : Expr) → IsFree l → IsFree r → IsFree (and_of l r)
  and_free l r h k = unless _ (λ m. true≢false (sym (and_mentions i l r m) ∙ none _ _ h k))

  pub or_free : (l r : Expr) → IsFree l → IsFree r → IsFree (or_of l r)
  or_free l r h k = unless _ (λ m. true≢false (sym (or_mentions i l r m) ∙ none _ _ h k))

  pub not_free : (l : Expr) → IsFree l → IsFree (not_of l)
  not_free l h = unless _ (λ m. true≢false (sym (not_mentions i l m) ∙ h))

  once_by : (l r : Expr) (first second : Bool) → is_within l r ≡ first → is_within r l ≡ second → IsFree l → IsFree r → IsFree (or_once l r)
  once_by l r true second is is_second h k = rw is h
  once_by l r false true is is_second h k = rw (is, is_second) k
  once_by l r false false is is_second h k = rw (is, is_second) (or_free l r h k)

  pub once_free : (l r : Expr) → IsFree l → IsFree r → IsFree (or_once l r)
  once_free l r h k = once_by l r (is_within l r) (is_within r l) refl refl h k

  abbrev pub AreFree : List VColumn → Type 0
  AreFree columns = list_any (column_mentions i) columns ≡ false

  abbrev pub RowsFree : List VRow → Type 0
  RowsFree rows = list_any (row_mentions i) rows ≡ false

  pub first_free : (k : VColumn) (ks : List VColumn) → AreFree (k ∷ ks) → IsFree k.cond
  first_free k ks h = (neither (column_mentions i k) (list_any (column_mentions i) ks) h).0

  pub rest_free : (k : VColumn) (ks : List VColumn) → AreFree (k ∷ ks) → AreFree ks
  rest_free k ks h = (neither (column_mentions i k) (list_any (column_mentions i) ks) h).1

  pub row_free : (row : VRow) (rows : List VRow) → RowsFree (row ∷ rows) → IsFree row.cond
  row_free row rows h = (neither (row_mentions i row) (list_any (row_mentions i) rows) h).0

  pub rows_rest : (row : VRow) (rows : List VRow) → RowsFree (row ∷ rows) → RowsFree rows
  rows_rest row rows h = (neither (row_mentions i row) (list_any (row_mentions i) rows) h).1

  pub columns_append : (xs ys : List VColumn) → AreFree xs → AreFree ys → AreFree (xs ++ ys)
  columns_append xs ys h k = list_any-append (column_mentions i) xs ys ∙ none _ _ h k

  pub rows_append : (xs ys : List VRow) → RowsFree xs → RowsFree ys → RowsFree (xs ++ ys)
  rows_append xs ys h k = list_any-append (row_mentions i) xs ys ∙ none _ _ h k

  pub slots_free : (columns : List VColumn) (cells : List (Option Value)) → AreFree columns → slots_mention i (slots_of columns cells) ≡ false
  slots_free columns cells h = unless _ (λ m. true≢false (sym (slots_known i columns cells m) ∙ h))

  pub truth_free : (cond : Cond) (slots : List Slot) → cond_mentions i cond ≡ false → slots_mention i slots ≡ false → IsFree (truth_of slots cond)
  truth_free cond slots h k = unless _ (λ m. true≢false (sym (truth_mentions i slots cond m) ∙ none _ _ h k))

  under_by : (cells : List (Option Value)) (cond : Expr) (rows : List VRow) (nowhere : Bool) → is_false cond ≡ nowhere → IsFree cond → RowsFree rows → RowsFree (cons_option (row_under cells cond) rows)
  under_by cells cond rows true is h k = rw is k
  under_by cells cond rows false is h k = rw is (none _ _ h k)

  pub under_free : (cells : List (Option Value)) (cond : Expr) (rows : List VRow) → IsFree cond → RowsFree rows → RowsFree (cons_option (row_under cells cond) rows)
  under_free cells cond rows h k = under_by cells cond rows (is_false cond) refl h k

  -- ---- columns put together

  cond_step : (key : Column) (out : Expr) (x : VColumn) (same : Bool) → same_column key (heading x) ≡ same → IsFree out → IsFree x.cond → IsFree (with_column_cond key out x)
  cond_step key out x true is h k = rw is (once_free out x.cond h k)
  cond_step key out x false is h k = rw is h

  cond_from : (key : Column) (out : Expr) (xs : List VColumn) → IsFree out → AreFree xs → IsFree (fold (with_column_cond key) out xs)
  cond_from key out [] h k = h
  cond_from key out (x ∷ xs) h k = cond_from key (with_column_cond key out x) xs (cond_step key out x (same_column key (heading x)) refl h (first_free x xs k)) (rest_free x xs k)

  settle_step : (all out : List VColumn) (x : VColumn) (has : Bool) → among (heading x) (headings out) ≡ has → AreFree all → AreFree out → AreFree (with_settled all out x)
  settle_step all out x true is h k = rw is k
  settle_step all out x false is h k = rw is (columns_append out (settled_column all x ∷ []) k (none _ _ (cond_from (heading x) e.False all (mentions_False i) h) refl))

  settle_from : (all out xs : List VColumn) → AreFree all → AreFree out → AreFree (fold (with_settled all) out xs)
  settle_from all out [] h k = k
  settle_from all out (x ∷ xs) h k = settle_from all (with_settled all out x) xs h (settle_step all out x (among (heading x) (headings out)) refl h k)

  pub settled_free : (all : List VColumn) → AreFree all → AreFree (settled all)
  settled_free all h = settle_from all [] all h refl

  any_from : (out : Expr) (xs : List VColumn) → IsFree out → AreFree xs → IsFree (fold (λ out (column : VColumn). or_once out column.cond) out xs)
  any_from out [] h k = h
  any_from out (x ∷ xs) h k = any_from (or_once out x.cond) xs (once_free out x.cond h (first_free x xs k)) (rest_free x xs k)

  pub any_free : (xs : List VColumn) → AreFree xs → IsFree (any_of xs)
  any_free xs h = any_from e.False xs (mentions_False i) h

  once_and_free : (l r : Expr) → IsFree l → IsFree r → IsFree (and_once l r)
  once_and_free l r h k = and_once_lacks l r i (and_free l r h k) h

  pub columns_under_free : (cond : Expr) (xs : List VColumn) → IsFree cond → AreFree xs → AreFree (columns_under cond xs)
  columns_under_free cond [] h k = refl
  columns_under_free cond (x ∷ xs) h k = none _ _ (once_and_free x.cond cond (first_free x xs k) h) (columns_under_free cond xs h (rest_free x xs k))

  pub laid_free : (to columns : List VColumn) (cond : Expr) (rows : List VRow) → IsFree cond → RowsFree rows → RowsFree (rows_laid to columns cond rows)
  laid_free to columns cond [] h r = refl
  laid_free to columns cond (row ∷ rows) h r =
      under_free (laid_cells to (slots_of columns row.cells)) (and_once row.cond cond) (rows_laid to columns cond rows)
      (once_and_free row.cond cond (row_free row rows r) h)
      (laid_free to columns cond rows h (rows_rest row rows r))

  -- ---- tables

  pub record TableFree (table : VTable) : Type 0 where
    pub columns : AreFree table.columns
    pub rows : RowsFree table.rows
