-- Columns and cells under the prefix of an alias.
use Rattle.std.proofs.Common.{◌≡◌, ◌∙◌, ℕ, Bool, true, false, ◌&&◌, List, [], ◌∷◌, map, Option, Some, None, refl, sym, ap, ap₂}
use Rattle.std.proofs.lemmas.List.{length-map}
use Rattle.feature_expr.specs.Satisfaction.{satisfies}
use Rattle.values.specs.declared.value.Value.{Value}
use Rattle.plain_relation.specs.Relations.{Cell, Column, relation_with, row_of}
use Rattle.relational_algebra.specs.Columns.{aliased, in_order_of, once, prefixed}
use Rattle.relational_algebra.specs.Operations.{aliased_relation, aliased_row, relation_by}
use Rattle.plan_merges.proofs.MergeLaws.{merge_answers, merge_formed}
use Rattle.plan_tables.proofs.StandLaws.{Stands, answer_of, are_filled, are_whole, standing, stands_from}
use Rattle.plan_merges.proofs.WideLaws.{by_none}
use Rattle.plan_merges.specs.Merges.{aliased_column, aliased_table}
use Rattle.plan_tables.specs.Tables.{heading, columns_at, headings}
use Rattle.vtable.specs.Answers.{IsAnswerAt, answer_at, column_at, fits, names_are_distinct}
use Rattle.vtable.specs.declared.table.VColumn.{VColumn}
use Rattle.vtable.specs.declared.table.VRow.{VRow}
use Rattle.vtable.specs.declared.table.VTable.{VTable}

pub alias_headings : (alias : List ℕ) (ks : List VColumn) → headings (map (aliased_column alias) ks) ≡ aliased alias (headings ks)
alias_headings alias [] = refl
alias_headings alias (k ∷ ks) = ap (λ xs. heading (aliased_column alias k) ∷ xs) (alias_headings alias ks)

module _ (c : List ℕ) (alias : List ℕ) where
  columns_step : (k : VColumn) (ks : List VColumn) (there : Bool) → satisfies c k.cond ≡ there → columns_at c (map (aliased_column alias) ks) ≡ aliased alias (columns_at c ks) → columns_at c (map (aliased_column alias) (k ∷ ks)) ≡ aliased alias (columns_at c (k ∷ ks))
  columns_step k ks true t rest = rw t (ap (λ xs. heading (aliased_column alias k) ∷ xs) rest)
  columns_step k ks false t rest = rw t rest

  pub alias_columns : (ks : List VColumn) → columns_at c (map (aliased_column alias) ks) ≡ aliased alias (columns_at c ks)
  alias_columns [] = refl
  alias_columns (k ∷ ks) = columns_step k ks (satisfies c k.cond) refl (alias_columns ks)

  row_step : (k : VColumn) (ks : List VColumn) (x : Option Value) (xs : List (Option Value)) (there : Bool) → satisfies c k.cond ≡ there → row_of (map (column_at c) (map (aliased_column alias) ks)) xs ≡ aliased_row alias (row_of (map (column_at c) ks) xs) → row_of (map (column_at c) (map (aliased_column alias) (k ∷ ks))) (x ∷ xs) ≡ aliased_row alias (row_of (map (column_at c) (k ∷ ks)) (x ∷ xs))
  row_step k ks None xs true t rest = rw t rest
  row_step k ks (Some v) xs true t rest = rw t (ap (λ row. record { name = prefixed alias k.name; value = v } ∷ row) rest)
  row_step k ks None xs false t rest = rw t rest
  row_step k ks (Some v) xs false t rest = rw t rest

  alias_row : (ks : List VColumn) (xs : List (Option Value)) → row_of (map (column_at c) (map (aliased_column alias) ks)) xs ≡ aliased_row alias (row_of (map (column_at c) ks) xs)
  alias_row [] xs = refl
  alias_row (k ∷ ks) [] = refl
  alias_row (k ∷ ks) (x ∷ xs) = row_step k ks x xs (satisfies c k.cond) refl (alias_row ks xs)

  fits_step : (k : VColumn) (ks : List VColumn) (x : Option Value) (xs : List (Option Value)) (there : Bool) → satisfies c k.cond ≡ there → fits (map (column_at c) (map (aliased_column alias) ks)) xs ≡ fits (map (column_at c) ks) xs → fits (map (column_at c) (map (aliased_column alias) (k ∷ ks))) (x ∷ xs) ≡ fits (map (column_at c) (k ∷ ks)) (x ∷ xs)
  fits_step k ks None xs true t rest = rw t refl
  fits_step k ks (Some v) xs true t rest = rw (t, rest) refl
  fits_step k ks x xs false t rest = rw t rest

  alias_fits : (ks : List VColumn) (xs : List (Option Value)) → fits (map (column_at c) (map (aliased_column alias) ks)) xs ≡ fits (map (column_at c) ks) xs
  alias_fits [] xs = refl
  alias_fits (k ∷ ks) [] = none (satisfies c k.cond) refl
    where
      none : (there : Bool) → satisfies c k.cond ≡ there → fits (map (column_at c) (map (aliased_column alias) (k ∷ ks))) [] ≡ fits (map (column_at c) (k ∷ ks)) []
      none true t = rw t refl
      none false t = rw t refl
  alias_fits (k ∷ ks) (x ∷ xs) = fits_step k ks x xs (satisfies c k.cond) refl (alias_fits ks xs)

  module _ (columns : List VColumn) where
    stand_step : (row : VRow) (rows : List VRow) (there : Bool) → satisfies c row.cond ≡ there → standing c (map (aliased_column alias) columns) rows ≡ map (aliased_row alias) (standing c columns rows) → standing c (map (aliased_column alias) columns) (row ∷ rows) ≡ map (aliased_row alias) (standing c columns (row ∷ rows))
    stand_step row rows true t rest = rw t (ap₂ (λ x xs. x ∷ xs) (alias_row columns row.cells) rest)
    stand_step row rows false t rest = rw t rest

    alias_standing : (rows : List VRow) → standing c (map (aliased_column alias) columns) rows ≡ map (aliased_row alias) (standing c columns rows)
    alias_standing [] = refl
    alias_standing (row ∷ rows) = stand_step row rows (satisfies c row.cond) refl (alias_standing rows)

    filled_step : (row : VRow) (rows : List VRow) (there : Bool) → satisfies c row.cond ≡ there → are_filled c (map (aliased_column alias) columns) rows ≡ are_filled c columns rows → are_filled c (map (aliased_column alias) columns) (row ∷ rows) ≡ are_filled c columns (row ∷ rows)
    filled_step row rows true t rest = rw t (ap₂ (λ x y. x && y) (alias_fits columns row.cells) rest)
    filled_step row rows false t rest = rw t rest

    alias_filled : (rows : List VRow) → are_filled c (map (aliased_column alias) columns) rows ≡ are_filled c columns rows
    alias_filled [] = refl
    alias_filled (row ∷ rows) = filled_step row rows (satisfies c row.cond) refl (alias_filled rows)

  alias_case : (order L W : List Column) (LR S : List (List Cell)) → W ≡ aliased alias L → S ≡ map (aliased_row alias) LR → relation_by (in_order_of order W) S ≡ aliased_relation order alias (relation_with L LR)
  alias_case order [] W LR S w s = by_none order W S (map (aliased_row alias) []) w
  alias_case order (k ∷ ks) W LR S w s = ap₂ (λ x y. relation_by (in_order_of order x) y) w s

  module _ (table : VTable) (answer : IsAnswerAt c table) (distinct : names_are_distinct (aliased alias (columns_at c table.columns)) ≡ true) where
    stands : Stands c (map (aliased_column alias) table.columns) table.rows
    stands =
        let s = stands_from c table answer in
        record {
          distinct = ap names_are_distinct (alias_columns table.columns) ∙ distinct;
          whole = ap (λ n. are_whole n table.rows) (length-map table.columns (aliased_column alias)) ∙ s.whole;
          filled = alias_filled table.columns table.rows ∙ s.filled;
        }

    pub alias_answers : answer_at c (aliased_table alias table) ≡ aliased_relation (once (aliased alias (headings table.columns))) alias (answer_at c table)
    alias_answers =
        merge_answers c (map (aliased_column alias) table.columns) table.rows stands
        ∙ ap (λ order. relation_by (in_order_of (once order) (columns_at c (map (aliased_column alias) table.columns))) (standing c (map (aliased_column alias) table.columns) table.rows)) (alias_headings alias table.columns)
        ∙ alias_case (once (aliased alias (headings table.columns))) (columns_at c table.columns) (columns_at c (map (aliased_column alias) table.columns)) (standing c table.columns table.rows) (standing c (map (aliased_column alias) table.columns) table.rows) (alias_columns table.columns) (alias_standing table.columns table.rows)
        ∙ ap (aliased_relation (once (aliased alias (headings table.columns))) alias) (sym (answer_of c table))

    pub alias_formed : IsAnswerAt c (aliased_table alias table)
    alias_formed = merge_formed c (map (aliased_column alias) table.columns) table.rows stands
