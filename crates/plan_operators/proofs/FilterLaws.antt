-- The rows of which a condition is true.
use Rattle.std.proofs.Common.{◌≡◌, ◌∙◌, ℕ, ◌==◌, Bool, true, false, ◌&&◌, List, [], ◌∷◌, map, filter, length, Option, if◌then◌else◌, refl, sym, ap, ap₂}
use Rattle.feature_expr.specs.Expressions.{and_of}
use Rattle.feature_expr.specs.Satisfaction.{satisfies}
use Rattle.values.specs.declared.value.Value.{Value}
use Rattle.plain_relation.specs.Relations.{Cell, Column, relation_with, row_of}
use Rattle.relational_algebra.specs.Conditions.{holds}
use Rattle.relational_algebra.specs.Operations.{filtered}
use Rattle.row_conditions.proofs.BoolLaws.{and_first, and_second}
use Rattle.row_conditions.proofs.FoldingLaws.{and_holds}
use Rattle.row_conditions.proofs.SlotLaws.{row_is}
use Rattle.row_conditions.proofs.TruthLaws.{truth_holds}
use Rattle.row_conditions.specs.RowConditions.{cells_are_distinct}
use Rattle.row_conditions.specs.Truths.{slots_of, truth_of}
use Rattle.plan_tables.proofs.RowLaws.{cells_distinct, under_filled, under_stands, under_whole}
use Rattle.plan_tables.proofs.StandLaws.{answer_is, answer_of, are_filled, are_whole, standing, stands_as, stands_from}
use Rattle.plan_operators.specs.Operators.{filtered_table, rows_meeting}
use Rattle.plan_tables.specs.Tables.{columns_at, is_false}
use Rattle.vra_syntax.specs.declared.cond.Cond.{Cond}
use Rattle.vtable.specs.Answers.{IsAnswerAt, answer_at, column_at, fits, names_are_distinct}
use Rattle.vtable.specs.declared.table.VColumn.{VColumn}
use Rattle.vtable.specs.declared.table.VRow.{VRow}
use Rattle.vtable.specs.declared.table.VTable.{VTable}

module _ (c : List ℕ) (cond : Cond) (columns : List VColumn) where
  -- the condition's truth of one row
  pub row_truth : (cells : List (Option Value)) → names_are_distinct (columns_at c columns) ≡ true → satisfies c (truth_of (slots_of columns cells) cond) ≡ holds c cond (row_of (map (column_at c) columns) cells)
  row_truth cells distinct =
      truth_holds c (slots_of columns cells) (ap cells_are_distinct (sym (row_is c columns cells)) ∙ cells_distinct (map (column_at c) columns) cells distinct) cond
      ∙ ap (holds c cond) (sym (row_is c columns cells))

  module _ (distinct : names_are_distinct (columns_at c columns) ≡ true) where
    meeting_step : (row : VRow) (rows : List VRow) (there met : Bool) → satisfies c row.cond ≡ there → holds c cond (row_of (map (column_at c) columns) row.cells) ≡ met → standing c columns (rows_meeting cond columns rows) ≡ filter (holds c cond) (standing c columns rows) → standing c columns (rows_meeting cond columns (row ∷ rows)) ≡ filter (holds c cond) (standing c columns (row ∷ rows))
    meeting_step row rows there met is h rest =
        under_stands c columns row.cells (and_of row.cond (truth_of (slots_of columns row.cells) cond)) (rows_meeting cond columns rows) (there && met)
        (and_holds c row.cond (truth_of (slots_of columns row.cells) cond) ∙ ap₂ (λ x y. x && y) is (row_truth row.cells distinct ∙ h))
        ∙ both_ways there met is h rest
      where
        both_ways : (there met : Bool) → satisfies c row.cond ≡ there → holds c cond (row_of (map (column_at c) columns) row.cells) ≡ met → standing c columns (rows_meeting cond columns rows) ≡ filter (holds c cond) (standing c columns rows) → (if (there && met) then row_of (map (column_at c) columns) row.cells ∷ standing c columns (rows_meeting cond columns rows) else standing c columns (rows_meeting cond columns rows)) ≡ filter (holds c cond) (standing c columns (row ∷ rows))
        both_ways false met is h rest = rw is rest
        both_ways true true is h rest = rw (is, h) (ap (λ xs. row_of (map (column_at c) columns) row.cells ∷ xs) rest)
        both_ways true false is h rest = rw (is, h) rest

    pub meeting_standing : (rows : List VRow) → standing c columns (rows_meeting cond columns rows) ≡ filter (holds c cond) (standing c columns rows)
    meeting_standing [] = refl
    meeting_standing (row ∷ rows) = meeting_step row rows (satisfies c row.cond) (holds c cond (row_of (map (column_at c) columns) row.cells)) refl refl (meeting_standing rows)

  filled_first : (row : VRow) (rows : List VRow) → satisfies c row.cond ≡ true → are_filled c columns (row ∷ rows) ≡ true → fits (map (column_at c) columns) row.cells ≡ true
  filled_first row rows is h = and_first _ _ (rw is at h)

  filled_rest : (row : VRow) (rows : List VRow) (there : Bool) → satisfies c row.cond ≡ there → are_filled c columns (row ∷ rows) ≡ true → are_filled c columns rows ≡ true
  filled_rest row rows true is h = and_second (fits (map (column_at c) columns) row.cells) _ (rw is at h)
  filled_rest row rows false is h = rw is at h

  pub meeting_filled : (rows : List VRow) → are_filled c columns rows ≡ true → are_filled c columns (rows_meeting cond columns rows) ≡ true
  meeting_filled [] h = refl
  meeting_filled (row ∷ rows) h =
      under_filled c columns row.cells (and_of row.cond (truth_of (slots_of columns row.cells) cond)) (rows_meeting cond columns rows)
      (λ t. filled_first row rows (and_first _ _ (sym (and_holds c row.cond (truth_of (slots_of columns row.cells) cond)) ∙ t)) h)
      (meeting_filled rows (filled_rest row rows (satisfies c row.cond) refl h))

pub meeting_whole : (cond : Cond) (columns : List VColumn) (width : ℕ) (rows : List VRow) → are_whole width rows ≡ true → are_whole width (rows_meeting cond columns rows) ≡ true
meeting_whole cond columns width [] h = refl
meeting_whole cond columns width (row ∷ rows) h =
    under_whole width row.cells (and_of row.cond (truth_of (slots_of columns row.cells) cond)) (rows_meeting cond columns rows) (is_false (and_of row.cond (truth_of (slots_of columns row.cells) cond))) refl
    (and_first _ _ h)
    (meeting_whole cond columns width rows (and_second (length row.cells == width) _ h))

with_filtered : (h : List Cell → Bool) (columns : List Column) (rows : List (List Cell)) → relation_with columns (filter h rows) ≡ relation_with (relation_with columns rows).columns (filter h (relation_with columns rows).rows)
with_filtered h [] rows = refl
with_filtered h (k ∷ ks) rows = refl

pub filter_answers : (c : List ℕ) (cond : Cond) (table : VTable) → IsAnswerAt c table → answer_at c (filtered_table cond table) ≡ filtered c cond (answer_at c table)
filter_answers c cond table it =
    answer_is c table.columns (rows_meeting cond table.columns table.rows)
    ∙ ap (relation_with (columns_at c table.columns)) (meeting_standing c cond table.columns it.distinct table.rows)
    ∙ with_filtered (holds c cond) (columns_at c table.columns) (standing c table.columns table.rows)
    ∙ ap (filtered c cond) (sym (answer_of c table))

pub filter_formed : (c : List ℕ) (cond : Cond) (table : VTable) → IsAnswerAt c table → IsAnswerAt c (filtered_table cond table)
filter_formed c cond table it =
    let s = stands_from c table it in
    stands_as c (filtered_table cond table) (record {
      distinct = s.distinct;
      whole = meeting_whole cond table.columns (length table.columns) table.rows s.whole;
      filled = meeting_filled c cond table.columns table.rows s.filled;
    })
