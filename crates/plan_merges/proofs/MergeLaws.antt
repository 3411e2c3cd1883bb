-- A table in which each name and kind is put together says, in each variant, what it said before.
use Rattle.std.proofs.Common.{◌≡◌, ◌∙◌, ℕ, ◌==◌, Bool, true, false, ◌&&◌, List, [], ◌∷◌, ◌++◌, map, length, Option, if◌then◌else◌, refl, sym, ap, ap₂, subst, eq-eqb}
use Rattle.std.proofs.lemmas.Bool.{eqb-true}
use Rattle.std.proofs.lemmas.List.{length-map}
use Rattle.std.specs.List.{flat_map}
use Rattle.feature_expr.specs.Expressions.{and_of}
use Rattle.feature_expr.specs.Satisfaction.{satisfies}
use Rattle.values.specs.declared.column_name.ColName.{ColName}
use Rattle.values.specs.declared.value.Value.{Value}
use Rattle.plain_relation.specs.Relations.{relation_with, row_of}
use Rattle.relational_algebra.specs.Columns.{among, in_order_of, once}
use Rattle.relational_algebra.specs.Operations.{laid, relation_by}
use Rattle.row_conditions.proofs.BoolLaws.{and_false, and_first, and_second}
use Rattle.row_conditions.proofs.FoldingLaws.{and_holds}
use Rattle.plan_tables.proofs.LayLaws.{IsWithinAt, lay_fits, lay_row}
use Rattle.plan_tables.proofs.MemberLaws.{among_ordered, both, one_each, ordered_distinct}
use Rattle.plan_merges.proofs.RankLaws.{all_give, given_by, ranks_there}
use Rattle.plan_tables.proofs.RowLaws.{under_filled, under_stands, under_whole}
use Rattle.plan_tables.proofs.SettleLaws.{once_once, settled_at}
use Rattle.plan_tables.proofs.StandLaws.{Stands, answer_is, are_filled, are_whole, filled-append, standing, standing-append, stands_as, whole-append}
use Rattle.plan_merges.proofs.TakenLaws.{AllOf, TakenIfThere, all_taken, one_is, taken_columns, taken_fits, taken_once, taken_row}
use Rattle.plan_merges.specs.Merges.{all_ways, cells_taken, merged_table, ranked, repeated_names, rows_taken, taken}
use Rattle.plan_merges.specs.declared.way.Way.{Way}
use Rattle.plan_tables.specs.Tables.{columns_at, headings, is_false, settled}
use Rattle.vtable.specs.Answers.{IsAnswerAt, answer_at, column_at, fits, names_are_distinct}
use Rattle.vtable.specs.declared.table.VColumn.{VColumn}
use Rattle.vtable.specs.declared.table.VRow.{VRow}

-- a row whose columns are taken, under its own condition
abbrev row_by : List VColumn → List VColumn → List (ColName × ℕ) → VRow → VRow
row_by to columns ranks row = record { cells = cells_taken to columns ranks row.cells; cond = row.cond }

module _ (c : List ℕ) (to columns : List VColumn) where
  way_step : (way : Way) (row : VRow) (rows : List VRow) (there here : Bool) → satisfies c row.cond ≡ there → satisfies c way.cond ≡ here → standing c to (rows_taken to columns rows way) ≡ (if here then standing c to (map (row_by to columns way.ranks) rows) else []) → standing c to (rows_taken to columns (row ∷ rows) way) ≡ (if here then standing c to (map (row_by to columns way.ranks) (row ∷ rows)) else [])
  way_step way row rows there false is h rest =
      under_stands c to (cells_taken to columns way.ranks row.cells) (and_of row.cond way.cond) (rows_taken to columns rows way) false (and_holds c row.cond way.cond ∙ ap (λ b. satisfies c row.cond && b) h ∙ and_false (satisfies c row.cond))
      ∙ rest
  way_step way row rows false true is h rest =
      under_stands c to (cells_taken to columns way.ranks row.cells) (and_of row.cond way.cond) (rows_taken to columns rows way) false (and_holds c row.cond way.cond ∙ ap (λ b. b && satisfies c way.cond) is)
      ∙ rest ∙ rw is refl
  way_step way row rows true true is h rest =
      under_stands c to (cells_taken to columns way.ranks row.cells) (and_of row.cond way.cond) (rows_taken to columns rows way) true (and_holds c row.cond way.cond ∙ ap (λ b. b && satisfies c way.cond) is ∙ h)
      ∙ ap (λ xs. row_of (map (column_at c) to) (cells_taken to columns way.ranks row.cells) ∷ xs) rest ∙ rw is refl

  -- a way's rows stand where its condition holds
  way_stands : (way : Way) (rows : List VRow) (here : Bool) → satisfies c way.cond ≡ here → standing c to (rows_taken to columns rows way) ≡ (if here then standing c to (map (row_by to columns way.ranks) rows) else [])
  way_stands way [] true h = refl
  way_stands way [] false h = refl
  way_stands way (row ∷ rows) here h = way_step way row rows (satisfies c row.cond) here refl h (way_stands way rows here h)

  module _ (one : names_are_distinct (columns_at c columns) ≡ true) where
    ways_stand : (rows : List VRow) (ways : List Way) → standing c to (flat_map (rows_taken to columns rows) ways) ≡ given_by c (ranked columns) (one_is c [] columns one) (λ ranks. standing c to (map (row_by to columns ranks) rows)) ways
    ways_stand rows [] = refl
    ways_stand rows (way ∷ ways) =
        standing-append c to (rows_taken to columns rows way) (flat_map (rows_taken to columns rows) ways)
        ∙ ap₂ (λ xs ys. xs ++ ys) (way_stands way rows (satisfies c way.cond) refl) (ways_stand rows ways)

    abbrev ranks : List (ColName × ℕ)
    ranks = ranks_there c (ranked columns) (repeated_names (ranked columns))

    taken_there : AllOf (TakenIfThere c (ranked columns) ranks) (ranked columns)
    taken_there = all_taken c (ranked columns) (one_is c [] columns one)

    abbrev kept : List VColumn
    kept = taken ranks (ranked columns) columns

    kept_at : columns_at c kept ≡ columns_at c columns
    kept_at = taken_columns c ranks [] columns taken_there

    module _ (within : IsWithinAt c to columns) where
      kept_within : IsWithinAt c to kept
      kept_within = record { within = λ key h. subst (λ xs. among key xs ≡ true) (sym kept_at) (within.within key h) }

      row_laid_is : (cells : List (Option Value)) → length cells ≡ length columns → fits (map (column_at c) columns) cells ≡ true → row_of (map (column_at c) to) (cells_taken to columns ranks cells) ≡ laid (columns_at c to) (row_of (map (column_at c) columns) cells)
      row_laid_is cells long fit =
          lay_row c kept (taken ranks (ranked columns) cells) (taken_once ranks [] columns) (ap names_are_distinct kept_at ∙ one) (taken_fits c ranks [] columns cells fit taken_there) to kept_within
          ∙ ap (laid (columns_at c to)) (taken_row c ranks [] columns cells long taken_there)

      row_fits : (cells : List (Option Value)) → fits (map (column_at c) columns) cells ≡ true → fits (map (column_at c) to) (cells_taken to columns ranks cells) ≡ true
      row_fits cells fit = lay_fits c kept (taken ranks (ranked columns) cells) (taken_once ranks [] columns) (ap names_are_distinct kept_at ∙ one) (taken_fits c ranks [] columns cells fit taken_there) to kept_within

      laid_step : (row : VRow) (rows : List VRow) (there : Bool) → satisfies c row.cond ≡ there → length row.cells ≡ length columns → are_filled c columns (row ∷ rows) ≡ true → (are_filled c columns rows ≡ true → standing c to (map (row_by to columns ranks) rows) ≡ map (laid (columns_at c to)) (standing c columns rows)) → standing c to (map (row_by to columns ranks) (row ∷ rows)) ≡ map (laid (columns_at c to)) (standing c columns (row ∷ rows))
      laid_step row rows true is long filled rest =
          let parts = rw is at filled in
          rw is (ap₂ (λ x xs. x ∷ xs) (row_laid_is row.cells long (and_first _ _ parts)) (rest (and_second (fits (map (column_at c) columns) row.cells) _ parts)))
      laid_step row rows false is long filled rest = rw is (rest (rw is at filled))

      all_laid : (rows : List VRow) → are_whole (length columns) rows ≡ true → are_filled c columns rows ≡ true → standing c to (map (row_by to columns ranks) rows) ≡ map (laid (columns_at c to)) (standing c columns rows)
      all_laid [] whole filled = refl
      all_laid (row ∷ rows) whole filled =
          laid_step row rows (satisfies c row.cond) refl (eqb-true (length row.cells) (length columns) (and_first _ _ whole)) filled
          (all_laid rows (and_second (length row.cells == length columns) _ whole))

      filled_step : (row : VRow) (rows : List VRow) (there : Bool) → satisfies c row.cond ≡ there → are_filled c columns (row ∷ rows) ≡ true → (are_filled c columns rows ≡ true → are_filled c to (map (row_by to columns ranks) rows) ≡ true) → are_filled c to (map (row_by to columns ranks) (row ∷ rows)) ≡ true
      filled_step row rows true is filled rest =
          let parts = rw is at filled in
          rw is (both _ _ (row_fits row.cells (and_first _ _ parts)) (rest (and_second (fits (map (column_at c) columns) row.cells) _ parts)))
      filled_step row rows false is filled rest = rw is (rest (rw is at filled))

      all_filled : (rows : List VRow) → are_filled c columns rows ≡ true → are_filled c to (map (row_by to columns ranks) rows) ≡ true
      all_filled [] filled = refl
      all_filled (row ∷ rows) filled = filled_step row rows (satisfies c row.cond) refl filled (all_filled rows)

      -- the rows in the order of the other columns
      pub taken_standing : (rows : List VRow) → are_whole (length columns) rows ≡ true → are_filled c columns rows ≡ true → standing c to (flat_map (rows_taken to columns rows) (all_ways (repeated_names (ranked columns)) (ranked columns))) ≡ map (laid (columns_at c to)) (standing c columns rows)
      taken_standing rows whole filled =
          ways_stand rows (all_ways (repeated_names (ranked columns)) (ranked columns))
          ∙ all_give c (ranked columns) (one_is c [] columns one) (λ ranks. standing c to (map (row_by to columns ranks) rows)) (repeated_names (ranked columns))
          ∙ all_laid rows whole filled

      -- ---- each row that is there is filled

      -- one mark for a way whose rows aren't
      abbrev unfilled : List VRow → List (ColName × ℕ) → List ℕ
      unfilled rows ranks = if are_filled c to (map (row_by to columns ranks) rows) then [] else 0 ∷ []

      filled_by : (row_in : VRow) (ranks : List (ColName × ℕ)) (rows : List VRow) (there : Bool) → satisfies c row_in.cond ≡ there → are_filled c to (map (row_by to columns ranks) (row_in ∷ rows)) ≡ true → are_filled c to (map (row_by to columns ranks) rows) ≡ true
      filled_by row_in ranks rows true is h = and_second (fits (map (column_at c) to) (cells_taken to columns ranks row_in.cells)) _ (rw is at h)
      filled_by row_in ranks rows false is h = rw is at h

      first_by : (row_in : VRow) (ranks : List (ColName × ℕ)) (rows : List VRow) → satisfies c row_in.cond ≡ true → are_filled c to (map (row_by to columns ranks) (row_in ∷ rows)) ≡ true → fits (map (column_at c) to) (cells_taken to columns ranks row_in.cells) ≡ true
      first_by row_in ranks rows is h = and_first _ _ (rw is at h)

      way_filled : (way : Way) (rows : List VRow) → (satisfies c way.cond ≡ true → are_filled c to (map (row_by to columns way.ranks) rows) ≡ true) → are_filled c to (rows_taken to columns rows way) ≡ true
      way_filled way [] f = refl
      way_filled way (row ∷ rows) f =
          under_filled c to (cells_taken to columns way.ranks row.cells) (and_of row.cond way.cond) (rows_taken to columns rows way)
          (λ h.
          let parts : (satisfies c row.cond && satisfies c way.cond) ≡ true = sym (and_holds c row.cond way.cond) ∙ h in
          first_by row way.ranks rows (and_first _ _ parts) (f (and_second (satisfies c row.cond) _ parts)))
          (way_filled way rows (λ h. filled_by row way.ranks rows (satisfies c row.cond) refl (f h)))

      none_left : (xs ys : List ℕ) → xs ++ ys ≡ [] → (xs ≡ []) × (ys ≡ [])
      none_left [] ys h = (refl, h)
      none_left (x ∷ xs) ys h = absurd (cc h)

      marked : (rows : List VRow) (way : Way) (filled : Bool) → are_filled c to (map (row_by to columns way.ranks) rows) ≡ filled → (if satisfies c way.cond then unfilled rows way.ranks else []) ≡ [] → satisfies c way.cond ≡ true → are_filled c to (map (row_by to columns way.ranks) rows) ≡ true
      marked rows way true is h k = is
      marked rows way false is h k = absurd (cc (rw (k, is) at h))

      ways_filled : (rows : List VRow) (ways : List Way) → given_by c (ranked columns) (one_is c [] columns one) (unfilled rows) ways ≡ [] → are_filled c to (flat_map (rows_taken to columns rows) ways) ≡ true
      ways_filled rows [] h = refl
      ways_filled rows (way ∷ ways) h =
          let parts = none_left (if satisfies c way.cond then unfilled rows way.ranks else []) (given_by c (ranked columns) (one_is c [] columns one) (unfilled rows) ways) h in
          filled-append c to (rows_taken to columns rows way) (flat_map (rows_taken to columns rows) ways)
          (way_filled way rows (marked rows way (are_filled c to (map (row_by to columns way.ranks) rows)) refl parts.0))
          (ways_filled rows ways parts.1)

      pub taken_filled : (rows : List VRow) → are_filled c columns rows ≡ true → are_filled c to (flat_map (rows_taken to columns rows) (all_ways (repeated_names (ranked columns)) (ranked columns))) ≡ true
      taken_filled rows filled =
          ways_filled rows (all_ways (repeated_names (ranked columns)) (ranked columns)) (
          all_give c (ranked columns) (one_is c [] columns one) (unfilled rows) (repeated_names (ranked columns))
          ∙ ap (λ (b : Bool). if b then [] else 0 ∷ []) (all_filled rows filled)
          )

way_whole : (to columns : List VColumn) (way : Way) (rows : List VRow) → are_whole (length to) (rows_taken to columns rows way) ≡ true
way_whole to columns way [] = refl
way_whole to columns way (row ∷ rows) =
    under_whole (length to) (cells_taken to columns way.ranks row.cells) (and_of row.cond way.cond) (rows_taken to columns rows way) (is_false (and_of row.cond way.cond)) refl
    (eq-eqb _ _ (length-map to _))
    (way_whole to columns way rows)

pub taken_whole : (to columns : List VColumn) (rows : List VRow) (ways : List Way) → are_whole (length to) (flat_map (rows_taken to columns rows) ways) ≡ true
taken_whole to columns rows [] = refl
taken_whole to columns rows (way ∷ ways) = whole-append (length to) (rows_taken to columns rows way) (flat_map (rows_taken to columns rows) ways) (way_whole to columns way rows) (taken_whole to columns rows ways)

module _ (c : List ℕ) (columns : List VColumn) (rows : List VRow) (it : Stands c columns rows) where
  abbrev to : List VColumn
  to = settled columns

  within : IsWithinAt c to columns
  within = record { within = λ key h. among_ordered key (once (headings columns)) (columns_at c columns) (subst (λ xs. among key xs ≡ true) (settled_at c columns) h) }

  pub merge_answers : answer_at c (merged_table (record { columns = columns; rows = rows })) ≡ relation_by (in_order_of (once (headings columns)) (columns_at c columns)) (standing c columns rows)
  merge_answers =
      answer_is c to (flat_map (rows_taken to columns rows) (all_ways (repeated_names (ranked columns)) (ranked columns)))
      ∙ ap (relation_with (columns_at c to)) (taken_standing c to columns it.distinct within rows it.whole it.filled)
      ∙ ap (λ k. relation_with k (map (laid k) (standing c columns rows))) (settled_at c columns)

  pub merge_formed : IsAnswerAt c (merged_table (record { columns = columns; rows = rows }))
  merge_formed = stands_as c (merged_table (record { columns = columns; rows = rows })) (record {
    distinct = ap names_are_distinct (settled_at c columns) ∙ ordered_distinct (once (headings columns)) (columns_at c columns) (once_once (headings columns)) (one_each (columns_at c columns) it.distinct);
    whole = taken_whole to columns rows (all_ways (repeated_names (ranked columns)) (ranked columns));
    filled = taken_filled c to columns it.distinct within rows it.filled;
  })
