-- The pairs of rows of which a condition is true.
use Rattle.std.proofs.Common.{◌≡◌, ◌∙◌, ℕ, ◌+◌, ◌==◌, Bool, true, false, ◌&&◌, List, [], ◌∷◌, ◌++◌, map, filter, length, length-append, Option, Some, None, if◌then◌else◌, refl, sym, ap, ap₂, subst, arith, eq-eqb}
use Rattle.std.proofs.lemmas.Bool.{eqb-true}
use Rattle.std.proofs.lemmas.List.{length-map, map-append}
use Rattle.std.proofs.lemmas.List.Elements.{filter-append}
use Rattle.std.specs.List.{filter_map, flat_map}
use Rattle.feature_expr.specs.Expressions.{and_of}
use Rattle.feature_expr.specs.Satisfaction.{satisfies}
use Rattle.feature_expr.specs.declared.expr.Expr.{Expr}
use Rattle.values.specs.declared.value.Value.{Value}
use Rattle.plain_relation.specs.Relations.{Cell, Column, columns_of, relation_with, row_of}
use Rattle.relational_algebra.specs.Columns.{both_sides, in_order_of, merged, once}
use Rattle.relational_algebra.specs.Conditions.{holds}
use Rattle.relational_algebra.specs.Operations.{joined, pairs, relation_by}
use Rattle.row_conditions.proofs.BoolLaws.{and_first, and_second}
use Rattle.row_conditions.proofs.FoldingLaws.{and_holds}
use Rattle.row_conditions.proofs.SlotLaws.{row_is, slots_row-append}
use Rattle.row_conditions.proofs.TruthLaws.{truth_holds}
use Rattle.row_conditions.specs.RowConditions.{cells_are_distinct}
use Rattle.row_conditions.specs.Truths.{slots_of, truth_of}
use Rattle.plan_tables.proofs.OnceLaws.{and_once_holds}
use Rattle.plan_tables.proofs.SettleLaws.{headings_under, any_holds, is_some_column, under_is}
use Rattle.plan_merges.proofs.MergeLaws.{merge_answers, merge_formed}
use Rattle.plan_tables.proofs.RowLaws.{cells_distinct, under_filled, under_stands, under_whole}
use Rattle.plan_tables.proofs.StandLaws.{Stands, answer_of, are_filled, are_whole, columns_at-append, filled-append, standing, standing-append, stands_from, whole-append}
use Rattle.plan_merges.proofs.WideLaws.{by_none, empty_filled, fits-append, row_of-append}
use Rattle.plan_merges.specs.Merges.{joined_table, pair_meeting, pairs_of_row}
use Rattle.plan_tables.specs.Tables.{heading, any_of, column_under, columns_at, columns_under, headings, is_false}
use Rattle.vra_syntax.specs.declared.cond.Cond.{Cond}
use Rattle.vtable.specs.Answers.{IsAnswerAt, answer_at, column_at, fits, names_are_distinct}
use Rattle.vtable.specs.declared.table.VColumn.{VColumn}
use Rattle.vtable.specs.declared.table.VRow.{VRow}
use Rattle.vtable.specs.declared.table.VTable.{VTable}

length_under : (cond : Expr) (ks : List VColumn) → length (columns_under cond ks) ≡ length ks
length_under cond ks = length-map ks (column_under cond)

one_place : (c : List ℕ) (cond : Expr) (k : VColumn) (there : Bool) → satisfies c cond ≡ true → satisfies c k.cond ≡ there → column_at c (column_under cond k) ≡ column_at c k
one_place c cond k true h t = rw (and_once_holds c k.cond cond, t, h) refl
one_place c cond k false h t = rw (and_once_holds c k.cond cond, t) refl

-- where the condition holds, each place is as before
same_places : (c : List ℕ) (cond : Expr) (ks : List VColumn) → satisfies c cond ≡ true → map (column_at c) (columns_under cond ks) ≡ map (column_at c) ks
same_places c cond [] h = refl
same_places c cond (k ∷ ks) h = ap₂ (λ x xs. x ∷ xs) (one_place c cond k (satisfies c k.cond) h refl) (same_places c cond ks h)

module _ (cond : Cond) (left right : VTable) where
  abbrev wide : List VColumn
  wide = columns_under (any_of right.columns) left.columns ++ columns_under (any_of left.columns) right.columns

  wide_long : length wide ≡ length left.columns + length right.columns
  wide_long =
      let a = length-append (columns_under (any_of right.columns) left.columns) (columns_under (any_of left.columns) right.columns) in
      let l = length_under (any_of right.columns) left.columns in
      let r = length_under (any_of left.columns) right.columns in
      omega (arith, a, l, r)

  -- ---- every pair is whole

  pairs_whole : (row : VRow) (rows : List VRow) → length row.cells ≡ length left.columns → are_whole (length right.columns) rows ≡ true → are_whole (length wide) (filter_map (pair_meeting cond left.columns right.columns row) rows) ≡ true
  pairs_whole row [] long whole = refl
  pairs_whole row (other ∷ rows) long whole =
      let made : Expr = and_of (and_of row.cond other.cond) (truth_of (slots_of left.columns row.cells ++ slots_of right.columns other.cells) cond) in
      under_whole (length wide) (row.cells ++ other.cells) made (filter_map (pair_meeting cond left.columns right.columns row) rows) (is_false made) refl
      (let a = length-append row.cells other.cells in
      let o = eqb-true (length other.cells) (length right.columns) (and_first _ _ whole) in
      let w = wide_long in
      eq-eqb _ _ (omega (arith, a, o, w, long)))
      (pairs_whole row rows long (and_second (length other.cells == length right.columns) _ whole))

  all_pairs_whole : (rows : List VRow) → are_whole (length left.columns) rows ≡ true → are_whole (length right.columns) right.rows ≡ true → are_whole (length wide) (flat_map (pairs_of_row cond left.columns right) rows) ≡ true
  all_pairs_whole [] l r = refl
  all_pairs_whole (row ∷ rows) l r =
      whole-append (length wide) (pairs_of_row cond left.columns right row) (flat_map (pairs_of_row cond left.columns right) rows)
      (pairs_whole row right.rows (eqb-true (length row.cells) (length left.columns) (and_first _ _ l)) r)
      (all_pairs_whole rows (and_second (length row.cells == length left.columns) _ l) r)

  module _ (c : List ℕ) where
    abbrev L : List Column
    L = columns_at c left.columns

    abbrev R : List Column
    R = columns_at c right.columns

    wide_case : (L R : List Column) → (if is_some_column R then L else []) ++ (if is_some_column L then R else []) ≡ both_sides L R
    wide_case [] [] = refl
    wide_case [] (r ∷ rs) = refl
    wide_case (l ∷ ls) [] = refl
    wide_case (l ∷ ls) (r ∷ rs) = refl

    pub wide_at : columns_at c wide ≡ both_sides L R
    wide_at =
        columns_at-append c (columns_under (any_of right.columns) left.columns) (columns_under (any_of left.columns) right.columns)
        ∙ ap₂ (λ xs ys. xs ++ ys) (under_is c (any_of right.columns) left.columns (is_some_column R) (any_holds c right.columns)) (under_is c (any_of left.columns) right.columns (is_some_column L) (any_holds c left.columns))
        ∙ wide_case L R

    -- ---- where both sides are there

    module _ (some_left : is_some_column L ≡ true) (some_right : is_some_column R ≡ true) (distinct : names_are_distinct (L ++ R) ≡ true) where
      places : map (column_at c) wide ≡ map (column_at c) left.columns ++ map (column_at c) right.columns
      places =
          map-append (column_at c) (columns_under (any_of right.columns) left.columns) (columns_under (any_of left.columns) right.columns)
          ∙ ap₂ (λ xs ys. xs ++ ys) (same_places c (any_of right.columns) left.columns (any_holds c right.columns ∙ some_right)) (same_places c (any_of left.columns) right.columns (any_holds c left.columns ∙ some_left))

      pair_row : (xs ys : List (Option Value)) → length xs ≡ length left.columns → row_of (map (column_at c) wide) (xs ++ ys) ≡ row_of (map (column_at c) left.columns) xs ++ row_of (map (column_at c) right.columns) ys
      pair_row xs ys long =
          ap (λ ps. row_of ps (xs ++ ys)) places
          ∙ row_of-append (map (column_at c) left.columns) (map (column_at c) right.columns) xs ys (long ∙ sym (length-map left.columns (column_at c)))

      columns_of-append : (ps qs : List (Option Column)) → columns_of (ps ++ qs) ≡ columns_of ps ++ columns_of qs
      columns_of-append [] qs = refl
      columns_of-append (None ∷ ps) qs = columns_of-append ps qs
      columns_of-append (Some k ∷ ps) qs = ap (λ xs. k ∷ xs) (columns_of-append ps qs)

      pair_distinct : (xs ys : List (Option Value)) → length xs ≡ length left.columns → cells_are_distinct (row_of (map (column_at c) left.columns) xs ++ row_of (map (column_at c) right.columns) ys) ≡ true
      pair_distinct xs ys long =
          ap cells_are_distinct (sym (row_of-append (map (column_at c) left.columns) (map (column_at c) right.columns) xs ys (long ∙ sym (length-map left.columns (column_at c)))))
          ∙ cells_distinct (map (column_at c) left.columns ++ map (column_at c) right.columns) (xs ++ ys) (ap names_are_distinct (columns_of-append (map (column_at c) left.columns) (map (column_at c) right.columns)) ∙ distinct)

      -- the condition's truth of a pair
      pair_truth : (xs ys : List (Option Value)) → length xs ≡ length left.columns → satisfies c (truth_of (slots_of left.columns xs ++ slots_of right.columns ys) cond) ≡ holds c cond (row_of (map (column_at c) left.columns) xs ++ row_of (map (column_at c) right.columns) ys)
      pair_truth xs ys long =
          let rows = slots_row-append c (slots_of left.columns xs) (slots_of right.columns ys) ∙ ap₂ (λ a b. a ++ b) (sym (row_is c left.columns xs)) (sym (row_is c right.columns ys)) in
          truth_holds c (slots_of left.columns xs ++ slots_of right.columns ys) (ap cells_are_distinct rows ∙ pair_distinct xs ys long) cond
          ∙ ap (holds c cond) rows

      pair_step : (row other : VRow) (rows : List VRow) (l r met : Bool) → length row.cells ≡ length left.columns → satisfies c row.cond ≡ l → satisfies c other.cond ≡ r → holds c cond (row_of (map (column_at c) left.columns) row.cells ++ row_of (map (column_at c) right.columns) other.cells) ≡ met → standing c wide (filter_map (pair_meeting cond left.columns right.columns row) rows) ≡ (if l then filter (holds c cond) (map (λ o. row_of (map (column_at c) left.columns) row.cells ++ o) (standing c right.columns rows)) else []) → standing c wide (filter_map (pair_meeting cond left.columns right.columns row) (other ∷ rows)) ≡ (if l then filter (holds c cond) (map (λ o. row_of (map (column_at c) left.columns) row.cells ++ o) (standing c right.columns (other ∷ rows))) else [])
      pair_step row other rows l r met long is is' h rest =
          under_stands c wide (row.cells ++ other.cells) (and_of (and_of row.cond other.cond) (truth_of (slots_of left.columns row.cells ++ slots_of right.columns other.cells) cond)) (filter_map (pair_meeting cond left.columns right.columns row) rows) ((l && r) && met)
          (and_holds c (and_of row.cond other.cond) (truth_of (slots_of left.columns row.cells ++ slots_of right.columns other.cells) cond)
          ∙ ap₂ (λ a b. a && b) (and_holds c row.cond other.cond ∙ ap₂ (λ a b. a && b) is is') (pair_truth row.cells other.cells long ∙ h))
          ∙ by_cases l r met is is' h rest
        where
          by_cases : (l r met : Bool) → satisfies c row.cond ≡ l → satisfies c other.cond ≡ r → holds c cond (row_of (map (column_at c) left.columns) row.cells ++ row_of (map (column_at c) right.columns) other.cells) ≡ met → standing c wide (filter_map (pair_meeting cond left.columns right.columns row) rows) ≡ (if l then filter (holds c cond) (map (λ o. row_of (map (column_at c) left.columns) row.cells ++ o) (standing c right.columns rows)) else []) → (if ((l && r) && met) then row_of (map (column_at c) wide) (row.cells ++ other.cells) ∷ standing c wide (filter_map (pair_meeting cond left.columns right.columns row) rows) else standing c wide (filter_map (pair_meeting cond left.columns right.columns row) rows)) ≡ (if l then filter (holds c cond) (map (λ o. row_of (map (column_at c) left.columns) row.cells ++ o) (standing c right.columns (other ∷ rows))) else [])
          by_cases false r met is is' h rest = rest
          by_cases true false met is is' h rest = rest ∙ rw is' refl
          by_cases true true true is is' h rest = rw is' (rw h (ap₂ (λ x xs. x ∷ xs) (pair_row row.cells other.cells long) rest))
          by_cases true true false is is' h rest = rw is' (rw h rest)

      row_pairs : (row : VRow) (rows : List VRow) (l : Bool) → length row.cells ≡ length left.columns → satisfies c row.cond ≡ l → standing c wide (filter_map (pair_meeting cond left.columns right.columns row) rows) ≡ (if l then filter (holds c cond) (map (λ o. row_of (map (column_at c) left.columns) row.cells ++ o) (standing c right.columns rows)) else [])
      row_pairs row [] true long is = refl
      row_pairs row [] false long is = refl
      row_pairs row (other ∷ rows) l long is = pair_step row other rows l (satisfies c other.cond) (holds c cond (row_of (map (column_at c) left.columns) row.cells ++ row_of (map (column_at c) right.columns) other.cells)) long is refl refl (row_pairs row rows l long is)

      pairs_standing : (rows : List VRow) → are_whole (length left.columns) rows ≡ true → standing c wide (flat_map (pairs_of_row cond left.columns right) rows) ≡ filter (holds c cond) (pairs (standing c left.columns rows) (standing c right.columns right.rows))
      pairs_standing [] whole = refl
      pairs_standing (row ∷ rows) whole =
          standing-append c wide (pairs_of_row cond left.columns right row) (flat_map (pairs_of_row cond left.columns right) rows)
          ∙ ap₂ (λ xs ys. xs ++ ys) (row_pairs row right.rows (satisfies c row.cond) (eqb-true (length row.cells) (length left.columns) (and_first _ _ whole)) refl) (pairs_standing rows (and_second (length row.cells == length left.columns) _ whole))
          ∙ by_there (satisfies c row.cond) refl
        where
          by_there : (l : Bool) → satisfies c row.cond ≡ l → (if satisfies c row.cond then filter (holds c cond) (map (λ o. row_of (map (column_at c) left.columns) row.cells ++ o) (standing c right.columns right.rows)) else []) ++ filter (holds c cond) (pairs (standing c left.columns rows) (standing c right.columns right.rows)) ≡ filter (holds c cond) (pairs (standing c left.columns (row ∷ rows)) (standing c right.columns right.rows))
          by_there true is = rw is (sym (filter-append (holds c cond) (map (λ o. row_of (map (column_at c) left.columns) row.cells ++ o) (standing c right.columns right.rows)) (pairs (standing c left.columns rows) (standing c right.columns right.rows))))
          by_there false is = rw is refl

      -- ---- each pair that is there is filled

      row_filled : (row : VRow) (rows : List VRow) → (satisfies c row.cond ≡ true → fits (map (column_at c) left.columns) row.cells ≡ true) → are_filled c right.columns rows ≡ true → are_filled c wide (filter_map (pair_meeting cond left.columns right.columns row) rows) ≡ true
      row_filled row [] fit filled = refl
      row_filled row (other ∷ rows) fit filled =
          let made : Expr = and_of (and_of row.cond other.cond) (truth_of (slots_of left.columns row.cells ++ slots_of right.columns other.cells) cond) in
          under_filled c wide (row.cells ++ other.cells) made (filter_map (pair_meeting cond left.columns right.columns row) rows)
          (λ h.
          let first : satisfies c (and_of row.cond other.cond) ≡ true = and_first _ _ (sym (and_holds c (and_of row.cond other.cond) (truth_of (slots_of left.columns row.cells ++ slots_of right.columns other.cells) cond)) ∙ h) in
          let parts : (satisfies c row.cond && satisfies c other.cond) ≡ true = sym (and_holds c row.cond other.cond) ∙ first in
          subst (λ ps. fits ps (row.cells ++ other.cells) ≡ true) (sym places)
          (fits-append (map (column_at c) left.columns) (map (column_at c) right.columns) row.cells other.cells (fit (and_first _ _ parts)) (and_first _ _ (rw (and_second (satisfies c row.cond) _ parts) at filled))))
          (row_filled row rows fit (filled_rest other rows (satisfies c other.cond) refl filled))
        where
          filled_rest : (other : VRow) (rows : List VRow) (there : Bool) → satisfies c other.cond ≡ there → are_filled c right.columns (other ∷ rows) ≡ true → are_filled c right.columns rows ≡ true
          filled_rest other rows true is h = and_second (fits (map (column_at c) right.columns) other.cells) _ (rw is at h)
          filled_rest other rows false is h = rw is at h

      pairs_filled : (rows : List VRow) → are_filled c left.columns rows ≡ true → are_filled c right.columns right.rows ≡ true → are_filled c wide (flat_map (pairs_of_row cond left.columns right) rows) ≡ true
      pairs_filled [] l r = refl
      pairs_filled (row ∷ rows) l r =
          filled-append c wide (pairs_of_row cond left.columns right row) (flat_map (pairs_of_row cond left.columns right) rows)
          (row_filled row right.rows (λ h. and_first _ _ (rw h at l)) r)
          (pairs_filled rows (rest (satisfies c row.cond) refl l) r)
        where
          rest : (there : Bool) → satisfies c row.cond ≡ there → are_filled c left.columns (row ∷ rows) ≡ true → are_filled c left.columns rows ≡ true
          rest true is h = and_second (fits (map (column_at c) left.columns) row.cells) _ (rw is at h)
          rest false is h = rw is at h

    module _ (l : IsAnswerAt c left) (r : IsAnswerAt c right) (distinct : names_are_distinct (both_sides L R) ≡ true) where
      abbrev rows : List VRow
      rows = flat_map (pairs_of_row cond left.columns right) left.rows

      whole : are_whole (length wide) rows ≡ true
      whole = all_pairs_whole left.rows (stands_from c left l).whole (stands_from c right r).whole

      filled_case : (a b : List Column) → L ≡ a → R ≡ b → are_filled c wide rows ≡ true
      filled_case [] b is is' = empty_filled c wide rows (wide_at ∙ ap₂ both_sides is is') whole
      filled_case (x ∷ a) [] is is' = empty_filled c wide rows (wide_at ∙ ap₂ both_sides is is') whole
      filled_case (x ∷ a) (y ∷ b) is is' =
          pairs_filled (ap is_some_column is) (ap is_some_column is') (ap₂ (λ p q. names_are_distinct (p ++ q)) is is' ∙ sym (ap₂ (λ p q. names_are_distinct (both_sides p q)) is is') ∙ distinct)
          left.rows (stands_from c left l).filled (stands_from c right r).filled

      stands : Stands c wide rows
      stands = record {
        distinct = ap names_are_distinct wide_at ∙ distinct;
        whole = whole;
        filled = filled_case L R refl refl;
      }

      abbrev order : List Column
      order = merged (headings left.columns) (headings right.columns)

      join_case : (a b W : List Column) (S : List (List Cell)) → L ≡ a → R ≡ b → W ≡ both_sides a b → S ≡ standing c wide rows → relation_by (in_order_of order W) S ≡ joined order c cond (relation_with a (standing c left.columns left.rows)) (relation_with b (standing c right.columns right.rows))
      join_case [] b W S is is' w s = by_none order W S (filter (holds c cond) (pairs [] (relation_with b (standing c right.columns right.rows)).rows)) w
      join_case (x ∷ a) [] W S is is' w s = by_none order W S (filter (holds c cond) (pairs (standing c left.columns left.rows) [])) w
      join_case (x ∷ a) (y ∷ b) W S is is' w s =
          ap₂ (λ p q. relation_by (in_order_of order p) q) w (
          s ∙ pairs_standing (ap is_some_column is) (ap is_some_column is') (ap₂ (λ p q. names_are_distinct (p ++ q)) is is' ∙ sym (ap₂ (λ p q. names_are_distinct (both_sides p q)) is is') ∙ distinct) left.rows (stands_from c left l).whole
          )

      pub join_answers : answer_at c (joined_table cond left right) ≡ joined order c cond (answer_at c left) (answer_at c right)
      join_answers =
          merge_answers c wide rows stands
          ∙ ap (λ k. relation_by (in_order_of (once k) (columns_at c wide)) (standing c wide rows)) (map-append heading (columns_under (any_of right.columns) left.columns) (columns_under (any_of left.columns) right.columns) ∙ ap₂ (λ xs ys. xs ++ ys) (headings_under (any_of right.columns) left.columns) (headings_under (any_of left.columns) right.columns))
          ∙ join_case L R (columns_at c wide) (standing c wide rows) refl refl wide_at refl
          ∙ ap₂ (joined order c cond) (sym (answer_of c left)) (sym (answer_of c right))

      pub join_formed : IsAnswerAt c (joined_table cond left right)
      join_formed = merge_formed c wide rows stands
