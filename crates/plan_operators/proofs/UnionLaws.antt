-- The rows of either side, and those of the side that a variant chooses.
use Rattle.std.proofs.Common.{◌≡◌, ◌∙◌, ℕ, Bool, true, false, List, [], ◌∷◌, ◌++◌, map, length, if◌then◌else◌, refl, sym, ap, ap₂, subst, true≢false, inl, inr, append-nil}
use Rattle.std.proofs.lemmas.List.{map-append}
use Rattle.std.specs.List.{list_all}
use Rattle.feature_expr.specs.Satisfaction.{satisfies}
use Rattle.plain_relation.specs.Relations.{Cell, Column, relation_with}
use Rattle.query_meaning.specs.PlainTypes.{columns_differ}
use Rattle.relational_algebra.specs.Columns.{among, in_order_of, merged, once, same_column, same_columns}
use Rattle.relational_algebra.specs.Operations.{laid, united}
use Rattle.row_conditions.proofs.BoolLaws.{and_first, and_second, or_cases}
use Rattle.plan_tables.proofs.MemberLaws.{IsOneEach, among_append, among_ordered, column_is, one_each, ordered_distinct}
use Rattle.plan_tables.proofs.RowLaws.{CanLay, laid_filled, laid_standing, laid_whole}
use Rattle.plan_tables.proofs.SettleLaws.{any_holds, is_some_column, once_once, settled_at}
use Rattle.plan_tables.proofs.StandLaws.{answer_is, answer_of, columns_at-append, filled-append, standing, standing-append, stands_as, stands_from, whole-append}
use Rattle.plan_operators.specs.Operators.{united_table}
use Rattle.plan_tables.specs.Tables.{any_of, columns_at, headings, once_each, rows_laid, settled}
use Rattle.vtable.specs.Answers.{IsAnswerAt, answer_at, names_are_distinct}
use Rattle.vtable.specs.declared.table.VColumn.{VColumn}
use Rattle.vtable.specs.declared.table.VRow.{VRow}
use Rattle.vtable.specs.declared.table.VTable.{VTable}

-- each of these is among the others
all_among : (xs X : List Column) (key : Column) → list_all (λ (k : Column). among k X) xs ≡ true → among key xs ≡ true → among key X ≡ true
all_among [] X key all h = absurd (true≢false (sym h))
all_among (x ∷ xs) X key all h =
    elim (or_cases (same_column key x) (among key xs) h) [
      | inl here ↦ subst (λ k. among k X ≡ true) (sym (column_is key x here)) (and_first _ _ all)
      | inr there ↦ all_among xs X key (and_second (among x X) _ all) there
    ]

same_sides : (l : Column) (ls : List Column) (r : Column) (rs : List Column) (same : Bool) → same_columns (l ∷ ls) (r ∷ rs) ≡ same → columns_differ (l ∷ ls) (r ∷ rs) ≡ [] → same_columns (l ∷ ls) (r ∷ rs) ≡ true
same_sides l ls r rs true is h = is
same_sides l ls r rs false is h = absurd (cc (rw is at h))

-- where a side is there, every column of both is one of its own
pub left_has : (L R : List Column) (key : Column) → columns_differ L R ≡ [] → is_some_column L ≡ true → among key (L ++ R) ≡ true → among key L ≡ true
left_has [] R key h some k = absurd (true≢false (sym some))
left_has (l ∷ ls) [] key h some k = subst (λ xs. among key xs ≡ true) (append-nil (l ∷ ls)) k
left_has (l ∷ ls) (r ∷ rs) key h some k =
    elim (among_append key (l ∷ ls) (r ∷ rs) k) [
      | inl left ↦ left
      | inr right ↦
          let same : same_columns (l ∷ ls) (r ∷ rs) ≡ true = same_sides l ls r rs (same_columns (l ∷ ls) (r ∷ rs)) refl h in
          all_among (r ∷ rs) (l ∷ ls) key (and_second (list_all (λ column. among column (r ∷ rs)) (l ∷ ls)) _ same) right
    ]

pub right_has : (L R : List Column) (key : Column) → columns_differ L R ≡ [] → is_some_column R ≡ true → among key (L ++ R) ≡ true → among key R ≡ true
right_has L [] key h some k = absurd (true≢false (sym some))
right_has [] (r ∷ rs) key h some k = k
right_has (l ∷ ls) (r ∷ rs) key h some k =
    elim (among_append key (l ∷ ls) (r ∷ rs) k) [
      | inr right ↦ right
      | inl left ↦
          let same : same_columns (l ∷ ls) (r ∷ rs) ≡ true = same_sides l ls r rs (same_columns (l ∷ ls) (r ∷ rs)) refl h in
          all_among (l ∷ ls) (r ∷ rs) key (and_first _ _ same) left
    ]

narrowed : (X Y : List Column) → ((key : Column) → among key X ≡ true → among key Y ≡ true) → IsOneEach Y → IsOneEach X
narrowed X Y f each = record { one = λ a b in_a in_b same. each.one a b (f a in_a) (f b in_b) same }

-- a name stands for one column of both sides
both_each : (L R : List Column) → columns_differ L R ≡ [] → names_are_distinct L ≡ true → names_are_distinct R ≡ true → IsOneEach (L ++ R)
both_each [] R h l r = one_each R r
both_each (x ∷ L) R h l r = narrowed ((x ∷ L) ++ R) (x ∷ L) (λ key k. left_has (x ∷ L) R key h refl k) (one_each (x ∷ L) l)

module _ (c : List ℕ) (left right : VTable) (one_left : once_each (headings left.columns) ≡ true) (one_right : once_each (headings right.columns) ≡ true) (l : IsAnswerAt c left) (r : IsAnswerAt c right) (same : columns_differ (columns_at c left.columns) (columns_at c right.columns) ≡ []) where
  abbrev to : List VColumn
  to = settled (left.columns ++ right.columns)

  abbrev L : List Column
  L = columns_at c left.columns

  abbrev R : List Column
  R = columns_at c right.columns

  abbrev order : List Column
  order = merged (headings left.columns) (headings right.columns)

  to_is : columns_at c to ≡ in_order_of order (L ++ R)
  to_is = settled_at c (left.columns ++ right.columns) ∙ ap₂ (λ xs ys. in_order_of (once xs) ys) (map-append _ left.columns right.columns) (columns_at-append c left.columns right.columns)

  in_both : (key : Column) → among key (columns_at c to) ≡ true → among key (L ++ R) ≡ true
  in_both key h = among_ordered key order (L ++ R) (subst (λ xs. among key xs ≡ true) to_is h)

  lay_left : satisfies c (any_of left.columns) ≡ true → CanLay c to left.columns left.rows
  lay_left h = record {
    once = one_left;
    distinct = l.distinct;
    filled = (stands_from c left l).filled;
    within = record { within = λ key k. left_has L R key same (sym (any_holds c left.columns) ∙ h) (in_both key k) };
  }

  lay_right : satisfies c (any_of right.columns) ≡ true → CanLay c to right.columns right.rows
  lay_right h = record {
    once = one_right;
    distinct = r.distinct;
    filled = (stands_from c right r).filled;
    within = record { within = λ key k. right_has L R key same (sym (any_holds c right.columns) ∙ h) (in_both key k) };
  }

  abbrev rows_left : List VRow
  rows_left = rows_laid to left.columns (any_of left.columns) left.rows

  abbrev rows_right : List VRow
  rows_right = rows_laid to right.columns (any_of right.columns) right.rows

  union_case : (L R T : List Column) (xs ys S U : List (List Cell)) → S ≡ (if is_some_column L then map (laid T) xs else []) → U ≡ (if is_some_column R then map (laid T) ys else []) → T ≡ in_order_of order (L ++ R) → relation_with T (S ++ U) ≡ united order (relation_with L xs) (relation_with R ys)
  union_case [] [] T xs ys S U s u t = ap₂ relation_with t (ap₂ (λ x y. x ++ y) s u)
  union_case [] (r ∷ rs) T xs ys S U s u t = ap₂ (λ x y. relation_with T (x ++ y)) s u ∙ ap (λ k. relation_with k (map (laid k) ys)) t
  union_case (l ∷ ls) [] T xs ys S U s u t = ap₂ (λ x y. relation_with T (x ++ y)) s u ∙ ap (relation_with T) (append-nil (map (laid T) xs) ∙ ap (map (laid T)) (sym (append-nil xs))) ∙ ap (λ k. relation_with k (map (laid k) (xs ++ []))) t
  union_case (l ∷ ls) (r ∷ rs) T xs ys S U s u t = ap₂ (λ x y. relation_with T (x ++ y)) s u ∙ ap (relation_with T) (sym (map-append (laid T) xs ys)) ∙ ap (λ k. relation_with k (map (laid k) (xs ++ ys))) t

  pub union_answers : answer_at c (united_table left right) ≡ united order (answer_at c left) (answer_at c right)
  union_answers =
      answer_is c to (rows_left ++ rows_right)
      ∙ ap (relation_with (columns_at c to)) (standing-append c to rows_left rows_right)
      ∙ union_case L R (columns_at c to) (standing c left.columns left.rows) (standing c right.columns right.rows) (standing c to rows_left) (standing c to rows_right)
      (laid_standing c to left.columns (any_of left.columns) left.rows (is_some_column L) (any_holds c left.columns) (λ h. lay_left (any_holds c left.columns ∙ h)))
      (laid_standing c to right.columns (any_of right.columns) right.rows (is_some_column R) (any_holds c right.columns) (λ h. lay_right (any_holds c right.columns ∙ h)))
      to_is
      ∙ ap₂ (united order) (sym (answer_of c left)) (sym (answer_of c right))

  pub union_formed : IsAnswerAt c (united_table left right)
  union_formed = stands_as c (united_table left right) (record {
    distinct = ap names_are_distinct to_is ∙ ordered_distinct order (L ++ R) (once_once (headings left.columns ++ headings right.columns)) (both_each L R same l.distinct r.distinct);
    whole = whole-append (length to) rows_left rows_right (laid_whole to left.columns (any_of left.columns) left.rows) (laid_whole to right.columns (any_of right.columns) right.rows);
    filled = filled-append c to rows_left rows_right (laid_filled c to left.columns (any_of left.columns) left.rows lay_left) (laid_filled c to right.columns (any_of right.columns) right.rows lay_right);
  })
