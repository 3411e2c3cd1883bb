-- The rows of the side that a variant chooses.
use Rattle.std.proofs.Common.{◌≡◌, ◌∙◌, ℕ, Bool, true, false, not, List, [], ◌∷◌, ◌++◌, map, length, if◌then◌else◌, refl, sym, ap, ap₂, subst, true≢false, append-nil}
use Rattle.std.proofs.lemmas.List.{map-append}
use Rattle.feature_expr.specs.Expressions.{not_of}
use Rattle.feature_expr.specs.Satisfaction.{satisfies}
use Rattle.feature_expr.specs.declared.expr.Expr.{Expr}
use Rattle.plain_relation.specs.Relations.{Cell, Column, relation_with}
use Rattle.relational_algebra.specs.Columns.{among, in_order_of, merged, once}
use Rattle.relational_algebra.specs.Operations.{chosen, laid}
use Rattle.row_conditions.proofs.FoldingLaws.{not_holds}
use Rattle.plan_tables.proofs.MemberLaws.{among_ordered, one_each, ordered_distinct}
use Rattle.plan_tables.proofs.RowLaws.{CanLay, laid_filled, laid_standing, laid_whole}
use Rattle.plan_tables.proofs.SettleLaws.{headings_under, once_once, settled_at, under_is}
use Rattle.plan_tables.proofs.StandLaws.{answer_is, answer_of, columns_at-append, filled-append, standing, standing-append, stands_as, stands_from, whole-append}
use Rattle.plan_tables.specs.Tables.{heading, columns_at, columns_under, headings, once_each, rows_laid, settled}
use Rattle.plan_operators.specs.Operators.{chosen_table}
use Rattle.vtable.specs.Answers.{IsAnswerAt, answer_at, names_are_distinct}
use Rattle.vtable.specs.declared.table.VColumn.{VColumn}
use Rattle.vtable.specs.declared.table.VRow.{VRow}
use Rattle.vtable.specs.declared.table.VTable.{VTable}

module _ (c : List ℕ) (expr : Expr) (left right : VTable) where
  abbrev to : List VColumn
  to = settled (columns_under expr left.columns ++ columns_under (not_of expr) right.columns)

  abbrev order : List Column
  order = merged (headings left.columns) (headings right.columns)

  pub to_is : (chosen_left : Bool) → satisfies c expr ≡ chosen_left → columns_at c to ≡ in_order_of order (if chosen_left then columns_at c left.columns else columns_at c right.columns)
  to_is b h =
      settled_at c (columns_under expr left.columns ++ columns_under (not_of expr) right.columns)
      ∙ ap₂ (λ xs ys. in_order_of (once xs) ys)
      (map-append heading (columns_under expr left.columns) (columns_under (not_of expr) right.columns) ∙ ap₂ (λ xs ys. xs ++ ys) (headings_under expr left.columns) (headings_under (not_of expr) right.columns))
      (columns_at-append c (columns_under expr left.columns) (columns_under (not_of expr) right.columns) ∙ sides b h)
    where
      sides : (b : Bool) → satisfies c expr ≡ b → columns_at c (columns_under expr left.columns) ++ columns_at c (columns_under (not_of expr) right.columns) ≡ (if b then columns_at c left.columns else columns_at c right.columns)
      sides true h = ap₂ (λ xs ys. xs ++ ys) (under_is c expr left.columns true h) (under_is c (not_of expr) right.columns false (not_holds c expr ∙ ap not h)) ∙ append-nil (columns_at c left.columns)
      sides false h = ap₂ (λ xs ys. xs ++ ys) (under_is c expr left.columns false h) (under_is c (not_of expr) right.columns true (not_holds c expr ∙ ap not h))

  can_lay : (table : VTable) → columns_at c to ≡ in_order_of order (columns_at c table.columns) → once_each (headings table.columns) ≡ true → IsAnswerAt c table → CanLay c to table.columns table.rows
  can_lay table is once answer = record {
    once = once;
    distinct = answer.distinct;
    filled = (stands_from c table answer).filled;
    within = record { within = λ key k. among_ordered key order (columns_at c table.columns) (subst (λ xs. among key xs ≡ true) is k) };
  }

  abbrev rows_left : List VRow
  rows_left = rows_laid to left.columns expr left.rows

  abbrev rows_right : List VRow
  rows_right = rows_laid to right.columns (not_of expr) right.rows

  chosen_is : (T columns : List Column) (rows S : List (List Cell)) → T ≡ in_order_of order columns → S ≡ map (laid T) rows → relation_with T S ≡ chosen order (relation_with columns rows)
  chosen_is T [] rows S t s = ap₂ relation_with t s ∙ none_in order
    where
      none_in : (order : List Column) → relation_with (in_order_of order []) (map (laid T) rows) ≡ chosen order (relation_with [] rows)
      none_in [] = refl
      none_in (x ∷ xs) = none_in xs
  chosen_is T (k ∷ ks) rows S t s = ap (relation_with T) s ∙ ap (λ q. relation_with q (map (laid q) rows)) t

  ends : (xs : List (List Cell)) (S U : List (List Cell)) → S ≡ xs → U ≡ [] → S ++ U ≡ xs
  ends xs S U s u = ap₂ (λ x y. x ++ y) s u ∙ append-nil xs

  starts : (xs : List (List Cell)) (S U : List (List Cell)) → S ≡ [] → U ≡ xs → S ++ U ≡ xs
  starts xs S U s u = ap₂ (λ x y. x ++ y) s u

  never : (X : Type 0) (b : Bool) → b ≡ false → b ≡ true → X
  never X b h k = absurd (true≢false (sym k ∙ h))

  -- where the expression holds, it is the left side, whatever the right one is
  module _ (h : satisfies c expr ≡ true) (one : once_each (headings left.columns) ≡ true) (answer : IsAnswerAt c left) where
    off : satisfies c (not_of expr) ≡ false
    off = not_holds c expr ∙ ap not h

    pub left_answers : answer_at c (chosen_table expr left right) ≡ chosen order (answer_at c left)
    left_answers =
        answer_is c to (rows_left ++ rows_right)
        ∙ chosen_is (columns_at c to) (columns_at c left.columns) (standing c left.columns left.rows) (standing c to (rows_left ++ rows_right)) (to_is true h) (
        standing-append c to rows_left rows_right
        ∙ ends (map (laid (columns_at c to)) (standing c left.columns left.rows)) (standing c to rows_left) (standing c to rows_right)
        (laid_standing c to left.columns expr left.rows true h (λ t. can_lay left (to_is true h) one answer))
        (laid_standing c to right.columns (not_of expr) right.rows false off (λ t. never _ false refl t))
        )
        ∙ ap (chosen order) (sym (answer_of c left))

    pub left_formed : IsAnswerAt c (chosen_table expr left right)
    left_formed = stands_as c (chosen_table expr left right) (record {
      distinct = ap names_are_distinct (to_is true h) ∙ ordered_distinct order (columns_at c left.columns) (once_once (headings left.columns ++ headings right.columns)) (one_each (columns_at c left.columns) answer.distinct);
      whole = whole-append (length to) rows_left rows_right (laid_whole to left.columns expr left.rows) (laid_whole to right.columns (not_of expr) right.rows);
      filled = filled-append c to rows_left rows_right (laid_filled c to left.columns expr left.rows (λ t. can_lay left (to_is true h) one answer)) (laid_filled c to right.columns (not_of expr) right.rows (λ t. never _ _ off t));
    })

  -- and where it doesn't, the right side, whatever the left one is
  module _ (h : satisfies c expr ≡ false) (one : once_each (headings right.columns) ≡ true) (answer : IsAnswerAt c right) where
    pub right_answers : answer_at c (chosen_table expr left right) ≡ chosen order (answer_at c right)
    right_answers =
        answer_is c to (rows_left ++ rows_right)
        ∙ chosen_is (columns_at c to) (columns_at c right.columns) (standing c right.columns right.rows) (standing c to (rows_left ++ rows_right)) (to_is false h) (
        standing-append c to rows_left rows_right
        ∙ starts (map (laid (columns_at c to)) (standing c right.columns right.rows)) (standing c to rows_left) (standing c to rows_right)
        (laid_standing c to left.columns expr left.rows false h (λ t. never _ false refl t))
        (laid_standing c to right.columns (not_of expr) right.rows true (not_holds c expr ∙ ap not h) (λ t. can_lay right (to_is false h) one answer))
        )
        ∙ ap (chosen order) (sym (answer_of c right))

    pub right_formed : IsAnswerAt c (chosen_table expr left right)
    right_formed = stands_as c (chosen_table expr left right) (record {
      distinct = ap names_are_distinct (to_is false h) ∙ ordered_distinct order (columns_at c right.columns) (once_once (headings left.columns ++ headings right.columns)) (one_each (columns_at c right.columns) answer.distinct);
      whole = whole-append (length to) rows_left rows_right (laid_whole to left.columns expr left.rows) (laid_whole to right.columns (not_of expr) right.rows);
      filled = filled-append c to rows_left rows_right (laid_filled c to left.columns expr left.rows (λ t. never _ _ h t)) (laid_filled c to right.columns (not_of expr) right.rows (λ t. can_lay right (to_is false h) one answer));
    })
