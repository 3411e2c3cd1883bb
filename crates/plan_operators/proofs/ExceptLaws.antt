-- The rows of the left side that the right one lacks.
use Rattle.std.proofs.Common.{◌≡◌, ◌∙◌, ℕ, ◌==◌, Bool, true, false, not, ◌&&◌, ◌||◌, List, [], ◌∷◌, map, filter, fold, length, Option, Some, None, if◌then◌else◌, refl, sym, ap, ap₂, subst, true≢false, inl, inr}
use Rattle.std.specs.List.{filter_map, list_all, list_any}
use Rattle.std.specs.Ordering.{is_eq}
use Rattle.std.specs.declared.cmp.Ordering.{Ordering}
use Rattle.std.specs.declared.cmp.Ordering.TheVariants.{Less, Equal, Greater}
use Rattle.feature_expr.specs.Expressions.{and_of, not_of}
use Rattle.feature_expr.specs.Same.{same_expr}
use Rattle.feature_expr.specs.SameLaws.{same_yes}
use Rattle.feature_expr.specs.Satisfaction.{satisfies}
use Rattle.feature_expr.specs.declared.expr.Expr.{Expr}
use Rattle.feature_expr.specs.declared.expr.Expr as e
use Rattle.values.specs.Value.{kind_of}
use Rattle.values.specs.declared.column_name.ColName.{ColName}
use Rattle.values.specs.declared.value.Value.{Value}
use Rattle.plain_relation.specs.Relations.{Cell, Column, Relation, cell_of, has_name, relation_with, row_of, same_name}
use Rattle.plain_relation.specs.Values.{same_kind, value_cmp}
use Rattle.query_meaning.specs.PlainTypes.{columns_differ}
use Rattle.relational_algebra.specs.Columns.{among, same_column}
use Rattle.relational_algebra.specs.Operations.{excepted, has_cell, same_row}
use Rattle.relational_algebra.specs.Values.{compares, meets_op}
use Rattle.row_conditions.proofs.BoolLaws.{and_first, and_second, and_true, not_true, or_assoc, or_cases, or_end, or_false, or_start}
use Rattle.row_conditions.proofs.FoldingLaws.{and_holds, holds_False, holds_True, not_holds, or_holds}
use Rattle.row_conditions.proofs.NameLaws.{kind_is, kind_same, name_is, name_same}
use Rattle.row_conditions.specs.Truths.{Slot, slots_of}
use Rattle.plan_tables.proofs.LayLaws.{apart, held}
use Rattle.plan_tables.proofs.MemberLaws.{among_left, among_right, both, column_same}
use Rattle.plan_tables.proofs.RowLaws.{always_holds, under_filled, under_stands, under_whole}
use Rattle.plan_tables.proofs.SettleLaws.{any_holds, is_some_column}
use Rattle.plan_tables.proofs.StandLaws.{answer_is, answer_of, are_filled, are_whole, standing, stands_as, stands_from}
use Rattle.plan_operators.proofs.UnionLaws.{left_has, right_has}
use Rattle.plan_tables.specs.Tables.{heading, any_of, cell_under, columns_at, headings, is_false, is_true, laid_cells, once_each}
use Rattle.plan_operators.specs.Operators.{alike, excepted_table, has_key, is_sure, matching, row_without, rows_with, same_cell, sure_columns, with_alike, with_match}
use Rattle.vra_syntax.specs.declared.cond.Op.TheVariants as op
use Rattle.vtable.proofs.CellLaws.{same_cells_self, value_is}
use Rattle.vtable.specs.Answers.{IsAnswerAt, answer_at, column_at, fits, names_are_distinct}
use Rattle.vtable.specs.TableForm.{same_cells}
use Rattle.vtable.specs.declared.table.VColumn.{VColumn}
use Rattle.vtable.specs.declared.table.VRow.{VRow}
use Rattle.vtable.specs.declared.table.VTable.{VTable}

-- ---- values that compare as equal

eq_is : (o : Ordering) → meets_op op.Eq o ≡ is_eq o
eq_is Less = refl
eq_is Equal = refl
eq_is Greater = refl

compared_as : (v w : Value) (same : Bool) → same_kind (kind_of v) (kind_of w) ≡ same → same ≡ true → same_cell (Some v) (Some w) ≡ compares op.Eq (Some v) (Some w)
compared_as v w true is h = rw is (sym (eq_is (value_cmp v w)))
compared_as v w false is h = absurd (true≢false (sym h))

is_equal : (o : Ordering) → is_eq o ≡ true → o ≡ Equal
is_equal Less h = absurd (true≢false (sym h))
is_equal Equal h = refl
is_equal Greater h = absurd (true≢false (sym h))

equal_values : (v w : Value) (same : Bool) → same_kind (kind_of v) (kind_of w) ≡ same → compares op.Eq (Some v) (Some w) ≡ true → v ≡ w
equal_values v w true is h = value_is v w (is_equal (value_cmp v w) (sym (eq_is (value_cmp v w)) ∙ rw is at h))
equal_values v w false is h = absurd (true≢false (sym (rw is at h)))

module _ (c : List ℕ) (left right : List VColumn) (cells others : List (Option Value))
    (one_left : once_each (headings left) ≡ true) (one_right : once_each (headings right) ≡ true)
    (names_left : names_are_distinct (columns_at c left) ≡ true) (names_right : names_are_distinct (columns_at c right) ≡ true)
    (fit_left : fits (map (column_at c) left) cells ≡ true) (fit_right : fits (map (column_at c) right) others ≡ true)
    (to_right : (key : Column) → among key (columns_at c left) ≡ true → among key (columns_at c right) ≡ true)
    (to_left : (key : Column) → among key (columns_at c right) ≡ true → among key (columns_at c left) ≡ true) where
  abbrev lrow : List Cell
  lrow = row_of (map (column_at c) left) cells

  abbrev rrow : List Cell
  rrow = row_of (map (column_at c) right) others

  -- each slot's part
  abbrev slot_same : Slot → Bool
  slot_same slot = same_cell slot.cell (cell_under (slots_of right others) (heading slot.column)) || not (satisfies c slot.column.cond)

  alike_step : (out : Expr) (slot : Slot) (same : Bool) → same_cell slot.cell (cell_under (slots_of right others) (heading slot.column)) ≡ same → satisfies c (with_alike (slots_of right others) out slot) ≡ (satisfies c out && slot_same slot)
  alike_step out slot true is = rw is (sym (and_true (satisfies c out)))
  alike_step out slot false is = rw is (and_holds c out (not_of slot.column.cond) ∙ ap (λ b. satisfies c out && b) (not_holds c slot.column.cond))

  assoc : (a b d : Bool) → ((a && b) && d) ≡ (a && (b && d))
  assoc true b d = refl
  assoc false b d = refl

  alike_from : (out : Expr) (slots : List Slot) → satisfies c (fold (with_alike (slots_of right others)) out slots) ≡ (satisfies c out && list_all slot_same slots)
  alike_from out [] = sym (and_true (satisfies c out))
  alike_from out (slot ∷ slots) =
      alike_from (with_alike (slots_of right others) out slot) slots
      ∙ ap (λ b. b && list_all slot_same slots) (alike_step out slot (same_cell slot.cell (cell_under (slots_of right others) (heading slot.column))) refl)
      ∙ assoc (satisfies c out) (slot_same slot) (list_all slot_same slots)

  -- a cell of the left row that is there is the right row's in just the variants in which they compare as equal
  slot_there : (k : VColumn) (v : Value) → satisfies c k.cond ≡ true → same_kind (kind_of v) k.kind ≡ true → among (heading k) (columns_at c right) ≡ true → slot_same (record { column = k; cell = Some v }) ≡ has_cell rrow (record { name = k.name; value = v })
  slot_there k v is kind there =
      let it = held c right others (heading k) one_right names_right fit_right there in
      let kinds : kind_of v ≡ kind_of it.value = kind_is _ _ kind ∙ sym (kind_is _ _ it.kind) in
      let same : same_kind (kind_of v) (kind_of it.value) ≡ true = subst (λ q. same_kind (kind_of v) q ≡ true) kinds (kind_same (kind_of v)) in
      rw (is, it.cell, it.found) (or_false (same_cell (Some v) (Some it.value)) ∙ compared_as v it.value (same_kind (kind_of v) (kind_of it.value)) refl same)

  slots_step : (k : VColumn) (ks : List VColumn) (x : Option Value) (xs : List (Option Value)) (there : Bool) → satisfies c k.cond ≡ there → fits (map (column_at c) (k ∷ ks)) (x ∷ xs) ≡ true → ((key : Column) → among key (columns_at c (k ∷ ks)) ≡ true → among key (columns_at c right) ≡ true) → (fits (map (column_at c) ks) xs ≡ true → ((key : Column) → among key (columns_at c ks) ≡ true → among key (columns_at c right) ≡ true) → list_all slot_same (slots_of ks xs) ≡ list_all (has_cell rrow) (row_of (map (column_at c) ks) xs)) → list_all slot_same (slots_of (k ∷ ks) (x ∷ xs)) ≡ list_all (has_cell rrow) (row_of (map (column_at c) (k ∷ ks)) (x ∷ xs))
  slots_step k ks x xs false is fit in_right rest =
      rw is (ap (λ b. b && list_all slot_same (slots_of ks xs)) (or_end (same_cell x (cell_under (slots_of right others) (heading k))) true refl) ∙ rest (rw is at fit) (λ key h. in_right key (rw is h)))
  slots_step k ks None xs true is fit in_right rest = absurd (true≢false (sym (rw is at fit)))
  slots_step k ks (Some v) xs true is fit in_right rest =
      let fit' : (same_kind (kind_of v) k.kind && fits (map (column_at c) ks) xs) ≡ true = rw is at fit in
      ap₂ (λ a b. a && b)
      (slot_there k v is (and_first _ _ fit') (in_right (heading k) (rw is (or_start _ _ (column_same (heading k))))))
      (rest (and_second (same_kind (kind_of v) k.kind) _ fit') (λ key h. in_right key (rw is (or_end (same_column key (heading k)) _ h))))
      ∙ rw is refl

  no_slots : (k : VColumn) (ks : List VColumn) (there : Bool) → satisfies c k.cond ≡ there → fits (map (column_at c) (k ∷ ks)) [] ≡ true → true ≡ list_all (has_cell rrow) (row_of (map (column_at c) (k ∷ ks)) [])
  no_slots k ks true is h = absurd (true≢false (sym (rw is at h)))
  no_slots k ks false is h = absurd (true≢false (sym (rw is at h)))

  slots_are : (ks : List VColumn) (xs : List (Option Value)) → fits (map (column_at c) ks) xs ≡ true → ((key : Column) → among key (columns_at c ks) ≡ true → among key (columns_at c right) ≡ true) → list_all slot_same (slots_of ks xs) ≡ list_all (has_cell rrow) (row_of (map (column_at c) ks) xs)
  slots_are [] xs fit in_right = refl
  slots_are (k ∷ ks) [] fit in_right = no_slots k ks (satisfies c k.cond) refl fit
  slots_are (k ∷ ks) (x ∷ xs) fit in_right = slots_step k ks x xs (satisfies c k.cond) refl fit in_right (slots_are ks xs)

  -- ---- where the right row has the left one's cells, the left one has the right one's

  -- what the left row's cells say of one of its names
  at_name : (row : List Cell) (name : ColName) (value : Value) → list_all (has_cell rrow) row ≡ true → cell_of row name ≡ Some value → compares op.Eq (Some value) (cell_of rrow name) ≡ true
  at_name [] name value all h = absurd (cc h)
  at_name (cell ∷ row) name value all h = at_first cell row name value (same_name cell.name name) refl all h (at_name row name value (and_second (has_cell rrow cell) _ all))
    where
      at_first : (cell : Cell) (row : List Cell) (name : ColName) (value : Value) (same : Bool) → same_name cell.name name ≡ same → list_all (has_cell rrow) (cell ∷ row) ≡ true → cell_of (cell ∷ row) name ≡ Some value → (cell_of row name ≡ Some value → compares op.Eq (Some value) (cell_of rrow name) ≡ true) → compares op.Eq (Some value) (cell_of rrow name) ≡ true
      at_first cell row name value true is all h rest =
          let first : Some cell.value ≡ Some value = rw is at h in
          subst (λ n. compares op.Eq (Some value) (cell_of rrow n) ≡ true) (name_is cell.name name is)
          (subst (λ o. compares op.Eq o (cell_of rrow cell.name) ≡ true) first (and_first _ _ all))
      at_first cell row name value false is all h rest = rest (rw is at h)

  -- where they have the same cells, both have the same in each column that is there
  key_same : (key : Column) → among key (columns_at c right) ≡ true → list_all (has_cell rrow) lrow ≡ true → cell_under (slots_of right others) key ≡ cell_under (slots_of left cells) key
  key_same key there all =
      let r = held c right others key one_right names_right fit_right there in
      let l = held c left cells key one_left names_left fit_left (to_left key there) in
      let equal : compares op.Eq (Some l.value) (Some r.value) ≡ true = subst (λ o. compares op.Eq (Some l.value) o ≡ true) r.found (at_name lrow key.name l.value all l.found) in
      let same : l.value ≡ r.value = equal_values l.value r.value (same_kind (kind_of l.value) (kind_of r.value)) refl equal in
      r.cell ∙ ap (λ v. Some v) (sym same) ∙ sym l.cell

  keys_same : (keys : List VColumn) → ((key : Column) → among key (headings keys) ≡ true → among key (columns_at c right) ≡ true) → list_all (has_cell rrow) lrow ≡ true → laid_cells keys (slots_of right others) ≡ laid_cells keys (slots_of left cells)
  keys_same [] there all = refl
  keys_same (k ∷ ks) there all =
      ap₂ (λ x xs. x ∷ xs)
      (key_same (heading k) (there (heading k) (or_start _ _ (column_same (heading k)))) all)
      (keys_same ks (λ key h. there key (or_end (same_column key (heading k)) _ h)) all)

  differ_by : (keys : List VColumn) (all : Bool) → list_all (has_cell rrow) lrow ≡ all → ((key : Column) → among key (headings keys) ≡ true → among key (columns_at c right) ≡ true) → same_cells (laid_cells keys (slots_of right others)) (laid_cells keys (slots_of left cells)) ≡ false → same_row lrow rrow ≡ false
  differ_by keys true is there h =
      absurd (true≢false (sym (same_cells_self (laid_cells keys (slots_of right others))) ∙ ap (same_cells (laid_cells keys (slots_of right others))) (keys_same keys there is) ∙ h))
  differ_by keys false is there h = rw is refl

  -- rows that differ in columns that are there aren't the same
  pub keys_differ : (keys : List VColumn) → ((key : Column) → among key (headings keys) ≡ true → among key (columns_at c right) ≡ true) → same_cells (laid_cells keys (slots_of right others)) (laid_cells keys (slots_of left cells)) ≡ false → same_row lrow rrow ≡ false
  keys_differ keys there h = differ_by keys (list_all (has_cell rrow) lrow) refl there h

  -- a cell of the right row is the left row's
  back_there : (k : VColumn) (w : Value) → list_all (has_cell rrow) lrow ≡ true → among (heading k) (columns_at c right) ≡ true → cell_of rrow k.name ≡ Some w → has_cell lrow (record { name = k.name; value = w }) ≡ true
  back_there k w all there found =
      let it = held c left cells (heading k) one_left names_left fit_left (to_left (heading k) there) in
      let equal : compares op.Eq (Some it.value) (cell_of rrow k.name) ≡ true = at_name lrow k.name it.value all it.found in
      let same : it.value ≡ w = equal_values it.value w (same_kind (kind_of it.value) (kind_of w)) refl (subst (λ o. compares op.Eq (Some it.value) o ≡ true) found equal) in
      subst (λ o. compares op.Eq (Some w) o ≡ true) (sym it.found) (subst (λ x. compares op.Eq (Some w) (Some x) ≡ true) (sym same) (subst (λ x. compares op.Eq (Some x) (Some w) ≡ true) same (subst (λ o. compares op.Eq (Some it.value) o ≡ true) found equal)))

  -- what stands in some columns stands in the right row
  abbrev OfRight : List VColumn → List (Option Value) → Type 0
  OfRight ks xs = (key : Column) (w : Value) → among key (columns_at c ks) ≡ true → cell_of (row_of (map (column_at c) ks) xs) key.name ≡ Some w → (among key (columns_at c right) ≡ true) × (cell_of rrow key.name ≡ Some w)

  of_rest : (k : VColumn) (ks : List VColumn) (x : Option Value) (xs : List (Option Value)) (there : Bool) → satisfies c k.cond ≡ there → fits (map (column_at c) (k ∷ ks)) (x ∷ xs) ≡ true → names_are_distinct (columns_at c (k ∷ ks)) ≡ true → OfRight (k ∷ ks) (x ∷ xs) → OfRight ks xs
  of_rest k ks x xs false is fit names of key w in_ks found = of key w (rw is in_ks) (rw is found)
  of_rest k ks None xs true is fit names of key w in_ks found = absurd (true≢false (sym (rw is at fit)))
  of_rest k ks (Some v) xs true is fit names of key w in_ks found =
      let lacks : has_name k.name (columns_at c ks) ≡ false = not_true _ (and_first (not (has_name k.name (columns_at c ks))) (names_are_distinct (columns_at c ks)) (rw is at names)) in
      of key w (rw is (or_end (same_column key (heading k)) _ in_ks)) (rw (is, apart key k.name (columns_at c ks) (same_name k.name key.name) lacks in_ks refl) found)

  names_rest : (k : VColumn) (ks : List VColumn) (there : Bool) → satisfies c k.cond ≡ there → names_are_distinct (columns_at c (k ∷ ks)) ≡ true → names_are_distinct (columns_at c ks) ≡ true
  names_rest k ks true is h = and_second (not (has_name k.name (columns_at c ks))) _ (rw is at h)
  names_rest k ks false is h = rw is at h

  back_step : (k : VColumn) (ks : List VColumn) (x : Option Value) (xs : List (Option Value)) (there : Bool) → satisfies c k.cond ≡ there → fits (map (column_at c) (k ∷ ks)) (x ∷ xs) ≡ true → list_all (has_cell rrow) lrow ≡ true → OfRight (k ∷ ks) (x ∷ xs) → (fits (map (column_at c) ks) xs ≡ true → list_all (has_cell lrow) (row_of (map (column_at c) ks) xs) ≡ true) → list_all (has_cell lrow) (row_of (map (column_at c) (k ∷ ks)) (x ∷ xs)) ≡ true
  back_step k ks x xs false is fit all of_right rest = rw is (rest (rw is at fit))
  back_step k ks None xs true is fit all of_right rest = absurd (true≢false (sym (rw is at fit)))
  back_step k ks (Some w) xs true is fit all of_right rest =
      let fit' : (same_kind (kind_of w) k.kind && fits (map (column_at c) ks) xs) ≡ true = rw is at fit in
      let parts = of_right (heading k) w (rw is (or_start _ _ (column_same (heading k)))) (rw is (rw (name_same k.name) refl)) in
      rw is (both _ _ (back_there k w all parts.0 parts.1) (rest (and_second (same_kind (kind_of w) k.kind) _ fit')))

  all_back : (ks : List VColumn) (xs : List (Option Value)) → fits (map (column_at c) ks) xs ≡ true → names_are_distinct (columns_at c ks) ≡ true → OfRight ks xs → list_all (has_cell rrow) lrow ≡ true → list_all (has_cell lrow) (row_of (map (column_at c) ks) xs) ≡ true
  all_back [] xs fit names of all = refl
  all_back (k ∷ ks) [] fit names of all = none_back k ks (satisfies c k.cond) refl fit
    where
      none_back : (k : VColumn) (ks : List VColumn) (there : Bool) → satisfies c k.cond ≡ there → fits (map (column_at c) (k ∷ ks)) [] ≡ true → list_all (has_cell lrow) (row_of (map (column_at c) (k ∷ ks)) []) ≡ true
      none_back k ks true is h = absurd (true≢false (sym (rw is at h)))
      none_back k ks false is h = absurd (true≢false (sym (rw is at h)))
  all_back (k ∷ ks) (x ∷ xs) fit names of all =
      back_step k ks x xs (satisfies c k.cond) refl fit all of
      (λ f. all_back ks xs f (names_rest k ks (satisfies c k.cond) refl names) (of_rest k ks x xs (satisfies c k.cond) refl fit names of) all)

  both_same : (a b : Bool) → (a ≡ true → b ≡ true) → a ≡ (a && b)
  both_same true b f = sym (f refl)
  both_same false b f = refl

  -- the two rows have the same cells
  pub alike_is : satisfies c (alike (slots_of left cells) (slots_of right others)) ≡ same_row lrow rrow
  alike_is =
      alike_from e.True (slots_of left cells)
      ∙ ap (λ b. b && list_all slot_same (slots_of left cells)) (holds_True c)
      ∙ slots_are left cells fit_left to_right
      ∙ both_same (list_all (has_cell rrow) lrow) (list_all (has_cell lrow) rrow) (all_back right others fit_right names_right (λ key w there found. (there, found)))

-- ---- columns that are there whenever their side is

module _ (c : List ℕ) (there : Expr) (is_there : satisfies c there ≡ true) where
  sure_holds : (k : VColumn) → is_sure there k ≡ true → satisfies c k.cond ≡ true
  sure_holds k h = elim (or_cases (is_true k.cond) (same_expr k.cond there) h) [
    | inl always ↦ always_holds c k.cond always
    | inr same ↦ ap (satisfies c) (same_yes k.cond there same) ∙ is_there
  ]

  at_more : (key : Column) (k : VColumn) (ks : List VColumn) (here : Bool) → satisfies c k.cond ≡ here → among key (columns_at c ks) ≡ true → among key (columns_at c (k ∷ ks)) ≡ true
  at_more key k ks true is h = rw is (or_end (same_column key (heading k)) _ h)
  at_more key k ks false is h = rw is h

  sure_step : (key : Column) (k : VColumn) (ks : List VColumn) (sure : Bool) → is_sure there k ≡ sure → (among key (headings (sure_columns there ks)) ≡ true → among key (columns_at c ks) ≡ true) → among key (headings (sure_columns there (k ∷ ks))) ≡ true → among key (columns_at c (k ∷ ks)) ≡ true
  sure_step key k ks false is rest h = at_more key k ks (satisfies c k.cond) refl (rest (rw is at h))
  sure_step key k ks true is rest h = elim (or_cases (same_column key (heading k)) (among key (headings (sure_columns there ks))) (rw is at h)) [
    | inl here ↦ rw (sure_holds k is) (or_start _ _ here)
    | inr later ↦ at_more key k ks (satisfies c k.cond) refl (rest later)
  ]

  sure_there : (ks : List VColumn) (key : Column) → among key (headings (sure_columns there ks)) ≡ true → among key (columns_at c ks) ≡ true
  sure_there [] key h = absurd (true≢false (sym h))
  sure_there (k ∷ ks) key h = sure_step key k ks (is_sure there k) refl (sure_there ks key) h

pub without_whole : (columns : List VColumn) (right : VTable) (width : ℕ) (rows : List VRow) → are_whole width rows ≡ true → are_whole width (filter_map (row_without columns right) rows) ≡ true
without_whole columns right width [] h = refl
without_whole columns right width (row ∷ rows) h =
    let cond : Expr = and_of row.cond (not_of (and_of (any_of right.columns) (matching (slots_of columns row.cells) right))) in
    under_whole width row.cells cond (filter_map (row_without columns right) rows) (is_false cond) refl (and_first _ _ h) (without_whole columns right width rows (and_second (length row.cells == width) _ h))

module _ (c : List ℕ) (left right : VTable) (one_left : once_each (headings left.columns) ≡ true) (one_right : once_each (headings right.columns) ≡ true) (l : IsAnswerAt c left) (r : IsAnswerAt c right) (differ : columns_differ (columns_at c left.columns) (columns_at c right.columns) ≡ []) where
  abbrev L : List Column
  L = columns_at c left.columns

  abbrev R : List Column
  R = columns_at c right.columns

  abbrev without : List VRow → List VRow
  without rows = filter_map (row_without left.columns right) rows

  abbrev keys : List VColumn
  keys = sure_columns (any_of right.columns) right.columns

  -- the left row's cells in them
  abbrev key_of : List (Option Value) → List (Option Value)
  key_of cells = laid_cells keys (slots_of left.columns cells)

  module _ (some_left : is_some_column L ≡ true) (some_right : is_some_column R ≡ true) where
    match_step : (cells : List (Option Value)) (out : Expr) (row : VRow) (rows : List VRow) (there : Bool) → fits (map (column_at c) left.columns) cells ≡ true → satisfies c row.cond ≡ there → are_filled c right.columns (row ∷ rows) ≡ true → (satisfies c (with_match right.columns (slots_of left.columns cells) out row) || list_any (same_row (row_of (map (column_at c) left.columns) cells)) (standing c right.columns rows)) ≡ (satisfies c out || list_any (same_row (row_of (map (column_at c) left.columns) cells)) (standing c right.columns (row ∷ rows)))
    match_step cells out row rows false fit is filled =
        rw is (ap (λ b. b || list_any (same_row (row_of (map (column_at c) left.columns) cells)) (standing c right.columns rows)) (
        or_holds c out (and_of row.cond (alike (slots_of left.columns cells) (slots_of right.columns row.cells)))
        ∙ ap (λ b. satisfies c out || b) (and_holds c row.cond (alike (slots_of left.columns cells) (slots_of right.columns row.cells)) ∙ ap (λ b. b && satisfies c (alike (slots_of left.columns cells) (slots_of right.columns row.cells))) is)
        ∙ or_false (satisfies c out)))
    match_step cells out row rows true fit is filled =
        let fit' : fits (map (column_at c) right.columns) row.cells ≡ true = and_first _ _ (rw is at filled) in
        let same = alike_is c left.columns right.columns cells row.cells one_left one_right l.distinct r.distinct fit fit' (λ key k. right_has L R key differ some_right (among_left key L R k)) (λ key k. left_has L R key differ some_left (among_right key L R k)) in
        rw is (ap (λ b. b || list_any (same_row (row_of (map (column_at c) left.columns) cells)) (standing c right.columns rows)) (
        or_holds c out (and_of row.cond (alike (slots_of left.columns cells) (slots_of right.columns row.cells)))
        ∙ ap (λ b. satisfies c out || b) (and_holds c row.cond (alike (slots_of left.columns cells) (slots_of right.columns row.cells)) ∙ ap₂ (λ a b. a && b) is same))
        ∙ or_assoc (satisfies c out) (same_row (row_of (map (column_at c) left.columns) cells) (row_of (map (column_at c) right.columns) row.cells)) (list_any (same_row (row_of (map (column_at c) left.columns) cells)) (standing c right.columns rows)))

    rest_filled : (row : VRow) (rows : List VRow) (there : Bool) → satisfies c row.cond ≡ there → are_filled c right.columns (row ∷ rows) ≡ true → are_filled c right.columns rows ≡ true
    rest_filled row rows true is h = and_second (fits (map (column_at c) right.columns) row.cells) _ (rw is at h)
    rest_filled row rows false is h = rw is at h

    -- a row with another key isn't the same where it is there
    skip_step : (cells : List (Option Value)) (out : Expr) (row : VRow) (rows : List VRow) (there : Bool) → fits (map (column_at c) left.columns) cells ≡ true → satisfies c row.cond ≡ there → are_filled c right.columns (row ∷ rows) ≡ true → has_key keys right.columns (key_of cells) row ≡ false → (satisfies c out || list_any (same_row (row_of (map (column_at c) left.columns) cells)) (standing c right.columns rows)) ≡ (satisfies c out || list_any (same_row (row_of (map (column_at c) left.columns) cells)) (standing c right.columns (row ∷ rows)))
    skip_step cells out row rows false fit is filled other = rw is refl
    skip_step cells out row rows true fit is filled other =
        let fit' : fits (map (column_at c) right.columns) row.cells ≡ true = and_first _ _ (rw is at filled) in
        let apart : same_row (row_of (map (column_at c) left.columns) cells) (row_of (map (column_at c) right.columns) row.cells) ≡ false =
        keys_differ c left.columns right.columns cells row.cells one_left one_right l.distinct r.distinct fit fit' (λ key k. right_has L R key differ some_right (among_left key L R k)) (λ key k. left_has L R key differ some_left (among_right key L R k)) keys
        (sure_there c (any_of right.columns) (any_holds c right.columns ∙ some_right) right.columns) other in
        rw (is, apart) refl

    abbrev Matches : List (Option Value) → Expr → List VRow → Type 0
    Matches cells out rows = satisfies c (fold (with_match right.columns (slots_of left.columns cells)) out (rows_with keys right.columns (key_of cells) rows)) ≡ (satisfies c out || list_any (same_row (row_of (map (column_at c) left.columns) cells)) (standing c right.columns rows))

    match_by : (cells : List (Option Value)) (out : Expr) (row : VRow) (rows : List VRow) (has : Bool) → has_key keys right.columns (key_of cells) row ≡ has → fits (map (column_at c) left.columns) cells ≡ true → are_filled c right.columns (row ∷ rows) ≡ true → ((out : Expr) → Matches cells out rows) → Matches cells out (row ∷ rows)
    match_by cells out row rows true has fit filled rest =
        rw has (rest (with_match right.columns (slots_of left.columns cells) out row) ∙ match_step cells out row rows (satisfies c row.cond) fit refl filled)
    match_by cells out row rows false has fit filled rest =
        rw has (rest out ∙ skip_step cells out row rows (satisfies c row.cond) fit refl filled has)

    match_from : (cells : List (Option Value)) (rows : List VRow) → fits (map (column_at c) left.columns) cells ≡ true → are_filled c right.columns rows ≡ true → (out : Expr) → Matches cells out rows
    match_from cells [] fit filled out = sym (or_false (satisfies c out))
    match_from cells (row ∷ rows) fit filled out =
        match_by cells out row rows (has_key keys right.columns (key_of cells) row) refl fit filled (match_from cells rows fit (rest_filled row rows (satisfies c row.cond) refl filled))

    matching_is : (cells : List (Option Value)) → fits (map (column_at c) left.columns) cells ≡ true → satisfies c (matching (slots_of left.columns cells) right) ≡ list_any (same_row (row_of (map (column_at c) left.columns) cells)) (standing c right.columns right.rows)
    matching_is cells fit =
        match_from cells right.rows fit (stands_from c right r).filled e.False
        ∙ ap (λ b. b || list_any (same_row (row_of (map (column_at c) left.columns) cells)) (standing c right.columns right.rows)) (holds_False c)

  -- the rows of the right side as a relation's, none where it is absent
  abbrev others : List Column → List (List Cell) → List (List Cell)
  others columns rows = (relation_with columns rows).rows

  lacked_by : (R : List Column) (some : Bool) → columns_at c right.columns ≡ R → is_some_column R ≡ some → is_some_column L ≡ true → (cells : List (Option Value)) → fits (map (column_at c) left.columns) cells ≡ true → satisfies c (and_of (any_of right.columns) (matching (slots_of left.columns cells) right)) ≡ list_any (same_row (row_of (map (column_at c) left.columns) cells)) (others R (standing c right.columns right.rows))
  lacked_by [] some is is_some some_left cells fit =
      and_holds c (any_of right.columns) (matching (slots_of left.columns cells) right)
      ∙ ap (λ b. b && satisfies c (matching (slots_of left.columns cells) right)) (any_holds c right.columns ∙ ap is_some_column is)
  lacked_by (k ∷ ks) some is is_some some_left cells fit =
      and_holds c (any_of right.columns) (matching (slots_of left.columns cells) right)
      ∙ ap₂ (λ a b. a && b) (any_holds c right.columns ∙ ap is_some_column is) (matching_is some_left (ap is_some_column is) cells fit)

  abbrev keeps : List Cell → Bool
  keeps row = not (list_any (same_row row) (others R (standing c right.columns right.rows)))

  without_step : is_some_column L ≡ true → (row : VRow) (rows : List VRow) (there kept : Bool) → satisfies c row.cond ≡ there → (there ≡ true → keeps (row_of (map (column_at c) left.columns) row.cells) ≡ kept) → are_filled c left.columns (row ∷ rows) ≡ true → standing c left.columns (without rows) ≡ filter keeps (standing c left.columns rows) → standing c left.columns (without (row ∷ rows)) ≡ filter keeps (standing c left.columns (row ∷ rows))
  without_step some row rows false kept is keep filled rest =
      under_stands c left.columns row.cells (and_of row.cond (not_of (and_of (any_of right.columns) (matching (slots_of left.columns row.cells) right)))) (without rows) false
      (and_holds c row.cond (not_of (and_of (any_of right.columns) (matching (slots_of left.columns row.cells) right))) ∙ ap (λ b. b && satisfies c (not_of (and_of (any_of right.columns) (matching (slots_of left.columns row.cells) right)))) is)
      ∙ rest ∙ rw is refl
  without_step some row rows true kept is keep filled rest =
      let fit : fits (map (column_at c) left.columns) row.cells ≡ true = and_first _ _ (rw is at filled) in
      let truth : satisfies c (not_of (and_of (any_of right.columns) (matching (slots_of left.columns row.cells) right))) ≡ kept = not_holds c (and_of (any_of right.columns) (matching (slots_of left.columns row.cells) right)) ∙ ap not (lacked_by R (is_some_column R) refl refl some row.cells fit) ∙ keep refl in
      under_stands c left.columns row.cells (and_of row.cond (not_of (and_of (any_of right.columns) (matching (slots_of left.columns row.cells) right)))) (without rows) kept
      (and_holds c row.cond (not_of (and_of (any_of right.columns) (matching (slots_of left.columns row.cells) right))) ∙ ap₂ (λ a b. a && b) is truth)
      ∙ both_ways kept (keep refl)
    where
      both_ways : (kept : Bool) → keeps (row_of (map (column_at c) left.columns) row.cells) ≡ kept → (if kept then row_of (map (column_at c) left.columns) row.cells ∷ standing c left.columns (without rows) else standing c left.columns (without rows)) ≡ filter keeps (standing c left.columns (row ∷ rows))
      both_ways true h = rw (is, h) (ap (λ xs. row_of (map (column_at c) left.columns) row.cells ∷ xs) rest)
      both_ways false h = rw (is, h) rest

  left_rest : (row : VRow) (rows : List VRow) (there : Bool) → satisfies c row.cond ≡ there → are_filled c left.columns (row ∷ rows) ≡ true → are_filled c left.columns rows ≡ true
  left_rest row rows true is h = and_second (fits (map (column_at c) left.columns) row.cells) _ (rw is at h)
  left_rest row rows false is h = rw is at h

  without_standing : is_some_column L ≡ true → (rows : List VRow) → are_filled c left.columns rows ≡ true → standing c left.columns (without rows) ≡ filter keeps (standing c left.columns rows)
  without_standing some [] filled = refl
  without_standing some (row ∷ rows) filled = without_step some row rows (satisfies c row.cond) (keeps (row_of (map (column_at c) left.columns) row.cells)) refl (λ t. refl) filled (without_standing some rows (left_rest row rows (satisfies c row.cond) refl filled))

  except_case : (L : List Column) (xs S : List (List Cell)) (y : Relation) → (is_some_column L ≡ true → S ≡ filter (λ row. not (list_any (same_row row) y.rows)) xs) → relation_with L S ≡ excepted (relation_with L xs) y
  except_case [] xs S y h = refl
  except_case (k ∷ ks) xs S y h = ap (relation_with (k ∷ ks)) (h refl)

  pub except_answers : answer_at c (excepted_table left right) ≡ excepted (answer_at c left) (answer_at c right)
  except_answers =
      answer_is c left.columns (without left.rows)
      ∙ except_case L (standing c left.columns left.rows) (standing c left.columns (without left.rows)) (relation_with R (standing c right.columns right.rows)) (λ some. without_standing some left.rows (stands_from c left l).filled)
      ∙ ap₂ excepted (sym (answer_of c left)) (sym (answer_of c right))

  without_filled : (rows : List VRow) → are_filled c left.columns rows ≡ true → are_filled c left.columns (without rows) ≡ true
  without_filled [] h = refl
  without_filled (row ∷ rows) h =
      under_filled c left.columns row.cells (and_of row.cond (not_of (and_of (any_of right.columns) (matching (slots_of left.columns row.cells) right)))) (without rows)
      (λ t.
      let there = and_first (satisfies c row.cond) (satisfies c (not_of (and_of (any_of right.columns) (matching (slots_of left.columns row.cells) right)))) (sym (and_holds c row.cond (not_of (and_of (any_of right.columns) (matching (slots_of left.columns row.cells) right)))) ∙ t) in
      and_first _ _ (rw there at h))
      (without_filled rows (left_rest row rows (satisfies c row.cond) refl h))

  pub except_formed : IsAnswerAt c (excepted_table left right)
  except_formed =
      let s = stands_from c left l in
      stands_as c (excepted_table left right) (record {
        distinct = s.distinct;
        whole = without_whole left.columns right (length left.columns) left.rows s.whole;
        filled = without_filled left.rows s.filled;
      })
