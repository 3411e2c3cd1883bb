-- Cells that are looked up by name and kind and laid under other columns are the same row, in those columns' order, in each
-- variant in which every column that is there now was there before.
use Rattle.std.proofs.Common.{◌≡◌, ◌∙◌, ℕ, Bool, true, false, not, ◌&&◌, ◌||◌, List, [], ◌∷◌, map, Option, Some, None, if◌then◌else◌, refl, sym, ap, subst, true≢false, inl, inr}
use Rattle.feature_expr.specs.Satisfaction.{satisfies}
use Rattle.values.specs.Value.{kind_of}
use Rattle.values.specs.declared.column_name.ColName.{ColName}
use Rattle.values.specs.declared.value.Value.{Value}
use Rattle.plain_relation.specs.Relations.{Column, cell_of, has_name, row_of, same_name}
use Rattle.plain_relation.specs.Values.{same_kind}
use Rattle.relational_algebra.specs.Columns.{among, same_column}
use Rattle.relational_algebra.specs.Operations.{laid}
use Rattle.row_conditions.proofs.BoolLaws.{and_first, and_second, not_true, or_cases, or_end, or_start}
use Rattle.row_conditions.proofs.NameLaws.{name_is, name_same}
use Rattle.row_conditions.specs.Truths.{slots_of}
use Rattle.plan_tables.proofs.MemberLaws.{among_named, both, column_is, column_same, once_parts}
use Rattle.plan_tables.specs.Tables.{heading, cell_under, columns_at, headings, laid_cells, once_each}
use Rattle.vtable.specs.Answers.{column_at, fits, names_are_distinct}
use Rattle.vtable.specs.declared.table.VColumn.{VColumn}

at_among_step : (c : List ℕ) (key : Column) (x : VColumn) (xs : List VColumn) (there : Bool) → satisfies c x.cond ≡ there → (among key (columns_at c xs) ≡ true → among key (headings xs) ≡ true) → among key (columns_at c (x ∷ xs)) ≡ true → among key (headings (x ∷ xs)) ≡ true
at_among_step c key x xs false is rest h = or_end (same_column key (heading x)) _ (rest (rw is at h))
at_among_step c key x xs true is rest h =
    elim (or_cases (same_column key (heading x)) (among key (columns_at c xs)) (rw is at h)) [
      | inl here ↦ or_start _ _ here
      | inr there ↦ or_end (same_column key (heading x)) _ (rest there)
    ]

-- a column that is there is a column
pub at_among : (c : List ℕ) (key : Column) (xs : List VColumn) → among key (columns_at c xs) ≡ true → among key (headings xs) ≡ true
at_among c key [] h = absurd (true≢false (sym h))
at_among c key (x ∷ xs) h = at_among_step c key x xs (satisfies c x.cond) refl (at_among c key xs) h

-- what stands in a column that is there
pub record Held (c : List ℕ) (columns : List VColumn) (cells : List (Option Value)) (key : Column) : Type 0 where
  pub value : Value
  pub cell : cell_under (slots_of columns cells) key ≡ Some value
  pub kind : same_kind (kind_of value) key.kind ≡ true
  pub found : cell_of (row_of (map (column_at c) columns) cells) key.name ≡ Some value

-- a first column that isn't there
behind_absent : (c : List ℕ) (k : VColumn) (ks : List VColumn) (x : Option Value) (xs : List (Option Value)) (key : Column) (same : Bool) → satisfies c k.cond ≡ false → same_column key (heading k) ≡ same → among (heading k) (headings ks) ≡ false → among key (columns_at c ks) ≡ true → Held c ks xs key → Held c (k ∷ ks) (x ∷ xs) key
behind_absent c k ks x xs key true is same once there it =
    absurd (true≢false (sym (at_among c key ks there) ∙ ap (λ (q : Column). among q (headings ks)) (column_is key (heading k) same) ∙ once))
behind_absent c k ks x xs key false is same once there it = record {
  value = it.value;
  cell = rw same it.cell;
  kind = it.kind;
  found = rw is it.found;
}

-- a first column that is there, and is the wanted one or another
in_first : (c : List ℕ) (k : VColumn) (ks : List VColumn) (v : Value) (xs : List (Option Value)) (key : Column) → satisfies c k.cond ≡ true → same_column key (heading k) ≡ true → same_kind (kind_of v) k.kind ≡ true → Held c (k ∷ ks) (Some v ∷ xs) key
in_first c k ks v xs key is same kind =
    let it : key ≡ heading k = column_is key (heading k) same in
    record {
      value = v;
      cell = rw same refl;
      kind = subst (λ (q : Column). same_kind (kind_of v) q.kind ≡ true) (sym it) kind;
      found = rw is (subst (λ (q : Column). (if same_name k.name q.name then Some v else cell_of (row_of (map (column_at c) ks) xs) q.name) ≡ Some v) (sym it) (rw (name_same k.name) refl));
    }

pub apart : (key : Column) (name : ColName) (rest : List Column) (same : Bool) → has_name name rest ≡ false → among key rest ≡ true → same_name name key.name ≡ same → same ≡ false
apart key name rest false lacks there is = refl
apart key name rest true lacks there is =
    absurd (true≢false (sym (among_named key rest there) ∙ sym (ap (λ n. has_name n rest) (name_is name key.name is)) ∙ lacks))

behind_other : (c : List ℕ) (k : VColumn) (ks : List VColumn) (v : Value) (xs : List (Option Value)) (key : Column) → satisfies c k.cond ≡ true → same_column key (heading k) ≡ false → has_name k.name (columns_at c ks) ≡ false → among key (columns_at c ks) ≡ true → Held c ks xs key → Held c (k ∷ ks) (Some v ∷ xs) key
behind_other c k ks v xs key is other lacks there it = record {
  value = it.value;
  cell = rw other it.cell;
  kind = it.kind;
  found = rw (is, apart key k.name (columns_at c ks) (same_name k.name key.name) lacks there refl) it.found;
}

no_cell : (c : List ℕ) (k : VColumn) (ks : List VColumn) (there : Bool) → satisfies c k.cond ≡ there → fits (map (column_at c) (k ∷ ks)) [] ≡ true → ⊥
no_cell c k ks true is h = true≢false (sym (rw is at h))
no_cell c k ks false is h = true≢false (sym (rw is at h))

held_first : (c : List ℕ) (k : VColumn) (ks : List VColumn) (v : Value) (xs : List (Option Value)) (key : Column) (same : Bool) → satisfies c k.cond ≡ true → same_column key (heading k) ≡ same → same_kind (kind_of v) k.kind ≡ true → has_name k.name (columns_at c ks) ≡ false → (same_column key (heading k) || among key (columns_at c ks)) ≡ true → (among key (columns_at c ks) ≡ true → Held c ks xs key) → Held c (k ∷ ks) (Some v ∷ xs) key
held_first c k ks v xs key true is same kind lacks there rest = in_first c k ks v xs key is same kind
held_first c k ks v xs key false is same kind lacks there rest =
    let later : among key (columns_at c ks) ≡ true = rw same at there in
    behind_other c k ks v xs key is same lacks later (rest later)

held_step : (c : List ℕ) (k : VColumn) (ks : List VColumn) (x : Option Value) (xs : List (Option Value)) (key : Column) (there : Bool) → satisfies c k.cond ≡ there → among (heading k) (headings ks) ≡ false → names_are_distinct (columns_at c (k ∷ ks)) ≡ true → fits (map (column_at c) (k ∷ ks)) (x ∷ xs) ≡ true → among key (columns_at c (k ∷ ks)) ≡ true → (names_are_distinct (columns_at c ks) ≡ true → fits (map (column_at c) ks) xs ≡ true → among key (columns_at c ks) ≡ true → Held c ks xs key) → Held c (k ∷ ks) (x ∷ xs) key
held_step c k ks x xs key false is once distinct fit h rest =
    let later : among key (columns_at c ks) ≡ true = rw is at h in
    behind_absent c k ks x xs key (same_column key (heading k)) is refl once later (rest (rw is at distinct) (rw is at fit) later)
held_step c k ks None xs key true is once distinct fit h rest = absurd (true≢false (sym (rw is at fit)))
held_step c k ks (Some v) xs key true is once distinct fit h rest =
    let names = rw is at distinct in
    let fit' : (same_kind (kind_of v) k.kind && fits (map (column_at c) ks) xs) ≡ true = rw is at fit in
    held_first c k ks v xs key (same_column key (heading k)) is refl
    (and_first _ _ fit')
    (not_true _ (and_first (not (has_name k.name (columns_at c ks))) (names_are_distinct (columns_at c ks)) names))
    (rw is at h)
    (rest (and_second (not (has_name k.name (columns_at c ks))) (names_are_distinct (columns_at c ks)) names) (and_second (same_kind (kind_of v) k.kind) _ fit'))

pub held : (c : List ℕ) (columns : List VColumn) (cells : List (Option Value)) (key : Column) → once_each (headings columns) ≡ true → names_are_distinct (columns_at c columns) ≡ true → fits (map (column_at c) columns) cells ≡ true → among key (columns_at c columns) ≡ true → Held c columns cells key
held c [] cells key once distinct fit h = absurd (true≢false (sym h))
held c (k ∷ ks) [] key once distinct fit h = absurd (no_cell c k ks (satisfies c k.cond) refl fit)
held c (k ∷ ks) (x ∷ xs) key once distinct fit h =
    let parts = once_parts (heading k) (headings ks) once in
    held_step c k ks x xs key (satisfies c k.cond) refl parts.0 distinct fit h (held c ks xs key parts.1)

-- ---- laid under other columns

-- each column that is there now was there before
pub record IsWithinAt (c : List ℕ) (to columns : List VColumn) : Type 0 where
  pub within : (key : Column) → among key (columns_at c to) ≡ true → among key (columns_at c columns) ≡ true

within_tail : (c : List ℕ) (t : VColumn) (ts columns : List VColumn) (there : Bool) → satisfies c t.cond ≡ there → IsWithinAt c (t ∷ ts) columns → IsWithinAt c ts columns
within_tail c t ts columns true is w = record { within = λ key h. w.within key (rw is (or_end (same_column key (heading t)) _ h)) }
within_tail c t ts columns false is w = record { within = λ key h. w.within key (rw is h) }

module _ (c : List ℕ) (columns : List VColumn) (cells : List (Option Value)) (once : once_each (headings columns) ≡ true) (distinct : names_are_distinct (columns_at c columns) ≡ true) (fit : fits (map (column_at c) columns) cells ≡ true) where
  lay_step : (t : VColumn) (ts : List VColumn) (there : Bool) → satisfies c t.cond ≡ there → IsWithinAt c (t ∷ ts) columns → row_of (map (column_at c) ts) (laid_cells ts (slots_of columns cells)) ≡ laid (columns_at c ts) (row_of (map (column_at c) columns) cells) → row_of (map (column_at c) (t ∷ ts)) (laid_cells (t ∷ ts) (slots_of columns cells)) ≡ laid (columns_at c (t ∷ ts)) (row_of (map (column_at c) columns) cells)
  lay_step t ts false is w rest = rw is rest
  lay_step t ts true is w rest =
      let it = held c columns cells (heading t) once distinct fit (w.within (heading t) (rw is (or_start _ _ (column_same (heading t))))) in
      rw (is, it.cell, it.found) (ap (λ row. record { name = t.name; value = it.value } ∷ row) rest)

  pub lay_row : (to : List VColumn) → IsWithinAt c to columns → row_of (map (column_at c) to) (laid_cells to (slots_of columns cells)) ≡ laid (columns_at c to) (row_of (map (column_at c) columns) cells)
  lay_row [] w = refl
  lay_row (t ∷ ts) w = lay_step t ts (satisfies c t.cond) refl w (lay_row ts (within_tail c t ts columns (satisfies c t.cond) refl w))

  fit_step : (t : VColumn) (ts : List VColumn) (there : Bool) → satisfies c t.cond ≡ there → IsWithinAt c (t ∷ ts) columns → fits (map (column_at c) ts) (laid_cells ts (slots_of columns cells)) ≡ true → fits (map (column_at c) (t ∷ ts)) (laid_cells (t ∷ ts) (slots_of columns cells)) ≡ true
  fit_step t ts false is w rest = rw is rest
  fit_step t ts true is w rest =
      let it = held c columns cells (heading t) once distinct fit (w.within (heading t) (rw is (or_start _ _ (column_same (heading t))))) in
      rw (is, it.cell) (both _ _ it.kind rest)

  pub lay_fits : (to : List VColumn) → IsWithinAt c to columns → fits (map (column_at c) to) (laid_cells to (slots_of columns cells)) ≡ true
  lay_fits [] w = refl
  lay_fits (t ∷ ts) w = fit_step t ts (satisfies c t.cond) refl w (lay_fits ts (within_tail c t ts columns (satisfies c t.cond) refl w))
