-- The rows that stay: there where the cut rows that have a cell are, formed, and no heavier.
use Rattle.std.proofs.Common.{◌≡◌, ℕ, ◌+◌, ◌≤◌, ◌==◌, ◌&&◌, ◌||◌, Bool, true, false, not, if◌then◌else◌, List, [], ◌∷◌, length, map, Option, Some, None, refl, sym, ◌∙◌, ap, ap₂, subst, rules, arith, inl, inr}
use Rattle.std.specs.List.{list_all, filter_map, cons_option}
use Rattle.std.specs.Prelude.{is_some}
use Rattle.std.proofs.lemmas.Map.Views.{exact_unsigned_eq}
use Rattle.feature_expr.specs.declared.expr.Expr.{Expr}
use Rattle.values.specs.declared.value.Value.{Value}
use Rattle.feature_expr.specs.Expressions.{weight_of}
use Rattle.feature_expr.specs.Satisfaction.{satisfies}
use Rattle.condition_sat.specs.Admitted.{IsAdmitted}
use Rattle.vtable.specs.declared.table.VColumn.{VColumn}
use Rattle.vtable.specs.declared.table.VRow.{VRow}
use Rattle.vtable.specs.Answers.{column_at, fits}
use Rattle.condition_sat.specs.Possible.{can_hold, can_meet, settled}
use Rattle.vtable.specs.TableForm.{same_cells, has_row_with, has_cell, cells_stand, is_row_formed, column_staying, columns_staying, cut_cells, cut_row}
use Rattle.vtable.specs.Passes.{row_staying}
use Rattle.vtable.proofs.CellLaws.{same_cells_are}
use Rattle.condition_sat.proofs.SettledLaws.{settled_holds, settled_is, settled_weight}
use Rattle.vtable.proofs.JoinedLaws.{beq_self}
use Rattle.vtable.proofs.CutLaws.{cut_is, meets_settled, settled_meets, one_stays, one_goes, cut_stays, cut_goes, column_there, fits_first, fits_rest}
use Rattle.condition_sat.proofs.PossibleLaws.{true_or_false, both, and_first, and_second, some_admitted_of, admitted_of, not_both}
use Rattle.vtable.proofs.RowsLaws.{rows_cost, choice_true, choice_false}

abbrev pub kept_as : Expr → VRow → List (Option Value) → Option VRow
kept_as model row cells = if can_hold model row.cond && has_cell cells then Some (record { cells = cells; cond = settled model row.cond }) else None

-- what is left of a row
abbrev pub kept : Expr → List VColumn → VRow → Option VRow
kept model columns row = kept_as model row (cut_cells model row.cond columns row.cells)

kept_is : (model : Expr) (columns : List VColumn) (row : VRow) → row_staying model (map (column_staying model) columns) row ≡ kept model columns row
kept_is model columns row = ap (kept_as model row) (cut_is model row.cond columns row.cells)

pub all_kept : (model : Expr) (columns : List VColumn) (rows : List VRow) → filter_map (row_staying model (map (column_staying model) columns)) rows ≡ filter_map (kept model columns) rows
all_kept model columns [] = refl
all_kept model columns (row ∷ rows) = ap₂ cons_option (kept_is model columns row) (all_kept model columns rows)

pub row_kept : (model : Expr) (columns : List VColumn) (row : VRow) (rows : List VRow) → (can_hold model row.cond && has_cell (cut_cells model row.cond columns row.cells)) ≡ true → filter_map (kept model columns) (row ∷ rows) ≡ record { cells = cut_cells model row.cond columns row.cells; cond = settled model row.cond } ∷ filter_map (kept model columns) rows
row_kept model columns row rows stays = ap (λ x. cons_option x (filter_map (kept model columns) rows)) (choice_true _ _ _ stays)

pub row_gone : (model : Expr) (columns : List VColumn) (row : VRow) (rows : List VRow) → (can_hold model row.cond && has_cell (cut_cells model row.cond columns row.cells)) ≡ false → filter_map (kept model columns) (row ∷ rows) ≡ filter_map (kept model columns) rows
row_gone model columns row rows gone = ap (λ x. cons_option x (filter_map (kept model columns) rows)) (choice_false _ _ _ gone)

and-false : (b : Bool) → (b && false) ≡ false
and-false true = refl
and-false false = refl

kept_stands : (s m h r : Bool) → (m ≡ true → h ≡ true) → ((s && m) || (h && r)) ≡ (h && ((s && m) || r))
kept_stands s true true r has = refl
kept_stands s true false r has = absurd (not_both false (has refl) refl)
kept_stands true false true r has = refl
kept_stands true false false r has = refl
kept_stands false false true r has = refl
kept_stands false false false r has = refl

gone_stands : (s m h r : Bool) → (s ≡ true → m ≡ true → h ≡ false) → (h && r) ≡ (h && ((s && m) || r))
gone_stands true true true r none = absurd (not_both true refl (none refl refl))
gone_stands true true false r none = refl
gone_stands true false true r none = refl
gone_stands true false false r none = refl
gone_stands false m true r none = refl
gone_stands false m false r none = refl

not_second : (a b : Bool) → (a && b) ≡ false → a ≡ true → b ≡ false
not_second true b h k = h
not_second false b h k = search rules

pub kept_stand : (model : Expr) (columns : List VColumn) (c : List ℕ) → IsAdmitted model c → (cells : List (Option Value)) (rows : List VRow) → has_row_with c cells (filter_map (kept model columns) rows) ≡ (has_cell cells && has_row_with c cells (map (cut_row model columns) rows))
kept_stand model columns c admitted cells [] = sym (and-false (has_cell cells))
kept_stand model columns c admitted cells (row ∷ rows) =
    let cut : List (Option Value) = cut_cells model row.cond columns row.cells in
    let rest = kept_stand model columns c admitted cells rows in
    elim (true_or_false (can_hold model row.cond && has_cell (cut_cells model row.cond columns row.cells))) [
      | inl stays ↦
          ap (has_row_with c cells) (row_kept model columns row rows stays)
          ∙ ap₂ (λ s r. (s && same_cells cut cells) || r) (settled_holds model row.cond c admitted) rest
          ∙ kept_stands (satisfies c row.cond) (same_cells cut cells) (has_cell cells) (has_row_with c cells (map (cut_row model columns) rows))
          (λ same. subst (λ xs. has_cell xs ≡ true) (same_cells_are cut cells same) (and_second (can_hold model row.cond) (has_cell cut) stays))
      | inr gone ↦
          ap (has_row_with c cells) (row_gone model columns row rows gone)
          ∙ rest
          ∙ gone_stands (satisfies c row.cond) (same_cells cut cells) (has_cell cells) (has_row_with c cells (map (cut_row model columns) rows))
          (λ here same. subst (λ xs. has_cell xs ≡ false) (same_cells_are cut cells same) (not_second (can_hold model row.cond) (has_cell cut) gone (some_admitted_of model (λ d. satisfies d row.cond) c admitted here)))
    ]

some_of : (b : Bool) (cell : Option Value) → (b ≡ true → is_some cell ≡ true) → is_some (if b then cell else None) ≡ b
some_of true cell h = h refl
some_of false cell h = refl

shorter : {X Y : Type 0} (x : X) (xs : List X) (y : Y) (ys : List Y) → length (x ∷ xs) ≡ length (y ∷ ys) → length xs ≡ length ys
shorter x xs y ys h =
    let one : length (x ∷ xs) ≡ length xs + 1 = search rules in
    let other : length (y ∷ ys) ≡ length ys + 1 = search rules in
    omega arith

not_empty : {X : Type 0} (x : X) (xs : List X) → 0 ≡ length (x ∷ xs) → ⊥
not_empty x xs h = let one : length (x ∷ xs) ≡ length xs + 1 = search rules in omega arith

filled_cell : (model cond : Expr) (column : VColumn) (columns : List VColumn) (cell : Option Value) (cells : List (Option Value)) → ((c : List ℕ) → IsAdmitted model c → satisfies c cond ≡ true → fits (map (column_at c) (column ∷ columns)) (cell ∷ cells) ≡ true) → can_meet model cond column.cond ≡ true → is_some cell ≡ true
filled_cell model cond column columns cell cells filled meets =
    let found = admitted_of model (λ c. satisfies c cond && satisfies c column.cond) meets in
    let here = and_first (satisfies found.config cond) (satisfies found.config column.cond) found.has in
    let there = and_second (satisfies found.config cond) (satisfies found.config column.cond) found.has in
    fits_first (record { name = column.name; kind = column.kind }) (map (column_at found.config) columns) cell cells
    (subst (λ x. fits (x ∷ map (column_at found.config) columns) (cell ∷ cells) ≡ true) (column_there found.config column there) (filled found.config found.admitted here))

-- a cut row has its cells where it and the column can be there together
cut_stand : (model cond : Expr) (columns : List VColumn) (cells : List (Option Value)) → length cells ≡ length columns → ((c : List ℕ) → IsAdmitted model c → satisfies c cond ≡ true → fits (map (column_at c) columns) cells ≡ true) → cells_stand model (settled model cond) (columns_staying model columns) (cut_cells model cond columns cells) ≡ true
cut_stand model cond [] cells long filled = refl
cut_stand model cond (column ∷ columns) [] long filled = absurd (not_empty column columns long)
cut_stand model cond (column ∷ columns) (cell ∷ cells) long filled =
    let rest = cut_stand model cond columns cells (shorter cell cells column columns long) (λ c admitted here. fits_rest (column_at c column) (map (column_at c) columns) cell cells (filled c admitted here)) in
    elim (true_or_false (can_hold model column.cond)) [
      | inl holds ↦
          ap₂ (λ ks vs. cells_stand model (settled model cond) ks vs) (one_stays model column columns holds) (cut_stays model cond column columns cell cells holds)
          ∙ both _ _ (beq_self _ _ (some_of (can_meet model cond column.cond) cell (filled_cell model cond column columns cell cells filled) ∙ sym (settled_meets model cond (settled model column.cond) ∙ meets_settled model cond column.cond))) rest
      | inr never ↦
          ap₂ (λ ks vs. cells_stand model (settled model cond) ks vs) (one_goes model column columns never) (cut_goes model cond column columns cell cells never) ∙ rest
    ]

-- a row that is there has a cell in each column that is there
abbrev pub is_filled : List ℕ → List VColumn → VRow → Bool
is_filled c columns row = not (satisfies c row.cond) || fits (map (column_at c) columns) row.cells

abbrev pub is_long : List VColumn → VRow → Bool
is_long columns row = length row.cells == length columns

pub filled_here : (a b : Bool) → (not a || b) ≡ true → a ≡ true → b ≡ true
filled_here true b h k = h
filled_here false b h k = search rules

long_row : (model : Expr) (columns : List VColumn) (row : VRow) (rows : List VRow) → ((c : List ℕ) → IsAdmitted model c → list_all (is_long columns) (row ∷ rows) ≡ true) → can_hold model row.cond ≡ true → is_long columns row ≡ true
long_row model columns row rows long holds =
    let found = admitted_of model (λ c. satisfies c row.cond) holds in
    and_first (is_long columns row) (list_all (is_long columns) rows) (long found.config found.admitted)

pub kept_formed : (model : Expr) (columns : List VColumn) (rows : List VRow) → ((c : List ℕ) → IsAdmitted model c → list_all (is_long columns) rows ≡ true) → ((c : List ℕ) → IsAdmitted model c → list_all (is_filled c columns) rows ≡ true) → list_all (is_row_formed model (columns_staying model columns)) (filter_map (kept model columns) rows) ≡ true
kept_formed model columns [] long filled = refl
kept_formed model columns (row ∷ rows) long filled =
    let rest = kept_formed model columns rows (λ c admitted. and_second (is_long columns row) (list_all (is_long columns) rows) (long c admitted)) (λ c admitted. and_second (is_filled c columns row) (list_all (is_filled c columns) rows) (filled c admitted)) in
    elim (true_or_false (can_hold model row.cond && has_cell (cut_cells model row.cond columns row.cells))) [
      | inl stays ↦
          ap (list_all (is_row_formed model (columns_staying model columns))) (row_kept model columns row rows stays)
          ∙ both _ _
          (both _ _
          (both _ _ (settled_is model row.cond (and_first (can_hold model row.cond) (has_cell (cut_cells model row.cond columns row.cells)) stays))
          (cut_stand model row.cond columns row.cells (exact_unsigned_eq _ _ (long_row model columns row rows long (and_first (can_hold model row.cond) (has_cell (cut_cells model row.cond columns row.cells)) stays)))
          (λ c admitted here. filled_here (satisfies c row.cond) (fits (map (column_at c) columns) row.cells) (and_first (is_filled c columns row) (list_all (is_filled c columns) rows) (filled c admitted)) here)))
          (and_second (can_hold model row.cond) (has_cell (cut_cells model row.cond columns row.cells)) stays))
          rest
      | inr gone ↦ ap (list_all (is_row_formed model (columns_staying model columns))) (row_gone model columns row rows gone) ∙ rest
    ]

pub kept_cost : (model : Expr) (columns : List VColumn) (rows : List VRow) → rows_cost (filter_map (kept model columns) rows) ≤ rows_cost rows
kept_cost model columns [] = search rules
kept_cost model columns (row ∷ rows) =
    let rest : rows_cost (filter_map (kept model columns) rows) ≤ rows_cost rows = kept_cost model columns rows in
    let less : weight_of (settled model row.cond) ≤ weight_of row.cond = settled_weight model row.cond in
    elim (true_or_false (can_hold model row.cond && has_cell (cut_cells model row.cond columns row.cells))) [
      | inl stays ↦ subst (λ xs. rows_cost xs ≤ rows_cost (row ∷ rows)) (sym (row_kept model columns row rows stays)) (omega arith)
      | inr gone ↦ subst (λ xs. rows_cost xs ≤ rows_cost (row ∷ rows)) (sym (row_gone model columns row rows gone)) (omega arith)
    ]

length-cons : {X : Type 0} (x : X) (xs : List X) → length (x ∷ xs) ≡ length xs + 1
length-cons x xs = search rules

pub kept_fewer : (model : Expr) (columns : List VColumn) (rows : List VRow) → length (filter_map (kept model columns) rows) ≤ length rows
kept_fewer model columns [] = search rules
kept_fewer model columns (row ∷ rows) =
    let rest : length (filter_map (kept model columns) rows) ≤ length rows = kept_fewer model columns rows in
    let all : length (row ∷ rows) ≡ length rows + 1 = length-cons row rows in
    elim (true_or_false (can_hold model row.cond && has_cell (cut_cells model row.cond columns row.cells))) [
      | inl stays ↦
          let one = length-cons (record { cells = cut_cells model row.cond columns row.cells; cond = settled model row.cond }) (filter_map (kept model columns) rows) in
          subst (λ n. n ≤ length (row ∷ rows)) (sym (ap length (row_kept model columns row rows stays) ∙ one)) (omega arith)
      | inr gone ↦ subst (λ xs. length xs ≤ length (row ∷ rows)) (sym (row_gone model columns row rows gone)) (omega arith)
    ]
