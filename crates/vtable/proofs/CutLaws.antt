-- Rows and columns that are cut to what can be seen together.
use Rattle.std.proofs.Common.{◌≡◌, ℕ, ◌&&◌, ◌||◌, Bool, true, false, not, if◌then◌else◌, List, [], ◌∷◌, ◌++◌, map, Option, Some, None, refl, sym, ◌∙◌, ap, ap₂, subst, rules, ◌⊎◌, inl, inr}
use Rattle.std.specs.List.{list_any, list_all, cons_option}
use Rattle.std.specs.Prelude.{is_some}
use Rattle.feature_expr.specs.declared.expr.Expr.{Expr}
use Rattle.values.specs.declared.value.Value.{Value}
use Rattle.feature_expr.specs.Satisfaction.{satisfies}
use Rattle.condition_sat.specs.Admitted.{IsAdmitted}
use Rattle.plain_relation.specs.Relations.{columns_of, row_of}
use Rattle.plain_relation.specs.Relations as plain
use Rattle.vtable.specs.declared.decision.Fate.TheVariants as fate
use Rattle.vtable.specs.declared.table.VColumn.{VColumn}
use Rattle.vtable.specs.Answers.{column_at, fits}
use Rattle.condition_sat.specs.Possible.{can_hold, can_meet, is_settled, settled}
use Rattle.vtable.specs.TableForm.{has_cell, settled_column, column_staying, columns_staying, columns_are_distinct, same_column, cut_cells}
use Rattle.vtable.specs.Passes.{staying, fate_of, cells_by, cell_by}
use Rattle.condition_sat.proofs.SettledLaws.{settled_holds, settled_is}
use Rattle.condition_sat.proofs.PossibleLaws.{true_or_false, both, and_first, and_second, or_left, or_right, some_admitted_of, some_admitted_same, each_fails}
use Rattle.vtable.proofs.RowsLaws.{choice_true, choice_false}

-- ---- columns

pub meets_settled : (model cond column : Expr) → can_meet model cond (settled model column) ≡ can_meet model cond column
meets_settled model cond column = some_admitted_same model (λ c. satisfies c cond && satisfies c (settled model column)) (λ c. satisfies c cond && satisfies c column) (λ c admitted. ap (λ b. satisfies c cond && b) (settled_holds model column c admitted))

pub settled_meets : (model cond column : Expr) → can_meet model (settled model cond) column ≡ can_meet model cond column
settled_meets model cond column = some_admitted_same model (λ c. satisfies c (settled model cond) && satisfies c column) (λ c. satisfies c cond && satisfies c column) (λ c admitted. ap (λ b. b && satisfies c column) (settled_holds model cond c admitted))

stays : (model : Expr) (column : VColumn) → can_hold model column.cond ≡ true → column_staying model column ≡ Some (settled_column model column)
stays model column holds = choice_true _ _ _ holds

goes : (model : Expr) (column : VColumn) → can_hold model column.cond ≡ false → column_staying model column ≡ None
goes model column never = choice_false _ _ _ never

pub staying_is : (model : Expr) (columns : List VColumn) → staying (map (column_staying model) columns) ≡ columns_staying model columns
staying_is model [] = refl
staying_is model (column ∷ columns) = ap (λ xs. cons_option (column_staying model column) xs) (staying_is model columns)

pub one_stays : (model : Expr) (column : VColumn) (columns : List VColumn) → can_hold model column.cond ≡ true → columns_staying model (column ∷ columns) ≡ settled_column model column ∷ columns_staying model columns
one_stays model column columns holds = ap (λ x. cons_option x (columns_staying model columns)) (stays model column holds)

pub one_goes : (model : Expr) (column : VColumn) (columns : List VColumn) → can_hold model column.cond ≡ false → columns_staying model (column ∷ columns) ≡ columns_staying model columns
one_goes model column columns never = ap (λ x. cons_option x (columns_staying model columns)) (goes model column never)

pub columns_are_settled : (model : Expr) (columns : List VColumn) → list_all (λ (column : VColumn). is_settled model column.cond) (columns_staying model columns) ≡ true
columns_are_settled model [] = refl
columns_are_settled model (column ∷ columns) =
    elim (true_or_false (can_hold model column.cond)) [
      | inl holds ↦ ap (list_all (λ (k : VColumn). is_settled model k.cond)) (one_stays model column columns holds) ∙ both _ _ (settled_is model column.cond holds) (columns_are_settled model columns)
      | inr never ↦ ap (list_all (λ (k : VColumn). is_settled model k.cond)) (one_goes model column columns never) ∙ columns_are_settled model columns
    ]

not_true : (b : Bool) → not b ≡ true → b ≡ false
not_true true h = sym h
not_true false h = refl

first_false : (a b : Bool) → (a || b) ≡ false → a ≡ false
first_false true b h = h
first_false false b h = refl

second_false : (a b : Bool) → (a || b) ≡ false → b ≡ false
second_false true b h = search rules
second_false false b h = h

neither : (a b : Bool) → a ≡ false → b ≡ false → (a || b) ≡ false
neither true b h k = search rules
neither false b h k = k

none_same : (model : Expr) (one : VColumn) (columns : List VColumn) → list_any (same_column one) columns ≡ false → list_any (same_column (settled_column model one)) (columns_staying model columns) ≡ false
none_same model one [] h = refl
none_same model one (column ∷ columns) h =
    elim (true_or_false (can_hold model column.cond)) [
      | inl holds ↦ ap (list_any (same_column (settled_column model one))) (one_stays model column columns holds)
          ∙ neither (same_column one column) (list_any (same_column (settled_column model one)) (columns_staying model columns)) (first_false (same_column one column) (list_any (same_column one) columns) h) (none_same model one columns (second_false (same_column one column) (list_any (same_column one) columns) h))
      | inr never ↦ ap (list_any (same_column (settled_column model one))) (one_goes model column columns never) ∙ none_same model one columns (second_false (same_column one column) (list_any (same_column one) columns) h)
    ]

pub staying_are_distinct : (model : Expr) (columns : List VColumn) → columns_are_distinct columns ≡ true → columns_are_distinct (columns_staying model columns) ≡ true
staying_are_distinct model [] h = refl
staying_are_distinct model (column ∷ columns) h =
    elim (true_or_false (can_hold model column.cond)) [
      | inl holds ↦ ap columns_are_distinct (one_stays model column columns holds)
          ∙ both _ _ (ap not (none_same model column columns (not_true _ (and_first (not (list_any (same_column column) columns)) (columns_are_distinct columns) h)))) (staying_are_distinct model columns (and_second (not (list_any (same_column column) columns)) (columns_are_distinct columns) h))
      | inr never ↦ ap columns_are_distinct (one_goes model column columns never) ∙ staying_are_distinct model columns (and_second (not (list_any (same_column column) columns)) (columns_are_distinct columns) h)
    ]

pub column_there : (c : List ℕ) (column : VColumn) → satisfies c column.cond ≡ true → column_at c column ≡ Some (record { name = column.name; kind = column.kind })
column_there c column holds = choice_true _ _ _ holds

pub column_away : (c : List ℕ) (column : VColumn) → satisfies c column.cond ≡ false → column_at c column ≡ None
column_away c column fails = choice_false _ _ _ fails

pub settled_at : (model : Expr) (c : List ℕ) → IsAdmitted model c → (column : VColumn) → column_at c (settled_column model column) ≡ column_at c column
settled_at model c admitted column = ap (λ (b : Bool). if b then Some (record { name = column.name; kind = column.kind }) else None) (settled_holds model column.cond c admitted)

with_place : (place : Option plain.Column) (one other : List (Option plain.Column)) → columns_of one ≡ columns_of other → columns_of (place ∷ one) ≡ columns_of (place ∷ other)
with_place None one other h = h
with_place (Some column) one other h = ap (λ xs. column ∷ xs) h

-- the columns that are there stay
pub same_columns : (model : Expr) (c : List ℕ) → IsAdmitted model c → (columns : List VColumn) → columns_of (map (column_at c) (columns_staying model columns)) ≡ columns_of (map (column_at c) columns)
same_columns model c admitted [] = refl
same_columns model c admitted (column ∷ columns) =
    elim (true_or_false (can_hold model column.cond)) [
      | inl holds ↦ ap (λ xs. columns_of (map (column_at c) xs)) (one_stays model column columns holds)
          ∙ ap (λ x. columns_of (x ∷ map (column_at c) (columns_staying model columns))) (settled_at model c admitted column)
          ∙ with_place (column_at c column) _ _ (same_columns model c admitted columns)
      | inr never ↦ ap (λ xs. columns_of (map (column_at c) xs)) (one_goes model column columns never)
          ∙ same_columns model c admitted columns
          ∙ ap (λ x. columns_of (x ∷ map (column_at c) columns)) (sym (column_away c column (each_fails model (λ d. satisfies d column.cond) never c admitted)))
    ]

-- ---- cells

pub cut_stays : (model cond : Expr) (column : VColumn) (columns : List VColumn) (cell : Option Value) (cells : List (Option Value)) → can_hold model column.cond ≡ true → cut_cells model cond (column ∷ columns) (cell ∷ cells) ≡ (if can_meet model cond column.cond then cell else None) ∷ cut_cells model cond columns cells
cut_stays model cond column columns cell cells holds = choice_true _ _ _ holds

pub cut_goes : (model cond : Expr) (column : VColumn) (columns : List VColumn) (cell : Option Value) (cells : List (Option Value)) → can_hold model column.cond ≡ false → cut_cells model cond (column ∷ columns) (cell ∷ cells) ≡ cut_cells model cond columns cells
cut_goes model cond column columns cell cells never = choice_false _ _ _ never

by_fate : (b : Bool) (cell : Option Value) → cell_by (if b then fate.Kept else fate.Blanked) cell ≡ (if b then cell else None) ∷ []
by_fate true cell = refl
by_fate false cell = refl

-- cells that are cut by what was decided of the columns
pub cut_is : (model cond : Expr) (columns : List VColumn) (cells : List (Option Value)) → cells_by (map (fate_of model cond) (map (column_staying model) columns)) cells ≡ cut_cells model cond columns cells
cut_is model cond [] cells = refl
cut_is model cond (column ∷ columns) [] = refl
cut_is model cond (column ∷ columns) (cell ∷ cells) =
    let rest : List (Option Value) = cells_by (map (fate_of model cond) (map (column_staying model) columns)) cells in
    elim (true_or_false (can_hold model column.cond)) [
      | inl holds ↦
          ap (λ x. cell_by (fate_of model cond x) cell ++ rest) (stays model column holds)
          ∙ ap (λ xs. xs ++ rest) (by_fate (can_meet model cond (settled model column.cond)) cell ∙ ap (λ (b : Bool). (if b then cell else None) ∷ []) (meets_settled model cond column.cond))
          ∙ ap (λ xs. (if can_meet model cond column.cond then cell else None) ∷ xs) (cut_is model cond columns cells)
          ∙ sym (cut_stays model cond column columns cell cells holds)
      | inr never ↦
          ap (λ x. cell_by (fate_of model cond x) cell ++ rest) (goes model column never)
          ∙ cut_is model cond columns cells
          ∙ sym (cut_goes model cond column columns cell cells never)
    ]

pub both_hold : (model cond column : Expr) (c : List ℕ) → IsAdmitted model c → satisfies c cond ≡ true → satisfies c column ≡ true → can_meet model cond column ≡ true
both_hold model cond column c admitted row_here column_here = some_admitted_of model (λ d. satisfies d cond && satisfies d column) c admitted (both (satisfies c cond) (satisfies c column) row_here column_here)

row_of_nil : (places : List (Option plain.Column)) → row_of places [] ≡ []
row_of_nil [] = refl
row_of_nil (place ∷ places) = refl

with_cell : (place : Option plain.Column) (one other : List (Option plain.Column)) (cell : Option Value) (ones others : List (Option Value)) → row_of one ones ≡ row_of other others → row_of (place ∷ one) (cell ∷ ones) ≡ row_of (place ∷ other) (cell ∷ others)
with_cell None one other cell ones others h = h
with_cell (Some column) one other None ones others h = h
with_cell (Some column) one other (Some value) ones others h = ap (λ xs. record { name = column.name; value = value } ∷ xs) h

same_cell : (model cond : Expr) (c : List ℕ) → IsAdmitted model c → satisfies c cond ≡ true → (column : VColumn) (columns : List VColumn) (cell : Option Value) (cells : List (Option Value)) → row_of (map (column_at c) (columns_staying model columns)) (cut_cells model cond columns cells) ≡ row_of (map (column_at c) columns) cells → (satisfies c column.cond ≡ true) ⊎ (satisfies c column.cond ≡ false) → row_of (column_at c column ∷ map (column_at c) (columns_staying model columns)) ((if can_meet model cond column.cond then cell else None) ∷ cut_cells model cond columns cells) ≡ row_of (column_at c column ∷ map (column_at c) columns) (cell ∷ cells)
same_cell model cond c admitted here column columns cell cells rest (inl there) =
    ap (λ (b : Bool). row_of (column_at c column ∷ map (column_at c) (columns_staying model columns)) ((if b then cell else None) ∷ cut_cells model cond columns cells)) (both_hold model cond column.cond c admitted here there)
    ∙ with_cell (column_at c column) _ _ cell _ _ rest
same_cell model cond c admitted here column columns cell cells rest (inr away) =
    ap (λ x. row_of (x ∷ map (column_at c) (columns_staying model columns)) ((if can_meet model cond column.cond then cell else None) ∷ cut_cells model cond columns cells)) (column_away c column away)
    ∙ rest
    ∙ ap (λ x. row_of (x ∷ map (column_at c) columns) (cell ∷ cells)) (sym (column_away c column away))

-- a row that is there is the same row when it is cut
pub same_row : (model cond : Expr) (c : List ℕ) → IsAdmitted model c → satisfies c cond ≡ true → (columns : List VColumn) (cells : List (Option Value)) → row_of (map (column_at c) (columns_staying model columns)) (cut_cells model cond columns cells) ≡ row_of (map (column_at c) columns) cells
same_row model cond c admitted here [] cells = refl
same_row model cond c admitted here (column ∷ columns) [] = row_of_nil (map (column_at c) (columns_staying model (column ∷ columns)))
same_row model cond c admitted here (column ∷ columns) (cell ∷ cells) =
    let rest = same_row model cond c admitted here columns cells in
    elim (true_or_false (can_hold model column.cond)) [
      | inl holds ↦
          ap₂ (λ xs vs. row_of (map (column_at c) xs) vs) (one_stays model column columns holds) (cut_stays model cond column columns cell cells holds)
          ∙ ap (λ x. row_of (x ∷ map (column_at c) (columns_staying model columns)) ((if can_meet model cond column.cond then cell else None) ∷ cut_cells model cond columns cells)) (settled_at model c admitted column)
          ∙ same_cell model cond c admitted here column columns cell cells rest (true_or_false (satisfies c column.cond))
      | inr never ↦
          ap₂ (λ xs vs. row_of (map (column_at c) xs) vs) (one_goes model column columns never) (cut_goes model cond column columns cell cells never)
          ∙ rest
          ∙ ap (λ x. row_of (x ∷ map (column_at c) columns) (cell ∷ cells)) (sym (column_away c column (each_fails model (λ d. satisfies d column.cond) never c admitted)))
    ]

pub fits_first : (column : plain.Column) (places : List (Option plain.Column)) (cell : Option Value) (cells : List (Option Value)) → fits (Some column ∷ places) (cell ∷ cells) ≡ true → is_some cell ≡ true
fits_first column places None cells h = search rules
fits_first column places (Some value) cells h = refl

pub fits_rest : (place : Option plain.Column) (places : List (Option plain.Column)) (cell : Option Value) (cells : List (Option Value)) → fits (place ∷ places) (cell ∷ cells) ≡ true → fits places cells ≡ true
fits_rest None places cell cells h = h
fits_rest (Some column) places None cells h = search rules
fits_rest (Some column) places (Some value) cells h = and_second _ _ h

never_fits : (place : Option plain.Column) (places : List (Option plain.Column)) → fits (place ∷ places) [] ≡ true → ⊥
never_fits None places h = search rules
never_fits (Some column) places h = search rules

more_cells : (model cond : Expr) (column : VColumn) (columns : List VColumn) (cell : Option Value) (cells : List (Option Value)) → has_cell (cut_cells model cond columns cells) ≡ true → (can_hold model column.cond ≡ true) ⊎ (can_hold model column.cond ≡ false) → has_cell (cut_cells model cond (column ∷ columns) (cell ∷ cells)) ≡ true
more_cells model cond column columns cell cells rest (inl holds) = ap has_cell (cut_stays model cond column columns cell cells holds) ∙ or_right _ _ rest
more_cells model cond column columns cell cells rest (inr never) = ap has_cell (cut_goes model cond column columns cell cells never) ∙ rest

-- where a column is there, a row that is there has a cell
pub some_cell : (model cond : Expr) (c : List ℕ) → IsAdmitted model c → satisfies c cond ≡ true → (columns : List VColumn) (cells : List (Option Value)) (first : plain.Column) (more : List plain.Column) → fits (map (column_at c) columns) cells ≡ true → columns_of (map (column_at c) columns) ≡ first ∷ more → has_cell (cut_cells model cond columns cells) ≡ true
some_cell model cond c admitted here [] cells first more h is = search rules
some_cell model cond c admitted here (column ∷ columns) [] first more h is = absurd (never_fits (column_at c column) (map (column_at c) columns) h)
some_cell model cond c admitted here (column ∷ columns) (cell ∷ cells) first more h is =
    elim (true_or_false (satisfies c column.cond)) [
      | inl there ↦
          let cell_there : is_some cell ≡ true = fits_first (record { name = column.name; kind = column.kind }) (map (column_at c) columns) cell cells (subst (λ x. fits (x ∷ map (column_at c) columns) (cell ∷ cells) ≡ true) (column_there c column there) h) in
          ap has_cell (cut_stays model cond column columns cell cells (some_admitted_of model (λ d. satisfies d column.cond) c admitted there))
          ∙ ap (λ (b : Bool). has_cell ((if b then cell else None) ∷ cut_cells model cond columns cells)) (both_hold model cond column.cond c admitted here there)
          ∙ or_left _ _ cell_there
      | inr away ↦
          let rest = some_cell model cond c admitted here columns cells first more (fits_rest (column_at c column) (map (column_at c) columns) cell cells h) (sym (ap (λ x. columns_of (x ∷ map (column_at c) columns)) (column_away c column away)) ∙ is) in
          more_cells model cond column columns cell cells rest (true_or_false (can_hold model column.cond))
    ]
