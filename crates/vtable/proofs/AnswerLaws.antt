-- A table in table form is a well-formed answer, as the table was.
use Rattle.std.proofs.Common.{◌≡◌, ℕ, suc, ◌==◌, ◌&&◌, Bool, true, false, if◌then◌else◌, List, [], ◌∷◌, length, map, Option, Some, None, refl, sym, ◌∙◌, ap, ap₂, subst, rules, arith, ◌⊎◌, inl, inr}
use Rattle.std.specs.List.{list_all, filter}
use Rattle.std.specs.Prelude.{is_some}
use Rattle.std.proofs.Math.Bool.{beq}
use Rattle.std.proofs.lemmas.Bool.Decides.{nat_tests}
use Rattle.feature_expr.specs.declared.expr.Expr.{Expr}
use Rattle.values.specs.declared.value.Value.{Value}
use Rattle.feature_expr.specs.Satisfaction.{satisfies}
use Rattle.values.specs.Value.{kind_of}
use Rattle.condition_sat.specs.Admitted.{IsAdmitted}
use Rattle.plain_relation.specs.Relations.{columns_of}
use Rattle.plain_relation.specs.Relations as plain
use Rattle.vtable.specs.declared.table.VColumn.{VColumn}
use Rattle.vtable.specs.declared.table.VRow.{VRow}
use Rattle.vtable.specs.declared.table.VTable.{VTable}
use Rattle.plain_relation.specs.Values.{same_kind}
use Rattle.vtable.specs.Answers.{column_at, fits, names_are_distinct, is_whole, IsAnswerAt}
use Rattle.condition_sat.specs.Possible.{can_hold, can_meet, is_settled}
use Rattle.vtable.specs.TableForm.{same_cells, has_row_with, has_cell, cells_stand, is_row_formed, columns_staying, cut_cells, cut_row}
use Rattle.vtable.proofs.CellLaws.{same_cells_are, same_cells_self}
use Rattle.vtable.proofs.CutLaws.{one_stays, one_goes, cut_stays, cut_goes, settled_at, column_away, both_hold, same_columns, fits_rest}
use Rattle.condition_sat.proofs.PossibleLaws.{true_or_false, both, and_first, and_second, or_left, or_right, or_cases}
use Rattle.vtable.proofs.RowsLaws.{choice_true, choice_false}
use Rattle.vtable.proofs.StayingLaws.{is_filled, filled_here}

-- one place and one cell more
fits_more : (place : Option plain.Column) (old : List (Option plain.Column)) (new : List (Option plain.Column)) (cell : Option Value) (cells cut : List (Option Value)) → fits (place ∷ old) (cell ∷ cells) ≡ true → fits new cut ≡ true → fits (place ∷ new) (cell ∷ cut) ≡ true
fits_more None old new cell cells cut h k = k
fits_more (Some column) old new None cells cut h k = search rules
fits_more (Some column) old new (Some value) cells cut h k = both (same_kind (kind_of value) column.kind) (fits new cut) (and_first (same_kind (kind_of value) column.kind) (fits old cells) h) k

never_fits : (place : Option plain.Column) (places : List (Option plain.Column)) → fits (place ∷ places) [] ≡ true → ⊥
never_fits None places h = search rules
never_fits (Some column) places h = search rules

module _ (model cond : Expr) (c : List ℕ) (admitted : IsAdmitted model c) (row_here : satisfies c cond ≡ true) where
  one_fits : (column : VColumn) (columns : List VColumn) (cell : Option Value) (cells : List (Option Value)) → fits (column_at c column ∷ map (column_at c) columns) (cell ∷ cells) ≡ true → fits (map (column_at c) (columns_staying model columns)) (cut_cells model cond columns cells) ≡ true → (satisfies c column.cond ≡ true) ⊎ (satisfies c column.cond ≡ false) → fits (column_at c column ∷ map (column_at c) (columns_staying model columns)) ((if can_meet model cond column.cond then cell else None) ∷ cut_cells model cond columns cells) ≡ true
  one_fits column columns cell cells h rest (inl there) =
      ap (λ (b : Bool). fits (column_at c column ∷ map (column_at c) (columns_staying model columns)) ((if b then cell else None) ∷ cut_cells model cond columns cells)) (both_hold model cond column.cond c admitted row_here there)
      ∙ fits_more (column_at c column) (map (column_at c) columns) (map (column_at c) (columns_staying model columns)) cell cells (cut_cells model cond columns cells) h rest
  one_fits column columns cell cells h rest (inr away) =
      ap (λ x. fits (x ∷ map (column_at c) (columns_staying model columns)) ((if can_meet model cond column.cond then cell else None) ∷ cut_cells model cond columns cells)) (column_away c column away) ∙ rest

  -- a row that fits still fits when it is cut
  pub cut_fits : (columns : List VColumn) (cells : List (Option Value)) → fits (map (column_at c) columns) cells ≡ true → fits (map (column_at c) (columns_staying model columns)) (cut_cells model cond columns cells) ≡ true
  cut_fits [] cells h = refl
  cut_fits (column ∷ columns) [] h = absurd (never_fits (column_at c column) (map (column_at c) columns) h)
  cut_fits (column ∷ columns) (cell ∷ cells) h =
      let rest = cut_fits columns cells (fits_rest (column_at c column) (map (column_at c) columns) cell cells h) in
      elim (true_or_false (can_hold model column.cond)) [
        | inl holds ↦
            ap₂ (λ xs vs. fits (map (column_at c) xs) vs) (one_stays model column columns holds) (cut_stays model cond column columns cell cells holds)
            ∙ ap (λ x. fits (x ∷ map (column_at c) (columns_staying model columns)) ((if can_meet model cond column.cond then cell else None) ∷ cut_cells model cond columns cells)) (settled_at model c admitted column)
            ∙ one_fits column columns cell cells h rest (true_or_false (satisfies c column.cond))
        | inr never ↦
            ap₂ (λ xs vs. fits (map (column_at c) xs) vs) (one_goes model column columns never) (cut_goes model cond column columns cell cells never) ∙ rest
      ]

-- whatever stands among the cut rows fits
cut_rows_fit : (model : Expr) (c : List ℕ) → IsAdmitted model c → (columns : List VColumn) (rows : List VRow) → list_all (is_filled c columns) rows ≡ true → (cells : List (Option Value)) → has_row_with c cells (map (cut_row model columns) rows) ≡ true → fits (map (column_at c) (columns_staying model columns)) cells ≡ true
cut_rows_fit model c admitted columns [] filled cells standing = search rules
cut_rows_fit model c admitted columns (row ∷ rows) filled cells standing =
    elim (or_cases (satisfies c row.cond && same_cells (cut_cells model row.cond columns row.cells) cells) (has_row_with c cells (map (cut_row model columns) rows)) standing) [
      | inl one ↦
          let is = and_first (satisfies c row.cond) (same_cells (cut_cells model row.cond columns row.cells) cells) one in
          subst (λ xs. fits (map (column_at c) (columns_staying model columns)) xs ≡ true) (same_cells_are (cut_cells model row.cond columns row.cells) cells (and_second (satisfies c row.cond) (same_cells (cut_cells model row.cond columns row.cells) cells) one))
          (cut_fits model row.cond c admitted is columns row.cells (filled_here (satisfies c row.cond) (fits (map (column_at c) columns) row.cells) (and_first (is_filled c columns row) (list_all (is_filled c columns) rows) filled) is))
      | inr later ↦ cut_rows_fit model c admitted columns rows (and_second (is_filled c columns row) (list_all (is_filled c columns) rows) filled) cells later
    ]

-- rows of which all that stands fits
all_fit : (c : List ℕ) (places : List (Option plain.Column)) (rows : List VRow) → ((cells : List (Option Value)) → has_row_with c cells rows ≡ true → fits places cells ≡ true) → list_all (fits places) (map (λ (row : VRow). row.cells) (filter (λ (row : VRow). satisfies c row.cond) rows)) ≡ true
all_fit c places [] fit = refl
all_fit c places (row ∷ rows) fit =
    let rest = all_fit c places rows (λ cells standing. fit cells (or_right (satisfies c row.cond && same_cells row.cells cells) (has_row_with c cells rows) standing)) in
    elim (true_or_false (satisfies c row.cond)) [
      | inl is ↦
          ap (λ rs. list_all (fits places) (map (λ (r : VRow). r.cells) rs)) (choice_true _ _ _ is)
          ∙ both (fits places row.cells) _ (fit row.cells (or_left (satisfies c row.cond && same_cells row.cells row.cells) (has_row_with c row.cells rows) (both (satisfies c row.cond) (same_cells row.cells row.cells) is (same_cells_self row.cells)))) rest
      | inr is_not ↦ ap (λ rs. list_all (fits places) (map (λ (r : VRow). r.cells) rs)) (choice_false _ _ _ is_not) ∙ rest
    ]

same_longer : (a b : ℕ) → (a == b) ≡ true → (suc a == suc b) ≡ true
same_longer a b h = grind (arith, nat_tests)

stand_long : (model cond : Expr) (columns : List VColumn) (cells : List (Option Value)) → cells_stand model cond columns cells ≡ true → (length cells == length columns) ≡ true
stand_long model cond [] [] h = refl
stand_long model cond [] (cell ∷ cells) h = search rules
stand_long model cond (column ∷ columns) [] h = search rules
stand_long model cond (column ∷ columns) (cell ∷ cells) h =
    same_longer (length cells) (length columns) (stand_long model cond columns cells (and_second (beq (is_some cell) (can_meet model cond column.cond)) (cells_stand model cond columns cells) h))

formed_long : (model : Expr) (table : VTable) (rows : List VRow) → list_all (is_row_formed model table.columns) rows ≡ true → list_all (is_whole table) rows ≡ true
formed_long model table [] h = refl
formed_long model table (row ∷ rows) h =
    let formed = and_first (is_row_formed model table.columns row) (list_all (is_row_formed model table.columns) rows) h in
    let standing = and_second (is_settled model row.cond) (cells_stand model row.cond table.columns row.cells) (and_first (is_settled model row.cond && cells_stand model row.cond table.columns row.cells) (has_cell row.cells) formed) in
    both (is_whole table row) (list_all (is_whole table) rows) (stand_long model row.cond table.columns row.cells standing) (formed_long model table rows (and_second (is_row_formed model table.columns row) (list_all (is_row_formed model table.columns) rows) h))

pub answer_after : (model : Expr) (before after : VTable) (c : List ℕ) → IsAdmitted model c → after.columns ≡ columns_staying model before.columns → list_all (is_filled c before.columns) before.rows ≡ true → ((cells : List (Option Value)) → has_row_with c cells after.rows ≡ (has_cell cells && has_row_with c cells (map (cut_row model before.columns) before.rows))) → list_all (is_row_formed model after.columns) after.rows ≡ true → names_are_distinct (columns_of (map (column_at c) before.columns)) ≡ true → IsAnswerAt c after
answer_after model before after c admitted columns filled rows formed distinct = record {
  distinct = ap (λ ks. names_are_distinct (columns_of (map (column_at c) ks))) columns ∙ ap names_are_distinct (same_columns model c admitted before.columns) ∙ distinct;
  whole = formed_long model after after.rows formed;
  filled = ap (λ ks. list_all (fits (map (column_at c) ks)) (map (λ (row : VRow). row.cells) (filter (λ (row : VRow). satisfies c row.cond) after.rows))) columns
      ∙ all_fit c (map (column_at c) (columns_staying model before.columns)) after.rows
      (λ cells standing. cut_rows_fit model c admitted before.columns before.rows filled cells (and_second (has_cell cells) (has_row_with c cells (map (cut_row model before.columns) before.rows)) (sym (rows cells) ∙ standing)));
}
