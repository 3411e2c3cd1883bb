-- The row that a list of slots is in a variant, and what a name finds in it.
use Rattle.std.proofs.Common.{◌≡◌, ◌∙◌, ℕ, Bool, true, false, not, ◌&&◌, ◌||◌, List, [], ◌∷◌, ◌++◌, map, Option, Some, None, if◌then◌else◌, refl, sym, ap}
use Rattle.std.specs.List.{list_any}
use Rattle.feature_expr.specs.Satisfaction.{satisfies}
use Rattle.values.specs.declared.column_name.ColName.{ColName}
use Rattle.values.specs.declared.value.Value.{Value}
use Rattle.plain_relation.specs.Relations.{Cell, cell_of, row_of, same_name}
use Rattle.row_conditions.specs.RowConditions.{cells_are_distinct, has_cell_named}
use Rattle.row_conditions.specs.Truths.{Slot, slots_of}
use Rattle.row_conditions.proofs.BoolLaws.{and_first, and_second, neither, not_true}
use Rattle.row_conditions.proofs.NameLaws.{name_is}
use Rattle.vtable.specs.Answers.{column_at}
use Rattle.vtable.specs.declared.table.VColumn.{VColumn}

abbrev pub cell_before : ColName → Option Value → List Cell → List Cell
cell_before name None row = row
cell_before name (Some value) row = record { name = name; value = value } ∷ row

-- the row in a variant
abbrev pub slots_row : List ℕ → List Slot → List Cell
slots_row c [] = []
slots_row c (slot ∷ slots) = if satisfies c slot.column.cond then cell_before slot.column.name slot.cell (slots_row c slots) else slots_row c slots

one_slot : (c : List ℕ) (column : VColumn) (columns : List VColumn) (cell : Option Value) (cells : List (Option Value)) (there : Bool) → satisfies c column.cond ≡ there → row_of (map (column_at c) columns) cells ≡ slots_row c (slots_of columns cells) → row_of (map (column_at c) (column ∷ columns)) (cell ∷ cells) ≡ slots_row c (slots_of (column ∷ columns) (cell ∷ cells))
one_slot c column columns None cells true is rest = rw is rest
one_slot c column columns (Some value) cells true is rest = rw is (ap (λ row. record { name = column.name; value = value } ∷ row) rest)
one_slot c column columns None cells false is rest = rw is rest
one_slot c column columns (Some value) cells false is rest = rw is rest

pub row_is : (c : List ℕ) (columns : List VColumn) (cells : List (Option Value)) → row_of (map (column_at c) columns) cells ≡ slots_row c (slots_of columns cells)
row_is c [] cells = refl
row_is c (column ∷ columns) [] = refl
row_is c (column ∷ columns) (cell ∷ cells) = one_slot c column columns cell cells (satisfies c column.cond) refl (row_is c columns cells)

one_more : (name : ColName) (cell : Option Value) (row other : List Cell) → cell_before name cell (row ++ other) ≡ cell_before name cell row ++ other
one_more name None row other = refl
one_more name (Some value) row other = refl

slot_more : (there : Bool) (name : ColName) (cell : Option Value) (row other whole : List Cell) → whole ≡ row ++ other → (if there then cell_before name cell whole else whole) ≡ (if there then cell_before name cell row else row) ++ other
slot_more true name cell row other whole is = ap (cell_before name cell) is ∙ one_more name cell row other
slot_more false name cell row other whole is = is

pub slots_row-append : (c : List ℕ) (xs ys : List Slot) → slots_row c (xs ++ ys) ≡ slots_row c xs ++ slots_row c ys
slots_row-append c [] ys = refl
slots_row-append c (slot ∷ xs) ys = slot_more (satisfies c slot.column.cond) slot.column.name slot.cell (slots_row c xs) (slots_row c ys) (slots_row c (xs ++ ys)) (slots_row-append c xs ys)

-- a name that no cell has finds nothing
pub lacks : (row : List Cell) (cell : Cell) → has_cell_named row cell ≡ false → cell_of row cell.name ≡ None
lacks [] cell h = refl
lacks (other ∷ row) cell h =
    let parts = neither (same_name other.name cell.name) (has_cell_named row cell) h in
    rw parts.0 (lacks row cell parts.1)

-- a slot that is there, has the name, and whose cell passes
abbrev pub finds : List ℕ → (Option Value → Bool) → ColName → Slot → Bool
finds c f name slot = satisfies c slot.column.cond && (same_name slot.column.name name && f slot.cell)

module _ (c : List ℕ) (f : Option Value → Bool) (none : f None ≡ false) (name : ColName) where
  lacking : (row : List Cell) (cell : Cell) → cells_are_distinct (cell ∷ row) ≡ true → same_name cell.name name ≡ true → f (cell_of row name) ≡ false
  lacking row cell distinct same =
      ap (λ n. f (cell_of row n)) (sym (name_is cell.name name same))
      ∙ ap f (lacks row cell (not_true _ (and_first (not (has_cell_named row cell)) (cells_are_distinct row) distinct)))
      ∙ none

  ends_here : (b rest : Bool) → rest ≡ false → b ≡ (b || rest)
  ends_here true rest h = refl
  ends_here false rest h = sym h

  found_one : (slot : Slot) (row : List Cell) (rest : Bool) (cell : Option Value) (there same : Bool) → slot.cell ≡ cell → satisfies c slot.column.cond ≡ there → same_name slot.column.name name ≡ same → cells_are_distinct (if there then cell_before slot.column.name cell row else row) ≡ true → (cells_are_distinct row ≡ true → f (cell_of row name) ≡ rest) → f (cell_of (if there then cell_before slot.column.name cell row else row) name) ≡ ((there && (same && f cell)) || rest)
  found_one slot row rest cell false same is there_is same_is distinct h = h distinct
  found_one slot row rest None true true is there_is same_is distinct h = rw none (h distinct)
  found_one slot row rest None true false is there_is same_is distinct h = h distinct
  found_one slot row rest (Some value) true true is there_is same_is distinct h =
      let first : Cell = record { name = slot.column.name; value = value } in
      rw same_is (ends_here (f (Some value)) rest (sym (h (and_second (not (has_cell_named row first)) _ distinct)) ∙ lacking row first distinct same_is))
  found_one slot row rest (Some value) true false is there_is same_is distinct h =
      let first : Cell = record { name = slot.column.name; value = value } in
      rw same_is (h (and_second (not (has_cell_named row first)) _ distinct))

  -- what a name finds in the row is what the one slot finds that has the name and is there
  pub found : (slots : List Slot) → cells_are_distinct (slots_row c slots) ≡ true → f (cell_of (slots_row c slots) name) ≡ list_any (finds c f name) slots
  found [] distinct = none
  found (slot ∷ slots) distinct = found_one slot (slots_row c slots) (list_any (finds c f name) slots) slot.cell (satisfies c slot.column.cond) (same_name slot.column.name name) refl refl refl distinct (found slots)
