-- What a table is in one variant is the relation that its configured answer is.
use Rattle.std.proofs.Common.{◌≡◌, ℕ, Bool, true, List, [], ◌∷◌, map, Option, Some, None, refl, sym, ◌∙◌, ap, ap₂, subst, rules, inl, inr}
use Rattle.std.specs.Prelude.{◌↔◌}
use Rattle.std.specs.List.{list_any, list_all}
use Rattle.std.specs.Ordering.{is_eq, ordering_then}
use Rattle.std.specs.declared.cmp.Ordering.TheVariants.{Equal}
use Rattle.std.specs.Cmp.Lexicographic.{slice_cmp}
use Rattle.values.specs.declared.column_name.ColName.{ColName}
use Rattle.values.specs.declared.value.Value.{Value}
use Rattle.plain_relation.specs.Relations.{SameRelation, HasRow, Cell, relation_with, columns_of, row_of, cell_of}
use Rattle.plain_relation.specs.Relations as plain
use Rattle.vtable.specs.declared.plain.PlainColumn.{PlainColumn}
use Rattle.vtable.specs.declared.table.VTable.{VTable}
use Rattle.vtable.specs.Answers.{fits, rows_at, places_at, answer_at}
use Rattle.plain_relation.specs.Values.{value_cmp}
use Rattle.vtable.specs.Configured.{plain_column, values_of, same_values, cells_of, relation_in}
use Rattle.vtable.proofs.CellLaws.{value_is, then_first, then_second, is_equal, same_cells_self}
use Rattle.vtable.proofs.NormalLaws.{same_with}
use Rattle.condition_sat.proofs.PossibleLaws.{and_first, and_second, or_left, or_right, or_cases}

values_equal : (one other : List Value) → slice_cmp value_cmp one other ≡ Equal → one ≡ other
values_equal [] [] h = refl
values_equal [] (value ∷ other) h = search rules
values_equal (value ∷ one) [] h = search rules
values_equal (value ∷ one) (next ∷ other) h = ap₂ (λ x xs. x ∷ xs) (value_is value next (then_first _ _ h)) (values_equal one other (then_second _ _ h))

same_values_are : (one other : List Value) → same_values one other ≡ true → one ≡ other
same_values_are one other h = values_equal one other (is_equal _ h)

value_self : (value : Value) → value_cmp value value ≡ Equal
value_self value = then_first (value_cmp value value) Equal (is_equal _ (same_cells_self (Some value ∷ [])))

values_self : (values : List Value) → slice_cmp value_cmp values values ≡ Equal
values_self [] = refl
values_self (value ∷ values) = ap₂ ordering_then (value_self value) (values_self values)

same_values_self : (values : List Value) → same_values values values ≡ true
same_values_self values = ap is_eq (values_self values)

-- a row that passes a test, where each that passes has these values
has_of_any : {X : Type 0} (fit test : X → Bool) (read : X → List Cell) (values : ColName → Option Value) → ((x : X) → fit x ≡ true → test x ≡ true → (name : ColName) → cell_of (read x) name ≡ values name) → (xs : List X) → list_all fit xs ≡ true → list_any test xs ≡ true → HasRow (map read xs) values
has_of_any fit test read values alike [] all any = search rules
has_of_any fit test read values alike (x ∷ xs) all any =
    elim (or_cases (test x) (list_any test xs) any) [
      | inl one ↦ inl (alike x (and_first (fit x) (list_all fit xs) all) one)
      | inr later ↦ inr (has_of_any fit test read values alike xs (and_second (fit x) (list_all fit xs) all) later)
    ]

record Held {X : Type 0} (fit : X → Bool) (same : X → X → Bool) (read : X → List Cell) (xs : List X) (values : ColName → Option Value) : Type 0 where
  pub item : X
  pub fitting : fit item ≡ true
  pub held : list_any (same item) xs ≡ true
  pub alike : (name : ColName) → cell_of (read item) name ≡ values name

held_of : {X : Type 0} (fit : X → Bool) (same : X → X → Bool) (self : (x : X) → same x x ≡ true) (read : X → List Cell) (values : ColName → Option Value) (xs : List X) → list_all fit xs ≡ true → HasRow (map read xs) values → Held fit same read xs values
held_of fit same self read values [] all has = absurd has
held_of fit same self read values (x ∷ xs) all (inl alike) = record { item = x; fitting = and_first (fit x) (list_all fit xs) all; held = or_left (same x x) (list_any (same x) xs) (self x); alike = alike }
held_of fit same self read values (x ∷ xs) all (inr later) =
    let found = held_of fit same self read values xs (and_second (fit x) (list_all fit xs) all) later in
    record { item = found.item; fitting = found.fitting; held = or_right (same found.item x) (list_any (same found.item) xs) found.held; alike = found.alike }

-- a row's values, under the names of the columns that are there
cells_are_row : (places : List (Option plain.Column)) (cells : List (Option Value)) → fits places cells ≡ true → cells_of (columns_of places) (values_of places cells) ≡ row_of places cells
cells_are_row [] cells h = refl
cells_are_row (None ∷ places) [] h = search rules
cells_are_row (Some column ∷ places) [] h = search rules
cells_are_row (None ∷ places) (cell ∷ cells) h = cells_are_row places cells h
cells_are_row (Some column ∷ places) (None ∷ cells) h = search rules
cells_are_row (Some column ∷ places) (Some value ∷ cells) h = ap (λ xs. record { name = column.name; value = value } ∷ xs) (cells_are_row places cells (and_second _ _ h))

always : {X : Type 0} (xs : List X) → list_all (λ (x : X). true) xs ≡ true
always [] = refl
always (x ∷ xs) = always xs

module _ (places : List (Option plain.Column)) (rows : List (List Value)) (there : List (List (Option Value))) where
  pub same_rows_with : list_all (fits places) there ≡ true → ((values : List Value) → list_any (same_values values) rows ≡ list_any (λ cells. same_values values (values_of places cells)) there) → (values : ColName → Option Value) → HasRow (map (cells_of (columns_of places)) rows) values ↔ HasRow (map (row_of places) there) values
  same_rows_with filled same values = (
    λ has.
        let found = held_of (λ (x : List Value). true) same_values same_values_self (cells_of (columns_of places)) values rows (always rows) has in
        has_of_any (fits places) (λ cells. same_values found.item (values_of places cells)) (row_of places) values
        (λ cells fit is name. ap (λ xs. cell_of xs name) (sym (cells_are_row places cells fit) ∙ ap (cells_of (columns_of places)) (sym (same_values_are found.item (values_of places cells) is))) ∙ found.alike name)
        there filled (sym (same found.item) ∙ found.held),
    λ has.
        let found = held_of (fits places) (λ one other. same_values (values_of places one) (values_of places other)) (λ cells. same_values_self (values_of places cells)) (row_of places) values there filled has in
        has_of_any (λ (x : List Value). true) (same_values (values_of places found.item)) (cells_of (columns_of places)) values
        (λ row fit is name. ap (λ xs. cell_of xs name) (ap (cells_of (columns_of places)) (sym (same_values_are (values_of places found.item) row is)) ∙ cells_are_row places found.item found.fitting) ∙ found.alike name)
        rows (always rows) (same (values_of places found.item) ∙ found.held),
  )

pub same_plain : (c : List ℕ) (table : VTable) (columns : List PlainColumn) (rows : List (List Value)) → list_all (fits (places_at c table)) (rows_at c table) ≡ true → map plain_column columns ≡ columns_of (places_at c table) → ((values : List Value) → list_any (same_values values) rows ≡ list_any (λ cells. same_values values (values_of (places_at c table) cells)) (rows_at c table)) → SameRelation (relation_in columns rows) (answer_at c table)
same_plain c table columns rows filled columns_are same =
    subst (λ ks. SameRelation (relation_with ks (map (cells_of ks) rows)) (answer_at c table)) (sym columns_are)
    (same_with (columns_of (places_at c table)) (map (cells_of (columns_of (places_at c table))) rows) (map (row_of (places_at c table)) (rows_at c table))
    (λ first more is. same_rows_with (places_at c table) rows (rows_at c table) filled same))
