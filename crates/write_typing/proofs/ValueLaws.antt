-- The names and values of a write, asked in the order in which the code goes over them.
use Rattle.std.proofs.Common.{◌≡◌, ℕ, zero, suc, ◌+◌, ◌<◌, ◌≤◌, length, drop, get_or, slice_get, add-one, arith, List, [], ◌∷◌, ◌++◌, map, Option, Some, None, refl, sym, ◌∙◌, ap, ap₂, subst, append_assoc, ◌||◌, if◌then◌else◌}
use Rattle.std.specs.List.{flat_map}
use Rattle.std.specs.Str.{bytes_eq}
use Rattle.std.proofs.lemmas.Grind.{flat_map-append}
use Rattle.std.specs.Option.{option_map}
use Rattle.std.proofs.Math.ListN.{get_or-map}
use Rattle.std.proofs.Math.Seq.{drop-cons}
use Rattle.std.proofs.lemmas.List.{drop_all, length-map}
use Rattle.std.proofs.lemmas.List.Folds.{flat_map-map}
use Rattle.feature_expr.specs.Names.{among}
use Rattle.plain_relation.specs.Relations.{Column}
use Rattle.query_meaning.specs.Cases.{Case, case}
use Rattle.query_meaning.specs.Names.{unknown_name, unknown_operand}
use Rattle.query_meaning.specs.Parameters.{Occurrence, without_kind}
use Rattle.query_meaning.specs.WriteTyping.{Assignment, assignment_of, assignments, assignments_of, listed_names, named_twice, occurrences_in, parameters_over, unknown_in, value_cases, value_occurrence, write_cond}
use Rattle.query_meaning.specs.declared.ill.IllCase.TheVariants as ill
use Rattle.values.specs.declared.column_name.ColName.{ColName}
use Rattle.values.specs.declared.value.Kind.{Kind}
use Rattle.vra_syntax.specs.declared.cond.Cond.{Cond}
use Rattle.vra_syntax.specs.declared.cond.Operand.{Operand}
use Rattle.vra_syntax.specs.declared.write.SetItem.{SetItem}
use Rattle.vra_syntax.specs.declared.write.Write.{Write}
use Rattle.vra_syntax.specs.declared.write.Write.TheVariants as write
use Rattle.vschema.specs.Variants.{bare_name}
use Rattle.vschema.specs.declared.catalog.Column as catalog
use Rattle.vschema.specs.declared.catalog.Table.{Table}
use Rattle.write_typing.proofs.FaultLaws.{first_unknown, no_case}
use Rattle.write_typing.proofs.OperandLaws.{lacks_alone, lacks_of_operands, unknown_of_operands}
use Rattle.write_typing.specs.Acting.{known_cases, table_cases, unknown_among}
use Rattle.write_typing.specs.Faults.{fault_case, first, is_one_of, names_of, possible, repeated_names, unknown_names}
use Rattle.write_typing.specs.Operands.{operands_in}
use Rattle.write_typing.specs.Values.{Seat, met, new_values, operand_without_kind, row_check, seat_of, value_check, values_check, write_check}
use Rattle.write_typing.specs.declared.fault.NameFault.{NameFault}
use Rattle.write_typing.specs.declared.row_values.Check.{Check}
use Rattle.write_typing.specs.declared.row_values.Check.TheVariants as check

-- names

stands_again : (name : List ℕ) (names : List (List ℕ)) → is_one_of (bare_name name) (map bare_name names) ≡ among name names
stands_again name [] = refl
stands_again name (other ∷ names) = ap (λ b. bytes_eq other name || b) (stands_again name names)

pub twice_named : (names : List (List ℕ)) → repeated_names (map bare_name names) ≡ named_twice names
twice_named [] = refl
twice_named (name ∷ names) = ap₂ (λ b (xs : List Case). if b then case ill.NamedTwice (bare_name name) ∷ xs else xs) (stands_again name names) (twice_named names)

unknown_condition : (columns : List Column) (cond : Option Cond) → unknown_in columns cond ≡ flat_map (unknown_operand columns) (operands_in cond)
unknown_condition columns None = refl
unknown_condition columns (Some cond) = unknown_of_operands columns cond

lacking_condition : (kinds : List Kind) (columns : List Column) (cond : Option Cond) → without_kind kinds (occurrences_in columns cond) ≡ flat_map (operand_without_kind kinds) (operands_in cond)
lacking_condition kinds columns None = refl
lacking_condition kinds columns (Some cond) = lacks_of_operands kinds columns cond

-- values

module _ (which : Check) (kinds : List Kind) (columns : List Column) where
  pub row_of_seats : (names : List (List ℕ)) (row : List Operand) → row_check which kinds (map (seat_of columns) (map bare_name names)) row ≡ values_check which kinds columns (assignments_of names row)
  row_of_seats [] row = refl
  row_of_seats (name ∷ names) [] = refl
  row_of_seats (name ∷ names) (value ∷ row) = ap (λ (xs : List Case). value_check which kinds (seat_of columns (bare_name name)) value ++ xs) (row_of_seats names row)

  rows_of_seats : (names : List (List ℕ)) (rows : List (List Operand)) → flat_map (row_check which kinds (map (seat_of columns) (map bare_name names))) rows ≡ values_check which kinds columns (flat_map (assignments_of names) rows)
  rows_of_seats names [] = refl
  rows_of_seats names (row ∷ rows) =
      ap₂ (λ (xs ys : List Case). xs ++ ys) (row_of_seats names row) (rows_of_seats names rows)
      ∙ sym (flat_map-append (λ (one : Assignment). value_check which kinds (seat_of columns (bare_name one.column)) one.value) (assignments_of names row) (flat_map (assignments_of names) rows))

  items_of_seats : (items : List SetItem) → row_check which kinds (map (seat_of columns) (map bare_name (map (λ (item : SetItem). item.column) items))) (new_values items) ≡ values_check which kinds columns (map assignment_of items)
  items_of_seats [] = refl
  items_of_seats (item ∷ items) = ap (λ (xs : List Case). value_check which kinds (seat_of columns (bare_name item.column)) item.value ++ xs) (items_of_seats items)

  write_of_seats : (w : Write) → write_check which kinds (map (seat_of columns) (names_of w)) w ≡ values_check which kinds columns (assignments w)
  write_of_seats (write.Insert table names rows expr) = rows_of_seats names rows
  write_of_seats (write.Delete table cond expr) = refl
  write_of_seats (write.Update table items cond expr) = items_of_seats items

lacking_values : (kinds : List Kind) (columns : List Column) (them : List Assignment) → values_check check.HasKind kinds columns them ≡ without_kind kinds (flat_map (value_occurrence columns) them)
lacking_values kinds columns [] = refl
lacking_values kinds columns (one ∷ them) =
    ap₂ (λ (xs ys : List Case). xs ++ ys) (sym (lacks_alone kinds _ one.value)) (lacking_values kinds columns them)
    ∙ sym (flat_map-append _ (value_occurrence columns one) (flat_map (value_occurrence columns) them))

lacking_all : (kinds : List Kind) (columns : List Column) (w : Write) → without_kind kinds (parameters_over columns w) ≡ write_check check.HasKind kinds (map (seat_of columns) (names_of w)) w ++ flat_map (operand_without_kind kinds) (operands_in (write_cond w))
lacking_all kinds columns w =
    flat_map-append _ (flat_map (value_occurrence columns) (assignments w)) (occurrences_in columns (write_cond w))
    ∙ ap₂ (λ (xs ys : List Case). xs ++ ys) (sym (write_of_seats check.HasKind kinds columns w ∙ lacking_values kinds columns (assignments w))) (lacking_condition kinds columns (write_cond w))

-- all of them, over the write's table
pub table_asked : (kinds : List Kind) (table : Table) (w : Write) → table_cases kinds (Some table) w ≡ unknown_among (possible table.columns) (names_of w) (operands_in (write_cond w)) ++ known_cases kinds (map (seat_of (possible table.columns)) (names_of w)) (names_of w) w (operands_in (write_cond w))
table_asked kinds table w =
    let columns : List Column = possible table.columns in
    let unknown : flat_map (λ name. unknown_name columns (bare_name name)) (listed_names w) ++ unknown_in columns (write_cond w) ≡ unknown_among columns (names_of w) (operands_in (write_cond w)) =
    ap₂ (λ (xs ys : List Case). xs ++ ys) (sym (flat_map-map (unknown_name columns) bare_name (listed_names w))) (unknown_condition columns (write_cond w)) in
    let named : named_twice (listed_names w) ++ flat_map (value_cases kinds columns) (assignments w) ≡ repeated_names (names_of w) ++ write_check check.OfKind kinds (map (seat_of columns) (names_of w)) w =
    ap₂ (λ (xs ys : List Case). xs ++ ys) (sym (twice_named (listed_names w))) (sym (write_of_seats check.OfKind kinds columns w)) in
    ap₂ (λ (xs ys : List Case). xs ++ ys) unknown (
    ap₂ (λ (xs ys : List Case). xs ++ ys) named (lacking_all kinds columns w)
    ∙ sym (append_assoc (repeated_names (names_of w) ++ write_check check.OfKind kinds (map (seat_of columns) (names_of w)) w) (write_check check.HasKind kinds (map (seat_of columns) (names_of w)) w) (flat_map (operand_without_kind kinds) (operands_in (write_cond w)))))

-- the same of what the code has of it
pub over_table : (kinds : List Kind) (table : Table) (w : Write) (columns : List catalog.Column) (names : List ColName) (operands : List Operand) → columns ≡ table.columns → names ≡ names_of w → operands ≡ operands_in (write_cond w) → table_cases kinds (Some table) w ≡ unknown_among (possible columns) names operands ++ known_cases kinds (map (seat_of (possible columns)) names) names w operands
over_table kinds table w columns names operands here is are = rw (here, is, are) (table_asked kinds table w)

-- a row is asked from left to right

row_met : (which : Check) (kinds : List Kind) (seats : List Seat) (row : List Operand) (place : ℕ) (value : Operand) → place < length row → value ≡ get_or row place value → row_check which kinds (drop place seats) (drop place row) ≡ met which kinds (slice_get seats place) value ++ row_check which kinds (drop (suc place) seats) (drop (suc place) row)
row_met which kinds seats [] place value within here = absurd (omega (arith, within))
row_met which kinds [] (one ∷ row) zero value within here = refl
row_met which kinds [] (one ∷ row) (suc place) value within here = refl
row_met which kinds (seat ∷ seats) (one ∷ row) zero value within here = ap (λ (v : Operand). value_check which kinds seat v ++ row_check which kinds seats row) (sym here)
row_met which kinds (seat ∷ seats) (one ∷ row) (suc place) value within here = row_met which kinds seats row place value (omega (arith, within)) here

row_ends : (which : Check) (kinds : List Kind) (seats : List Seat) → row_check which kinds seats [] ≡ []
row_ends which kinds [] = refl
row_ends which kinds (seat ∷ seats) = refl

module _ (which : Check) (kinds : List Kind) (seats : List Seat) (row : List Operand) (place : ℕ) (all : List Case) where
  -- a value that passes
  pub row_goes_on : (value : Operand) → place < length row → value ≡ get_or row place value → option_map fault_case None ≡ first (met which kinds (slice_get seats place) value) → row_check which kinds (drop place seats) (drop place row) ≡ all → row_check which kinds (drop (place + 1) seats) (drop (place + 1) row) ≡ all
  row_goes_on value within here none whole =
      ap (λ j. row_check which kinds (drop j seats) (drop j row)) (add-one place)
      ∙ ap (λ (xs : List Case). xs ++ row_check which kinds (drop (suc place) seats) (drop (suc place) row)) (sym (no_case (met which kinds (slice_get seats place) value) none))
      ∙ sym (row_met which kinds seats row place value within here) ∙ whole

  -- the first one that doesn't
  pub row_stops : (value : Operand) (fault : NameFault) → place < length row → value ≡ get_or row place value → option_map fault_case (Some fault) ≡ first (met which kinds (slice_get seats place) value) → row_check which kinds (drop place seats) (drop place row) ≡ all → option_map fault_case (Some fault) ≡ first all
  row_stops value fault within here shown whole = first_unknown fault (met which kinds (slice_get seats place) value) (row_check which kinds (drop (suc place) seats) (drop (suc place) row)) all (sym whole ∙ row_met which kinds seats row place value within here) shown

  -- the end
  pub row_passes : length row ≤ place → row_check which kinds (drop place seats) (drop place row) ≡ all → all ≡ []
  row_passes past whole = sym whole ∙ ap (row_check which kinds (drop place seats)) (drop_all place row past) ∙ row_ends which kinds (drop place seats)

-- the same of the items of an update

item_value : (items : List SetItem) (place : ℕ) (item : SetItem) → item ≡ get_or items place item → item.value ≡ get_or (new_values items) place item.value
item_value items place item here = ap (λ (i : SetItem). i.value) here ∙ sym (get_or-map (λ (i : SetItem). i.value) items place item)

module _ (which : Check) (kinds : List Kind) (seats : List Seat) (items : List SetItem) (place : ℕ) (all : List Case) where
  pub items_go_on : (item : SetItem) → place < length items → item ≡ get_or items place item → option_map fault_case None ≡ first (met which kinds (slice_get seats place) item.value) → row_check which kinds (drop place seats) (drop place (new_values items)) ≡ all → row_check which kinds (drop (place + 1) seats) (drop (place + 1) (new_values items)) ≡ all
  items_go_on item within here none whole = row_goes_on which kinds seats (new_values items) place all item.value (subst (λ n. place < n) (sym (length-map items (λ (i : SetItem). i.value))) within) (item_value items place item here) none whole

  pub items_stop : (item : SetItem) (fault : NameFault) → place < length items → item ≡ get_or items place item → option_map fault_case (Some fault) ≡ first (met which kinds (slice_get seats place) item.value) → row_check which kinds (drop place seats) (drop place (new_values items)) ≡ all → option_map fault_case (Some fault) ≡ first all
  items_stop item fault within here shown whole = row_stops which kinds seats (new_values items) place all item.value fault (subst (λ n. place < n) (sym (length-map items (λ (i : SetItem). i.value))) within) (item_value items place item here) shown whole

  pub items_pass : length items ≤ place → row_check which kinds (drop place seats) (drop place (new_values items)) ≡ all → all ≡ []
  items_pass past whole = row_passes which kinds seats (new_values items) place all (subst (λ n. n ≤ place) (sym (length-map items (λ (i : SetItem). i.value))) past) whole

-- rows are asked one after another

rows_met : (f : List Operand → List Case) (rows : List (List Operand)) (i : ℕ) (row row' : List Operand) → i < length rows → row ≡ get_or rows i row → row' ≡ row → flat_map f (drop i rows) ≡ f row' ++ flat_map f (drop (suc i) rows)
rows_met f rows i row row' within here same = ap (flat_map f) (drop-cons rows i row within ∙ ap (λ (r : List Operand). r ∷ drop (suc i) rows) (sym here)) ∙ ap (λ (r : List Operand). f r ++ flat_map f (drop (suc i) rows)) (sym same)

pub rows_go_on : (f : List Operand → List Case) (rows : List (List Operand)) (i : ℕ) (row row' : List Operand) (all : List Case) → i < length rows → row ≡ get_or rows i row → row' ≡ row → option_map fault_case None ≡ first (f row') → flat_map f (drop i rows) ≡ all → flat_map f (drop (i + 1) rows) ≡ all
rows_go_on f rows i row row' all within here same none whole =
    ap (λ j. flat_map f (drop j rows)) (add-one i) ∙ ap (λ (xs : List Case). xs ++ flat_map f (drop (suc i) rows)) (sym (no_case (f row') none)) ∙ sym (rows_met f rows i row row' within here same) ∙ whole

pub rows_stop : (f : List Operand → List Case) (rows : List (List Operand)) (i : ℕ) (row row' : List Operand) (all : List Case) (fault : NameFault) → i < length rows → row ≡ get_or rows i row → row' ≡ row → option_map fault_case (Some fault) ≡ first (f row') → flat_map f (drop i rows) ≡ all → option_map fault_case (Some fault) ≡ first all
rows_stop f rows i row row' all fault within here same shown whole = first_unknown fault (f row') (flat_map f (drop (suc i) rows)) all (sym whole ∙ rows_met f rows i row row' within here same) shown
