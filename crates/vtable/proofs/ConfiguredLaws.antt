-- A table in one variant: its columns and rows, each once.
use Rattle.std.proofs.Common.{◌≡◌, ℕ, ◌+◌, ◌<◌, ◌==◌, ◌&&◌, ◌||◌, Bool, true, false, List, [], ◌∷◌, ◌++◌, length, map, take, get_or, Option, Some, None, refl, sym, ◌∙◌, ap, ap₂, rules, inl, inr}
use Rattle.std.specs.Prelude.{is_some}
use Rattle.std.specs.List.{list_any, list_all, filter_map, filter, cons_option}
use Rattle.std.specs.List.Sorted.{IsPermutation}
use Rattle.std.specs.Option.{option_to_list}
use Rattle.std.specs.Ordering.{is_lt, ordering_then}
use Rattle.std.specs.Cmp.Lexicographic.{slice_cmp}
use Rattle.std.proofs.lemmas.List.{take_more, map-append}
use Rattle.std.proofs.lemmas.List.Sorted.{IsPermutation-map, list_any-IsPermutation}
use Rattle.feature_expr.specs.declared.expr.Expr as e
use Rattle.values.specs.declared.value.Value.{Value}
use Rattle.feature_expr.specs.Satisfaction.{satisfies}
use Rattle.plain_relation.specs.Relations.{columns_of}
use Rattle.plain_relation.specs.Relations as plain
use Rattle.vtable.specs.declared.decision.Fate.{Fate}
use Rattle.vtable.specs.declared.decision.Fate.TheVariants as fate
use Rattle.vtable.specs.declared.group.CutRow.{CutRow}
use Rattle.vtable.specs.declared.group.Group.{Group}
use Rattle.vtable.specs.declared.plain.PlainColumn.{PlainColumn}
use Rattle.vtable.specs.declared.table.VColumn.{VColumn}
use Rattle.vtable.specs.declared.table.VRow.{VRow}
use Rattle.vtable.specs.declared.table.VTable.{VTable}
use Rattle.vtable.specs.Answers.{column_at, fits, IsAnswerAt}
use Rattle.plain_relation.specs.Values.{value_cmp}
use Rattle.vtable.specs.TableForm.{cells_cmp, same_cells}
use Rattle.vtable.specs.Configured.{plain_column, values_of, same_values, values_ascend, IsPresent, fate_at, row_there, some_values, group_values}
use Rattle.vtable.specs.Passes.{cells_by, table_row, is_in_order, groups_after, group_of, with_cond}
use Rattle.vtable.proofs.CellLaws.{same_cells_are}
use Rattle.vtable.proofs.JoinedLaws.{all_permuted, all_groups_pass, group_passes, groups_from, groups_ascend, all_in_order}
use Rattle.condition_sat.proofs.PossibleLaws.{true_or_false, both, and_first, and_second}
use Rattle.vtable.proofs.PlainLaws.{same_plain}
use Rattle.vtable.proofs.RowsLaws.{choice_true, choice_false}

pub columns_push : (places : List (Option plain.Column)) (place : Option plain.Column) → columns_of (places ++ place ∷ []) ≡ columns_of places ++ option_to_list place
columns_push [] None = refl
columns_push [] (Some column) = refl
columns_push (None ∷ places) place = columns_push places place
columns_push (Some column ∷ places) place = ap (λ xs. column ∷ xs) (columns_push places place)

-- one more column is taken
pub columns_more : (c : List ℕ) (xs : List VColumn) (i : ℕ) (x : VColumn) (out new : List plain.Column) → i < length xs → x ≡ get_or xs i x → out ≡ columns_of (map (column_at c) (take i xs)) → new ≡ out ++ option_to_list (column_at c x) → new ≡ columns_of (map (column_at c) (take (i + 1) xs))
columns_more c xs i x out new below is_x is_out is_new =
    is_new
    ∙ ap (λ ys. ys ++ option_to_list (column_at c x)) is_out
    ∙ sym (columns_push (map (column_at c) (take i xs)) (column_at c x))
    ∙ sym (ap columns_of (map-append (column_at c) (take i xs) (x ∷ [])))
    ∙ ap (λ y. columns_of (map (column_at c) (take i xs ++ y ∷ []))) is_x
    ∙ ap (λ ys. columns_of (map (column_at c) ys)) (sym (take_more xs i x below))

cons_is : (cell : Option Value) (values : List Value) → cons_option cell values ≡ option_to_list cell ++ values
cons_is None values = refl
cons_is (Some value) values = refl

there : (c : List ℕ) (column : VColumn) → satisfies c column.cond ≡ true → column_at c column ≡ Some (record { name = column.name; kind = column.kind })
there c column is = choice_true _ _ _ is

away : (c : List ℕ) (column : VColumn) → satisfies c column.cond ≡ false → column_at c column ≡ None
away c column is = choice_false _ _ _ is

kept : (c : List ℕ) (column : VColumn) → satisfies c column.cond ≡ true → fate_at c column ≡ fate.Kept
kept c column is = choice_true _ _ _ is

dropped : (c : List ℕ) (column : VColumn) → satisfies c column.cond ≡ false → fate_at c column ≡ fate.Dropped
dropped c column is = choice_false _ _ _ is

values_are : (c : List ℕ) (columns : List VColumn) (cells : List (Option Value)) → some_values (cells_by (map (fate_at c) columns) cells) ≡ values_of (map (column_at c) columns) cells
values_are c [] cells = refl
values_are c (column ∷ columns) [] = refl
values_are c (column ∷ columns) (cell ∷ cells) =
    elim (true_or_false (satisfies c column.cond)) [
      | inl is ↦
          ap (λ f. some_values (cells_by (f ∷ map (fate_at c) columns) (cell ∷ cells))) (kept c column is)
          ∙ cons_is cell (some_values (cells_by (map (fate_at c) columns) cells))
          ∙ ap (λ xs. option_to_list cell ++ xs) (values_are c columns cells)
          ∙ ap (λ x. values_of (x ∷ map (column_at c) columns) (cell ∷ cells)) (sym (there c column is))
      | inr is ↦
          ap (λ f. some_values (cells_by (f ∷ map (fate_at c) columns) (cell ∷ cells))) (dropped c column is)
          ∙ values_are c columns cells
          ∙ ap (λ x. values_of (x ∷ map (column_at c) columns) (cell ∷ cells)) (sym (away c column is))
    ]

fits_here : (column : plain.Column) (places : List (Option plain.Column)) (cell : Option Value) (cells : List (Option Value)) → fits (Some column ∷ places) (cell ∷ cells) ≡ true → (is_some cell && fits places cells) ≡ true
fits_here column places None cells h = search rules
fits_here column places (Some value) cells h = and_second _ _ h

all_there : (c : List ℕ) (columns : List VColumn) (cells : List (Option Value)) → fits (map (column_at c) columns) cells ≡ true → list_all is_some (cells_by (map (fate_at c) columns) cells) ≡ true
all_there c [] cells h = refl
all_there c (column ∷ columns) [] h = refl
all_there c (column ∷ columns) (cell ∷ cells) h =
    elim (true_or_false (satisfies c column.cond)) [
      | inl is ↦
          let here = fits_here (record { name = column.name; kind = column.kind }) (map (column_at c) columns) cell cells (sym (ap (λ x. fits (x ∷ map (column_at c) columns) (cell ∷ cells)) (there c column is)) ∙ h) in
          ap (λ f. list_all is_some (cells_by (f ∷ map (fate_at c) columns) (cell ∷ cells))) (kept c column is)
          ∙ both (is_some cell) (list_all is_some (cells_by (map (fate_at c) columns) cells)) (and_first (is_some cell) (fits (map (column_at c) columns) cells) here) (all_there c columns cells (and_second (is_some cell) (fits (map (column_at c) columns) cells) here))
      | inr is ↦
          ap (λ f. list_all is_some (cells_by (f ∷ map (fate_at c) columns) (cell ∷ cells))) (dropped c column is)
          ∙ all_there c columns cells (sym (ap (λ x. fits (x ∷ map (column_at c) columns) (cell ∷ cells)) (away c column is)) ∙ h)
    ]

abbrev here : List ℕ → List VRow → List (List (Option Value))
here c rows = map (λ (row : VRow). row.cells) (filter (λ (row : VRow). satisfies c row.cond) rows)

row_more : (c : List ℕ) (fates : List Fate) (row : VRow) (rows : List VRow) → satisfies c row.cond ≡ true → filter_map (row_there c fates) (row ∷ rows) ≡ record { cells = cells_by fates row.cells; cond = e.True } ∷ filter_map (row_there c fates) rows
row_more c fates row rows is = ap (λ x. cons_option x (filter_map (row_there c fates) rows)) (choice_true _ _ _ is)

row_less : (c : List ℕ) (fates : List Fate) (row : VRow) (rows : List VRow) → satisfies c row.cond ≡ false → filter_map (row_there c fates) (row ∷ rows) ≡ filter_map (row_there c fates) rows
row_less c fates row rows is = ap (λ x. cons_option x (filter_map (row_there c fates) rows)) (choice_false _ _ _ is)

here_more : (c : List ℕ) (row : VRow) (rows : List VRow) → satisfies c row.cond ≡ true → here c (row ∷ rows) ≡ row.cells ∷ here c rows
here_more c row rows is = ap (map (λ (r : VRow). r.cells)) (choice_true _ _ _ is)

here_less : (c : List ℕ) (row : VRow) (rows : List VRow) → satisfies c row.cond ≡ false → here c (row ∷ rows) ≡ here c rows
here_less c row rows is = ap (map (λ (r : VRow). r.cells)) (choice_false _ _ _ is)

-- the rows that are there have the values of the table's
cut_any : (c : List ℕ) (columns : List VColumn) (test : List Value → Bool) (rows : List VRow) → list_any (λ (row : VRow). test (some_values row.cells)) (filter_map (row_there c (map (fate_at c) columns)) rows) ≡ list_any (λ cells. test (values_of (map (column_at c) columns) cells)) (here c rows)
cut_any c columns test [] = refl
cut_any c columns test (row ∷ rows) =
    elim (true_or_false (satisfies c row.cond)) [
      | inl is ↦
          ap (list_any (λ (r : VRow). test (some_values r.cells))) (row_more c (map (fate_at c) columns) row rows is)
          ∙ ap₂ (λ xs b. test xs || b) (values_are c columns row.cells) (cut_any c columns test rows)
          ∙ ap (list_any (λ cells. test (values_of (map (column_at c) columns) cells))) (sym (here_more c row rows is))
      | inr is ↦
          ap (list_any (λ (r : VRow). test (some_values r.cells))) (row_less c (map (fate_at c) columns) row rows is)
          ∙ cut_any c columns test rows
          ∙ ap (list_any (λ cells. test (values_of (map (column_at c) columns) cells))) (sym (here_less c row rows is))
    ]

abbrev is_full : VRow → Bool
is_full row = list_all is_some row.cells

cut_full : (c : List ℕ) (columns : List VColumn) (rows : List VRow) → list_all (fits (map (column_at c) columns)) (here c rows) ≡ true → list_all is_full (filter_map (row_there c (map (fate_at c) columns)) rows) ≡ true
cut_full c columns [] h = refl
cut_full c columns (row ∷ rows) h =
    elim (true_or_false (satisfies c row.cond)) [
      | inl is ↦
          let all = sym (ap (list_all (fits (map (column_at c) columns))) (here_more c row rows is)) ∙ h in
          ap (list_all is_full) (row_more c (map (fate_at c) columns) row rows is)
          ∙ both (list_all is_some (cells_by (map (fate_at c) columns) row.cells)) (list_all is_full (filter_map (row_there c (map (fate_at c) columns)) rows))
          (all_there c columns row.cells (and_first (fits (map (column_at c) columns) row.cells) (list_all (fits (map (column_at c) columns)) (here c rows)) all))
          (cut_full c columns rows (and_second (fits (map (column_at c) columns) row.cells) (list_all (fits (map (column_at c) columns)) (here c rows)) all))
      | inr is ↦
          ap (list_all is_full) (row_less c (map (fate_at c) columns) row rows is)
          ∙ cut_full c columns rows (sym (ap (list_all (fits (map (column_at c) columns))) (here_less c row rows is)) ∙ h)
    ]

twice : (p r : Bool) → (p || r) ≡ (p || (p || r))
twice true r = refl
twice false r = refl

groups_any : (test : List (Option Value) → Bool) (group : Group) (rows : List VRow) → list_any (λ (g : Group). test g.cells) (groups_after (Some group) rows) ≡ (test group.cells || list_any (λ (row : VRow). test row.cells) rows)
groups_any test group [] = refl
groups_any test group (row ∷ rows) =
    elim (true_or_false (same_cells group.cells row.cells)) [
      | inl same ↦
          ap (list_any (λ (g : Group). test g.cells)) (choice_true _ _ _ same)
          ∙ groups_any test (with_cond group row.cond) rows
          ∙ twice (test group.cells) (list_any (λ (r : VRow). test r.cells) rows)
          ∙ ap (λ xs. test group.cells || (test xs || list_any (λ (r : VRow). test r.cells) rows)) (same_cells_are group.cells row.cells same)
      | inr apart ↦
          ap (list_any (λ (g : Group). test g.cells)) (choice_false _ _ _ apart)
          ∙ ap (λ b. test group.cells || b) (groups_any test (group_of row) rows)
    ]

all_groups_any : (test : List (Option Value) → Bool) (rows : List VRow) → list_any (λ (g : Group). test g.cells) (groups_after None rows) ≡ list_any (λ (row : VRow). test row.cells) rows
all_groups_any test [] = refl
all_groups_any test (row ∷ rows) = groups_any test (group_of row) rows

any_mapped : (test : List Value → Bool) (groups : List Group) → list_any test (map group_values groups) ≡ list_any (λ (g : Group). test (some_values g.cells)) groups
any_mapped test [] = refl
any_mapped test (group ∷ groups) = ap (λ b. test (some_values group.cells) || b) (any_mapped test groups)

same_order : (one other : List (Option Value)) → list_all is_some one ≡ true → list_all is_some other ≡ true → slice_cmp value_cmp (some_values one) (some_values other) ≡ cells_cmp one other
same_order [] [] h k = refl
same_order [] (None ∷ other) h k = search rules
same_order [] (Some value ∷ other) h k = refl
same_order (None ∷ one) other h k = search rules
same_order (Some value ∷ one) [] h k = refl
same_order (Some value ∷ one) (None ∷ other) h k = search rules
same_order (Some value ∷ one) (Some next ∷ other) h k = ap (λ o. ordering_then (value_cmp value next) o) (same_order one other h k)

abbrev is_group_full : Group → Bool
is_group_full group = list_all is_some group.cells

abbrev values_from : List Value → List (List Value) → Bool
values_from values [] = true
values_from values (row ∷ rows) = is_lt (slice_cmp value_cmp values row) && values_from row rows

ascend_from : (row : List Value) (rows : List (List Value)) → values_ascend (row ∷ rows) ≡ values_from row rows
ascend_from row [] = refl
ascend_from row (next ∷ rows) = ap (λ b. is_lt (slice_cmp value_cmp row next) && b) (ascend_from next rows)

groups_values_from : (cells : List (Option Value)) (groups : List Group) → list_all is_some cells ≡ true → list_all is_group_full groups ≡ true → values_from (some_values cells) (map group_values groups) ≡ groups_from cells groups
groups_values_from cells [] h k = refl
groups_values_from cells (group ∷ groups) h k =
    let full = and_first (is_group_full group) (list_all is_group_full groups) k in
    ap₂ (λ o b. is_lt o && b) (same_order cells group.cells h full) (groups_values_from group.cells groups full (and_second (is_group_full group) (list_all is_group_full groups) k))

groups_values_ascend : (groups : List Group) → list_all is_group_full groups ≡ true → groups_ascend groups ≡ true → values_ascend (map group_values groups) ≡ true
groups_values_ascend [] k ascend = refl
groups_values_ascend (group ∷ groups) k ascend =
    ascend_from (group_values group) (map group_values groups)
    ∙ groups_values_from group.cells groups (and_first (is_group_full group) (list_all is_group_full groups) k) (and_second (is_group_full group) (list_all is_group_full groups) k)
    ∙ ascend

full_groups : (groups : List Group) → list_all (group_passes is_full) groups ≡ true → list_all is_group_full groups ≡ true
full_groups [] h = refl
full_groups (group ∷ groups) h =
    both _ _ (and_first _ _ (and_first (group_passes is_full group) (list_all (group_passes is_full) groups) h)) (full_groups groups (and_second (group_passes is_full group) (list_all (group_passes is_full) groups) h))

pub present : (c : List ℕ) (table : VTable) (columns : List PlainColumn) (rows : List (List Value)) (cut sorted : List CutRow) → IsAnswerAt c table → (length columns == 0) ≡ false → map plain_column columns ≡ columns_of (map (column_at c) table.columns) → map table_row cut ≡ filter_map (row_there c (map (fate_at c) table.columns)) table.rows → IsPermutation cut sorted → is_in_order (map table_row sorted) ≡ true → rows ≡ map group_values (groups_after None (map table_row sorted)) → IsPresent c table columns rows
present c table columns rows cut sorted answer some columns_are cut_is moved order rows_are =
    let sorted_rows : List VRow = map table_row sorted in
    let moved_rows : IsPermutation (map table_row cut) sorted_rows = IsPermutation-map table_row cut sorted moved in
    let full : list_all is_full sorted_rows ≡ true = sym (all_permuted is_full (map table_row cut) sorted_rows moved_rows) ∙ ap (list_all is_full) cut_is ∙ cut_full c table.columns table.rows answer.filled in
    let same : (values : List Value) → list_any (same_values values) rows ≡ list_any (λ cells. same_values values (values_of (map (column_at c) table.columns) cells)) (here c table.rows) = λ values.
    let test : List Value → Bool = same_values values in
    ap (list_any test) rows_are
    ∙ any_mapped test (groups_after None sorted_rows)
    ∙ all_groups_any (λ cells. test (some_values cells)) sorted_rows
    ∙ sym (list_any-IsPermutation (λ (row : VRow). test (some_values row.cells)) (map table_row cut) sorted_rows moved_rows)
    ∙ ap (list_any (λ (row : VRow). test (some_values row.cells))) cut_is
    ∙ cut_any c table.columns test table.rows in
    record {
      some = some;
      same_columns = columns_are;
      ascending = ap values_ascend rows_are ∙ groups_values_ascend (groups_after None sorted_rows) (full_groups (groups_after None sorted_rows) (all_groups_pass is_full sorted_rows full)) (all_in_order sorted_rows order);
      same_rows = same;
      same = same_plain c table columns rows answer.filled columns_are same;
    }
