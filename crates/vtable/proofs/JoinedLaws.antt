-- The rows that the groups are joined to: in ascending order, formed as the rows of the groups are, and there where
-- these are.
use Rattle.std.proofs.Common.{◌≡◌, ℕ, ◌+◌, ◌≤◌, ◌&&◌, ◌||◌, Bool, true, false, not, List, [], ◌∷◌, length, map, Option, Some, None, refl, sym, ◌∙◌, ap, ap₂, subst, rules, arith, inl, inr}
use Rattle.std.specs.List.{list_any, list_all}
use Rattle.std.specs.List.Sorted.{IsPermutation}
use Rattle.std.specs.Ordering.{is_lt}
use Rattle.std.specs.Prelude.{is_some}
use Rattle.std.proofs.Math.Bool.{beq}
use Rattle.std.proofs.lemmas.List.Folds.{list_all-append}
use Rattle.std.proofs.lemmas.List.{map-append}
use Rattle.std.proofs.lemmas.List.Sorted.{list_any-IsPermutation}
use Rattle.feature_expr.specs.declared.expr.Expr.{Expr}
use Rattle.values.specs.declared.value.Value.{Value}
use Rattle.feature_expr.specs.Expressions.{weight_of}
use Rattle.feature_expr.specs.Satisfaction.{satisfies}
use Rattle.condition_sat.specs.Admitted.{IsAdmitted}
use Rattle.vtable.specs.declared.group.Group.{Group}
use Rattle.vtable.specs.declared.table.VColumn.{VColumn}
use Rattle.vtable.specs.declared.table.VRow.{VRow}
use Rattle.vtable.specs.Disjunction.{any_holds, conds_cost}
use Rattle.condition_sat.specs.Possible.{can_meet, is_settled}
use Rattle.vtable.specs.TableForm.{same_cells, cells_cmp, has_row_with, rows_ascend, is_row_formed, cells_stand, has_cell}
use Rattle.vtable.specs.Passes.{is_in_order, groups_after, group_of, with_cond, group_rows, IsJoined, AllJoined}
use Rattle.vtable.proofs.CellLaws.{same_cells_are, cells_ascend}
use Rattle.condition_sat.proofs.PossibleLaws.{true_or_false, both, and_first, and_second, or_left, some_admitted_of, admitted_of, none_admitted, each_fails}
use Rattle.vtable.proofs.RowsLaws.{group_stands, groups_cost, rows_cost, choice_true, choice_false}

-- no row is before the one in front of it, the first not before these cells
abbrev in_order_from : List (Option Value) → List VRow → Bool
in_order_from cells [] = true
in_order_from cells (row ∷ rows) = not (is_lt (cells_cmp row.cells cells)) && in_order_from row.cells rows

order_from : (row : VRow) (rows : List VRow) → is_in_order (row ∷ rows) ≡ in_order_from row.cells rows
order_from row [] = refl
order_from row (next ∷ rows) = ap (λ b. not (is_lt (cells_cmp next.cells row.cells)) && b) (order_from next rows)

abbrev pub groups_from : List (Option Value) → List Group → Bool
groups_from cells [] = true
groups_from cells (group ∷ groups) = is_lt (cells_cmp cells group.cells) && groups_from group.cells groups

abbrev pub groups_ascend : List Group → Bool
groups_ascend [] = true
groups_ascend (group ∷ groups) = groups_from group.cells groups

abbrev rows_from : List (Option Value) → List VRow → Bool
rows_from cells [] = true
rows_from cells (row ∷ rows) = is_lt (cells_cmp cells row.cells) && rows_from row.cells rows

ascend_from : (row : VRow) (rows : List VRow) → rows_ascend (row ∷ rows) ≡ rows_from row.cells rows
ascend_from row [] = refl
ascend_from row (next ∷ rows) = ap (λ b. is_lt (cells_cmp row.cells next.cells) && b) (ascend_from next rows)

not_true : (b : Bool) → not b ≡ true → b ≡ false
not_true true h = sym h
not_true false h = refl

later_from : (cells : List (Option Value)) (group : Group) (rows : List VRow) → is_lt (cells_cmp cells group.cells) ≡ true → in_order_from group.cells rows ≡ true → groups_from cells (groups_after (Some group) rows) ≡ true
later_from cells group [] before order = both _ _ before refl
later_from cells group (row ∷ rows) before order =
    elim (true_or_false (same_cells group.cells row.cells)) [
      | inl same ↦
          ap (groups_from cells) (choice_true _ _ _ same)
          ∙ later_from cells (with_cond group row.cond) rows before
          (subst (λ xs. in_order_from xs rows ≡ true) (sym (same_cells_are group.cells row.cells same)) (and_second (not (is_lt (cells_cmp row.cells group.cells))) (in_order_from row.cells rows) order))
      | inr apart ↦
          ap (groups_from cells) (choice_false _ _ _ apart)
          ∙ both _ _ before (later_from group.cells (group_of row) rows (cells_ascend group.cells row.cells (not_true _ (and_first (not (is_lt (cells_cmp row.cells group.cells))) (in_order_from row.cells rows) order)) apart) (and_second (not (is_lt (cells_cmp row.cells group.cells))) (in_order_from row.cells rows) order))
    ]

groups_in_order : (group : Group) (rows : List VRow) → in_order_from group.cells rows ≡ true → groups_ascend (groups_after (Some group) rows) ≡ true
groups_in_order group [] order = refl
groups_in_order group (row ∷ rows) order =
    elim (true_or_false (same_cells group.cells row.cells)) [
      | inl same ↦
          ap groups_ascend (choice_true _ _ _ same)
          ∙ groups_in_order (with_cond group row.cond) rows (subst (λ xs. in_order_from xs rows ≡ true) (sym (same_cells_are group.cells row.cells same)) (and_second (not (is_lt (cells_cmp row.cells group.cells))) (in_order_from row.cells rows) order))
      | inr apart ↦
          ap groups_ascend (choice_false _ _ _ apart)
          ∙ later_from group.cells (group_of row) rows (cells_ascend group.cells row.cells (not_true _ (and_first (not (is_lt (cells_cmp row.cells group.cells))) (in_order_from row.cells rows) order)) apart) (and_second (not (is_lt (cells_cmp row.cells group.cells))) (in_order_from row.cells rows) order)
    ]

joined_from : (model : Expr) (cells : List (Option Value)) (groups : List Group) (rows : List VRow) → AllJoined model groups rows → rows_from cells rows ≡ groups_from cells groups
joined_from model cells [] [] all = refl
joined_from model cells [] (row ∷ rows) all = absurd all
joined_from model cells (group ∷ groups) [] all = absurd all
joined_from model cells (group ∷ groups) (row ∷ rows) all =
    ap (λ xs. is_lt (cells_cmp cells xs) && rows_from xs rows) all.0.cells
    ∙ ap (λ b. is_lt (cells_cmp cells group.cells) && b) (joined_from model group.cells groups rows all.1)

joined_ascend : (model : Expr) (groups : List Group) (rows : List VRow) → AllJoined model groups rows → groups_ascend groups ≡ true → rows_ascend rows ≡ true
joined_ascend model [] [] all ascend = refl
joined_ascend model [] (row ∷ rows) all ascend = absurd all
joined_ascend model (group ∷ groups) [] all ascend = absurd all
joined_ascend model (group ∷ groups) (row ∷ rows) all ascend =
    ascend_from row rows ∙ ap (λ xs. rows_from xs rows) all.0.cells ∙ joined_from model group.cells groups rows all.1 ∙ ascend

pub all_in_order : (rows : List VRow) → is_in_order rows ≡ true → groups_ascend (groups_after None rows) ≡ true
all_in_order [] order = refl
all_in_order (row ∷ rows) order = groups_in_order (group_of row) rows (sym (order_from row rows) ∙ order)

-- strictly ascending, where the rows were in order
pub rows_do_ascend : (model : Expr) (rows joined : List VRow) → is_in_order rows ≡ true → AllJoined model (groups_after None rows) joined → rows_ascend joined ≡ true
rows_do_ascend model rows joined order all = joined_ascend model _ joined all (all_in_order rows order)

-- they stand where the groups do
pub joined_stand : (model : Expr) (c : List ℕ) (cells : List (Option Value)) → IsAdmitted model c → (groups : List Group) (rows : List VRow) → AllJoined model groups rows → has_row_with c cells rows ≡ list_any (group_stands c cells) groups
joined_stand model c cells admitted [] [] all = refl
joined_stand model c cells admitted [] (row ∷ rows) all = absurd all
joined_stand model c cells admitted (group ∷ groups) [] all = absurd all
joined_stand model c cells admitted (group ∷ groups) (row ∷ rows) all =
    ap₂ (λ (b : Bool) (xs : List (Option Value)). (b && same_cells xs cells) || has_row_with c cells rows) (all.0.holds c admitted) all.0.cells
    ∙ ap (λ b. group_stands c cells group || b) (joined_stand model c cells admitted groups rows all.1)

pub joined_cost : (model : Expr) (groups : List Group) (rows : List VRow) → AllJoined model groups rows → rows_cost rows ≤ groups_cost groups
joined_cost model [] [] all = search rules
joined_cost model [] (row ∷ rows) all = absurd all
joined_cost model (group ∷ groups) [] all = absurd all
joined_cost model (group ∷ groups) (row ∷ rows) all =
    let one : weight_of row.cond + 1 ≤ conds_cost (group.first ∷ group.more) = all.0.cost in
    let rest : rows_cost rows ≤ groups_cost groups = joined_cost model groups rows all.1 in
    omega arith

pub joined_length : (model : Expr) (groups : List Group) (rows : List VRow) → AllJoined model groups rows → length rows ≡ length groups
joined_length model [] [] all = refl
joined_length model [] (row ∷ rows) all = absurd all
joined_length model (group ∷ groups) [] all = absurd all
joined_length model (group ∷ groups) (row ∷ rows) all = search (rules, joined_length model groups rows all.1)

-- whether all rows of a group pass
abbrev pub group_passes : (VRow → Bool) → Group → Bool
group_passes test group = list_all test (group_rows group)

longer_passes : (test : VRow → Bool) (group : Group) (row : VRow) → group_passes test group ≡ true → test row ≡ true → same_cells group.cells row.cells ≡ true → group_passes test (with_cond group row.cond) ≡ true
longer_passes test group row all one same =
    let made : Expr → VRow = λ cond. record { cells = group.cells; cond = cond } in
    ap (λ rows. test (made group.first) && list_all test rows) (map-append made group.more (row.cond ∷ []))
    ∙ ap (λ b. test (made group.first) && b) (list_all-append test (map made group.more) (made row.cond ∷ []))
    ∙ both _ _ (and_first _ _ all) (both _ _ (and_second _ _ all) (both _ _ (subst (λ xs. test (record { cells = xs; cond = row.cond }) ≡ true) (sym (same_cells_are _ _ same)) one) refl))

groups_pass : (test : VRow → Bool) (group : Group) (rows : List VRow) → group_passes test group ≡ true → list_all test rows ≡ true → list_all (group_passes test) (groups_after (Some group) rows) ≡ true
groups_pass test group [] first all = both _ _ first refl
groups_pass test group (row ∷ rows) first all =
    elim (true_or_false (same_cells group.cells row.cells)) [
      | inl same ↦
          ap (list_all (group_passes test)) (choice_true _ _ _ same)
          ∙ groups_pass test (with_cond group row.cond) rows (longer_passes test group row first (and_first _ _ all) same) (and_second _ _ all)
      | inr apart ↦
          ap (list_all (group_passes test)) (choice_false _ _ _ apart)
          ∙ both _ _ first (groups_pass test (group_of row) rows (both _ _ (and_first _ _ all) refl) (and_second _ _ all))
    ]

pub all_groups_pass : (test : VRow → Bool) (rows : List VRow) → list_all test rows ≡ true → list_all (group_passes test) (groups_after None rows) ≡ true
all_groups_pass test [] all = refl
all_groups_pass test (row ∷ rows) all = groups_pass test (group_of row) rows (both _ _ (and_first _ _ all) refl) (and_second _ _ all)

beq_is : (a b : Bool) → beq a b ≡ true → a ≡ b
beq_is true true h = refl
beq_is true false h = search rules
beq_is false true h = search rules
beq_is false false h = refl

pub beq_self : (a b : Bool) → a ≡ b → beq a b ≡ true
beq_self true true h = refl
beq_self true false h = search rules
beq_self false true h = search rules
beq_self false false h = refl

all_first : {X : Type 0} (p q : X → Bool) (xs : List X) → list_all (λ x. p x && q x) xs ≡ true → list_all p xs ≡ true
all_first p q [] h = refl
all_first p q (x ∷ xs) h = both _ _ (and_first _ _ (and_first _ _ h)) (all_first p q xs (and_second _ _ h))

all_second : {X : Type 0} (p q : X → Bool) (xs : List X) → list_all (λ x. p x && q x) xs ≡ true → list_all q xs ≡ true
all_second p q [] h = refl
all_second p q (x ∷ xs) h = both _ _ (and_second _ _ (and_first _ _ h)) (all_second p q xs (and_second _ _ h))

neither_meets : (a b s : Bool) → (a && s) ≡ false → (b && s) ≡ false → ((a || b) && s) ≡ false
neither_meets true b s h k = h
neither_meets false b s h k = k

none_meets : (model cond : Expr) (conds : List Expr) → list_all (λ e. beq false (can_meet model e cond)) conds ≡ true → (c : List ℕ) → IsAdmitted model c → (any_holds c conds && satisfies c cond) ≡ false
none_meets model cond [] apart c admitted = refl
none_meets model cond (e ∷ conds) apart c admitted =
    neither_meets (satisfies c e) (any_holds c conds) (satisfies c cond)
    (each_fails model (λ d. satisfies d e && satisfies d cond) (sym (beq_is _ _ (and_first _ _ apart))) c admitted)
    (none_meets model cond conds (and_second _ _ apart) c admitted)

-- the whole meets a condition where the parts do, which all do or all don't
whole_meets : (model whole first : Expr) (more : List Expr) (cond : Expr) (there : Bool) → ((c : List ℕ) → IsAdmitted model c → satisfies c whole ≡ any_holds c (first ∷ more)) → list_all (λ e. beq there (can_meet model e cond)) (first ∷ more) ≡ true → beq there (can_meet model whole cond) ≡ true
whole_meets model whole first more cond true holds all =
    let found = admitted_of model (λ c. satisfies c first && satisfies c cond) (sym (beq_is _ _ (and_first _ _ all))) in
    beq_self _ _ (sym (some_admitted_of model (λ c. satisfies c whole && satisfies c cond) found.config found.admitted
    (both _ _ (holds found.config found.admitted ∙ or_left (satisfies found.config first) (any_holds found.config more) (and_first (satisfies found.config first) (satisfies found.config cond) found.has)) (and_second (satisfies found.config first) (satisfies found.config cond) found.has))))
whole_meets model whole first more cond false holds all =
    beq_self _ _ (sym (none_admitted model (λ c. satisfies c whole && satisfies c cond) (λ c admitted. ap (λ b. b && satisfies c cond) (holds c admitted) ∙ none_meets model cond (first ∷ more) all c admitted)))

whole_stands : (model whole first : Expr) (more : List Expr) (columns : List VColumn) (cells : List (Option Value)) → ((c : List ℕ) → IsAdmitted model c → satisfies c whole ≡ any_holds c (first ∷ more)) → list_all (λ e. cells_stand model e columns cells) (first ∷ more) ≡ true → cells_stand model whole columns cells ≡ true
whole_stands model whole first more [] [] holds all = refl
whole_stands model whole first more [] (cell ∷ cells) holds all = all
whole_stands model whole first more (column ∷ columns) [] holds all = all
whole_stands model whole first more (column ∷ columns) (cell ∷ cells) holds all =
    let here : Expr → Bool = λ e. beq (is_some cell) (can_meet model e column.cond) in
    let behind : Expr → Bool = λ e. cells_stand model e columns cells in
    both _ _ (whole_meets model whole first more column.cond (is_some cell) holds (all_first here behind (first ∷ more) all))
    (whole_stands model whole first more columns cells holds (all_second here behind (first ∷ more) all))

all_mapped : (test : VRow → Bool) (made : Expr → VRow) (conds : List Expr) → list_all test (map made conds) ≡ list_all (λ e. test (made e)) conds
all_mapped test made [] = refl
all_mapped test made (e ∷ conds) = ap (λ b. test (made e) && b) (all_mapped test made conds)

joined_formed : (model : Expr) (columns : List VColumn) (group : Group) (row : VRow) → IsJoined model group row → group_passes (is_row_formed model columns) group ≡ true → is_row_formed model columns row ≡ true
joined_formed model columns group row joined all =
    let each : list_all (λ e. is_settled model e && cells_stand model e columns group.cells && has_cell group.cells) (group.first ∷ group.more) ≡ true = sym (all_mapped (is_row_formed model columns) (λ e. record { cells = group.cells; cond = e }) (group.first ∷ group.more)) ∙ all in
    let standing_settled = all_first (λ e. is_settled model e && cells_stand model e columns group.cells) (λ e. has_cell group.cells) (group.first ∷ group.more) each in
    let celled = all_second (λ e. is_settled model e && cells_stand model e columns group.cells) (λ e. has_cell group.cells) (group.first ∷ group.more) each in
    let settled = all_first (λ e. is_settled model e) (λ e. cells_stand model e columns group.cells) (group.first ∷ group.more) standing_settled in
    let standing = all_second (λ e. is_settled model e) (λ e. cells_stand model e columns group.cells) (group.first ∷ group.more) standing_settled in
    both _ _
    (both _ _ (joined.settled (and_first _ _ settled))
    (subst (λ xs. cells_stand model row.cond columns xs ≡ true) (sym joined.cells) (whole_stands model row.cond group.first group.more columns group.cells joined.holds standing)))
    (subst (λ xs. has_cell xs ≡ true) (sym joined.cells) (and_first _ _ celled))

all_joined_formed : (model : Expr) (columns : List VColumn) (groups : List Group) (rows : List VRow) → AllJoined model groups rows → list_all (group_passes (is_row_formed model columns)) groups ≡ true → list_all (is_row_formed model columns) rows ≡ true
all_joined_formed model columns [] [] all formed = refl
all_joined_formed model columns [] (row ∷ rows) all formed = absurd all
all_joined_formed model columns (group ∷ groups) [] all formed = absurd all
all_joined_formed model columns (group ∷ groups) (row ∷ rows) all formed =
    both _ _ (joined_formed model columns group row all.0 (and_first _ _ formed)) (all_joined_formed model columns groups rows all.1 (and_second _ _ formed))

-- formed, where the rows were
pub rows_are_formed : (model : Expr) (columns : List VColumn) (rows joined : List VRow) → list_all (is_row_formed model columns) rows ≡ true → AllJoined model (groups_after None rows) joined → list_all (is_row_formed model columns) joined ≡ true
rows_are_formed model columns rows joined formed all = all_joined_formed model columns _ joined all (all_groups_pass _ rows formed)

turned : (a b : Bool) → (a && not b) ≡ not (not a || b)
turned true b = refl
turned false b = refl

all_by_any : {X : Type 0} (test : X → Bool) (xs : List X) → list_all test xs ≡ not (list_any (λ x. not (test x)) xs)
all_by_any test [] = refl
all_by_any test (x ∷ xs) = ap (λ b. test x && b) (all_by_any test xs) ∙ turned (test x) (list_any (λ y. not (test y)) xs)

-- a test that all rows pass, in whatever order
pub all_permuted : {X : Type 0} (test : X → Bool) (xs ys : List X) → IsPermutation xs ys → list_all test xs ≡ list_all test ys
all_permuted test xs ys moved = all_by_any test xs ∙ ap not (list_any-IsPermutation (λ x. not (test x)) xs ys moved) ∙ sym (all_by_any test ys)
