-- Grouping the rows that are in order.
use Rattle.std.proofs.Common.{◌≡◌, suc, Bool, true, false, not, if◌then◌else◌, List, [], ◌∷◌, ◌++◌, map, Option, Some, None, refl, sym, ◌∙◌, ap, rules, arith, append_assoc}
use native.Mathlib.Numerals.{unary_clauses}
use Rattle.std.specs.List.Sorted.{IsSortedBy}
use Rattle.std.specs.Ordering.{is_lt, ordering_then}
use Rattle.std.specs.Option.{option_cmp}
use Rattle.std.specs.Cmp.Lexicographic.{slice_cmp}
use Rattle.values.specs.contracts.value.ValueOrd.TheImpl.{cmp-value}
use Rattle.values.specs.declared.value.Value.{Value}
use Rattle.values.specs.declared.value.Value.TheVariants as value
use Rattle.vtable.specs.declared.group.CutRow.{CutRow}
use Rattle.vtable.specs.declared.group.Group.{Group}
use Rattle.vtable.specs.declared.table.VRow.{VRow}
use Rattle.plain_relation.specs.Values.{value_cmp}
use Rattle.vtable.specs.TableForm.{same_cells, cells_cmp}
use Rattle.vtable.specs.Passes.{table_row, is_in_order, groups_after, group_of}
use Rattle.condition_sat.proofs.PossibleLaws.{both}

-- a row of other cells ends the group
pub apart_put : (groups new : List Group) (group : Group) (row : VRow) (rest : List VRow) → same_cells group.cells row.cells ≡ false → new ≡ groups ++ group ∷ [] → new ++ groups_after (Some (group_of row)) rest ≡ groups ++ groups_after (Some group) (row ∷ rest)
apart_put groups new group row rest apart is =
    ap (λ xs. xs ++ groups_after (Some (group_of row)) rest) is
    ∙ append_assoc groups (group ∷ []) (groups_after (Some (group_of row)) rest)
    ∙ ap (λ (b : Bool). groups ++ (if b then groups_after (Some (record { cells = group.cells; first = group.first; more = group.more ++ row.cond ∷ [] })) rest else group ∷ groups_after (Some (group_of row)) rest)) (sym apart)

-- rows that a sort left are in order
pub in_order_of : (lt : CutRow → CutRow → Bool) (rows : List CutRow) → IsSortedBy lt rows → ((one other : CutRow) → lt one other ≡ is_lt (cells_cmp one.cells.items other.cells.items)) → is_in_order (map table_row rows) ≡ true
in_order_of lt [] sorted same = refl
in_order_of lt (row ∷ []) sorted same = refl
in_order_of lt (row ∷ next ∷ rows) sorted same =
    both _ _ (ap not (sym (same next row) ∙ sorted 0 row (search rules) (search rules)))
    (in_order_of lt (next ∷ rows) (λ k d low high. let h = sorted (suc k) d (search rules) (omega arith) in simp unary_clauses (simp unary_clauses at h)) same)

-- the order of values that is derived
pub value_order : (one other : Value) → cmp-value.it one other ≡ value_cmp one other
value_order (value.Int one) (value.Int other) = refl
value_order (value.Int one) (value.Text other) = refl
value_order (value.Int one) (value.Bool other) = refl
value_order (value.Text one) (value.Int other) = refl
value_order (value.Text one) (value.Text other) = refl
value_order (value.Text one) (value.Bool other) = refl
value_order (value.Bool one) (value.Int other) = refl
value_order (value.Bool one) (value.Text other) = refl
value_order (value.Bool true) (value.Bool true) = refl
value_order (value.Bool true) (value.Bool false) = refl
value_order (value.Bool false) (value.Bool true) = refl
value_order (value.Bool false) (value.Bool false) = refl

cell_order : (one other : Option Value) → option_cmp cmp-value.it one other ≡ option_cmp value_cmp one other
cell_order None None = refl
cell_order None (Some other) = refl
cell_order (Some one) None = refl
cell_order (Some one) (Some other) = value_order one other

pub cells_order : (one other : List (Option Value)) → slice_cmp (option_cmp cmp-value.it) one other ≡ cells_cmp one other
cells_order [] [] = refl
cells_order [] (cell ∷ other) = refl
cells_order (cell ∷ one) [] = refl
cells_order (cell ∷ one) (next ∷ other) = ap (λ o. ordering_then o (slice_cmp (option_cmp cmp-value.it) one other)) (cell_order cell next) ∙ ap (λ o. ordering_then (option_cmp value_cmp cell next) o) (cells_order one other)

pub sorted_in_order : (rows : List CutRow) → IsSortedBy (λ one other. is_lt (slice_cmp (option_cmp cmp-value.it) one.cells.items other.cells.items)) rows → is_in_order (map table_row rows) ≡ true
sorted_in_order rows sorted = in_order_of _ rows sorted (λ one other. ap is_lt (cells_order one.cells.items other.cells.items))
