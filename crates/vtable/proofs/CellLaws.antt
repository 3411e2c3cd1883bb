-- The order of cells tells them apart.
use Rattle.std.proofs.Common.{◌≡◌, true, false, List, [], ◌∷◌, Option, Some, None, refl, sym, ◌∙◌, ap, ap₂, rules}
use Rattle.std.specs.Ordering.{is_lt, is_eq, ordering_then, ordering_reverse}
use Rattle.std.specs.declared.cmp.Ordering.{Ordering}
use Rattle.std.specs.declared.cmp.Ordering.TheVariants.{Less, Equal, Greater}
use Rattle.std.specs.Option.{option_cmp}
use Rattle.std.specs.Cmp.Lexicographic.{options_total}
use Rattle.std.proofs.lemmas.Cmp.{lists_total}
use Rattle.std.proofs.lemmas.Map.Lookups.{exact_signed, exact_bytes}
use Rattle.values.specs.contracts.value.ValueOrd.TheImpl.Laws.{total-law}
use Rattle.values.specs.declared.value.Value.{Value}
use Rattle.values.specs.declared.value.Value.TheVariants as value
use Rattle.plain_relation.specs.Values.{value_cmp}
use Rattle.vtable.specs.TableForm.{cells_cmp, same_cells}
use Rattle.vtable.proofs.GroupLaws.{cells_order}

not_equal : (o : Ordering) → o ≡ Less → o ≡ Equal → ⊥
not_equal Less h k = search rules
not_equal Equal h k = search rules
not_equal Greater h k = search rules

pub value_is : (one other : Value) → value_cmp one other ≡ Equal → one ≡ other
value_is (value.Int one) (value.Int other) h = ap value.Int (exact_signed one other h)
value_is (value.Int one) (value.Text other) h = search rules
value_is (value.Int one) (value.Bool other) h = search rules
value_is (value.Text one) (value.Int other) h = search rules
value_is (value.Text one) (value.Text other) h = ap value.Text (exact_bytes one other h)
value_is (value.Text one) (value.Bool other) h = search rules
value_is (value.Bool one) (value.Int other) h = search rules
value_is (value.Bool one) (value.Text other) h = search rules
value_is (value.Bool true) (value.Bool true) h = refl
value_is (value.Bool true) (value.Bool false) h = search rules
value_is (value.Bool false) (value.Bool true) h = search rules
value_is (value.Bool false) (value.Bool false) h = refl

cell_is : (one other : Option Value) → option_cmp value_cmp one other ≡ Equal → one ≡ other
cell_is None None h = refl
cell_is None (Some other) h = search rules
cell_is (Some one) None h = search rules
cell_is (Some one) (Some other) h = ap Some (value_is one other h)

pub then_first : (o p : Ordering) → ordering_then o p ≡ Equal → o ≡ Equal
then_first Less p h = search rules
then_first Equal p h = refl
then_first Greater p h = search rules

pub then_second : (o p : Ordering) → ordering_then o p ≡ Equal → p ≡ Equal
then_second Less p h = search rules
then_second Equal p h = h
then_second Greater p h = search rules

cells_are : (one other : List (Option Value)) → cells_cmp one other ≡ Equal → one ≡ other
cells_are [] [] h = refl
cells_are [] (cell ∷ other) h = search rules
cells_are (cell ∷ one) [] h = search rules
cells_are (cell ∷ one) (next ∷ other) h = ap₂ (λ x xs. x ∷ xs) (cell_is cell next (then_first _ _ h)) (cells_are one other (then_second _ _ h))

pub is_equal : (o : Ordering) → is_eq o ≡ true → o ≡ Equal
is_equal Less h = search rules
is_equal Equal h = refl
is_equal Greater h = search rules

-- lists of cells that compare equal are equal
pub same_cells_are : (one other : List (Option Value)) → same_cells one other ≡ true → one ≡ other
same_cells_are one other h = cells_are one other (is_equal _ h)

pub cells_turned : (one other : List (Option Value)) → cells_cmp one other ≡ ordering_reverse (cells_cmp other one)
cells_turned one other = sym (cells_order one other) ∙ (lists_total (options_total total-law)).antisymm one other ∙ ap ordering_reverse (cells_order other one)

self_equal : (o : Ordering) → o ≡ ordering_reverse o → is_eq o ≡ true
self_equal Less h = search rules
self_equal Equal h = refl
self_equal Greater h = search rules

pub same_cells_self : (cells : List (Option Value)) → same_cells cells cells ≡ true
same_cells_self cells = self_equal _ (cells_turned cells cells)

-- what isn't before, and isn't the same, is behind
order_left : (o p : Ordering) → o ≡ ordering_reverse p → is_lt p ≡ false → is_eq o ≡ false → is_lt o ≡ true
order_left Less p h k l = refl
order_left Equal p h k l = search rules
order_left Greater Less h k l = search rules
order_left Greater Equal h k l = search rules
order_left Greater Greater h k l = search rules

pub cells_ascend : (one other : List (Option Value)) → is_lt (cells_cmp other one) ≡ false → same_cells one other ≡ false → is_lt (cells_cmp one other) ≡ true
cells_ascend one other behind apart = order_left _ _ (cells_turned one other) behind apart
