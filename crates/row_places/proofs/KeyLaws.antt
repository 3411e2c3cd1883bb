-- Lists of cells are equal, as the keys of a map are compared, where they compare equal in their order.
use Rattle.std.proofs.Common.{◌≡◌, Bool, true, false, ◌&&◌, List, [], ◌∷◌, Option, Some, None, refl, sym}
use Rattle.std.proofs.lemmas.Map.Text.{is_eq-slice_cmp}
use Rattle.std.specs.Cmp.Lexicographic.{pointwise}
use Rattle.std.specs.Option.{option_cmp, option_eq}
use Rattle.std.specs.declared.cmp.Ordering.{Ordering}
use Rattle.std.specs.declared.cmp.Ordering.TheVariants.{Less, Equal, Greater}
use Rattle.std.specs.Ordering.{is_eq}
use Rattle.plain_relation.specs.Values.{value_cmp}
use Rattle.values.specs.contracts.value.ValuePartialEq.TheImpl.{eq-value}
use Rattle.values.specs.declared.value.Value.{Value}
use Rattle.values.specs.declared.value.Value.TheVariants as value
use Rattle.vtable.specs.TableForm.{same_cells}

truth_same : (a b : Bool) → eq-value.it (value.Bool a) (value.Bool b) ≡ is_eq (value_cmp (value.Bool a) (value.Bool b))
truth_same true true = refl
truth_same true false = refl
truth_same false true = refl
truth_same false false = refl

value_same : (v w : Value) → eq-value.it v w ≡ is_eq (value_cmp v w)
value_same (value.Int a) (value.Int b) = refl
value_same (value.Int a) (value.Text b) = refl
value_same (value.Int a) (value.Bool b) = refl
value_same (value.Text a) (value.Int b) = refl
value_same (value.Text a) (value.Text b) = sym (is_eq-slice_cmp a b)
value_same (value.Text a) (value.Bool b) = refl
value_same (value.Bool a) (value.Int b) = refl
value_same (value.Bool a) (value.Text b) = refl
value_same (value.Bool a) (value.Bool b) = truth_same a b

cell_same : (one other : Option Value) → option_eq eq-value.it one other ≡ is_eq (option_cmp value_cmp one other)
cell_same None None = refl
cell_same None (Some w) = refl
cell_same (Some v) None = refl
cell_same (Some v) (Some w) = value_same v w

more_same : (x y : Option Value) (xs ys : List (Option Value)) (o : Ordering) → option_cmp value_cmp x y ≡ o → pointwise (option_eq eq-value.it) xs ys ≡ same_cells xs ys → (option_eq eq-value.it x y && pointwise (option_eq eq-value.it) xs ys) ≡ same_cells (x ∷ xs) (y ∷ ys)
more_same x y xs ys Less is rest = rw (cell_same x y, is) refl
more_same x y xs ys Equal is rest = rw (cell_same x y, is) rest
more_same x y xs ys Greater is rest = rw (cell_same x y, is) refl

pub cells_same : (one other : List (Option Value)) → pointwise (option_eq eq-value.it) one other ≡ same_cells one other
cells_same [] [] = refl
cells_same [] (y ∷ ys) = refl
cells_same (x ∷ xs) [] = refl
cells_same (x ∷ xs) (y ∷ ys) = more_same x y xs ys (option_cmp value_cmp x y) refl (cells_same xs ys)
