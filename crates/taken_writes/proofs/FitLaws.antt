-- No parameter, and only known features.
use Rattle.std.proofs.Common.{◌≡◌, ◌==◌, ◌<◌, ℕ, zero, suc, Bool, true, false, ◌&&◌, List, [], ◌∷◌, map, max, refl, sym, ◌∙◌, ap, arith}
use Rattle.std.proofs.Math.Nat.{le-max_left, zero-max}
use Rattle.std.proofs.lemmas.Bool.Decides.{nat_tests}
use Rattle.std.specs.List.{list_all}
use Rattle.taken_writes.specs.Without.{item_without, row_without}
use Rattle.vra_syntax.specs.Parameters.{greatest_of, param_in_operand, param_in_row, param_in_rows, param_in_set_item, param_in_set_items}
use Rattle.vra_syntax.specs.declared.cond.Operand.{Operand}
use Rattle.vra_syntax.specs.declared.write.SetItem.{SetItem}

pub positive : (n : ℕ) → 0 < n → (n == 0) ≡ false
positive n h = grind (arith, nat_tests)

-- the greater of two numbers is 0 where both are
pub zero_of_two : (a b : ℕ) → (max a b == 0) ≡ (a == 0 && b == 0)
zero_of_two zero b = ap (λ n. n == 0) (zero-max b)
zero_of_two (suc a) b =
    positive (max (suc a) b) (omega (arith, le-max_left (suc a) b)) ∙ sym (ap (λ x. x && b == 0) (positive (suc a) (omega arith)))

with_true : (b : Bool) → (b && true) ≡ b
with_true true = refl
with_true false = refl

pub no_param_in_two : (a b : ℕ) (p q : Bool) → p ≡ (a == 0) → q ≡ (b == 0) → (p && q) ≡ (max a b == 0 && true)
no_param_in_two a b p q is other = ap (λ x. x && q) is ∙ ap (λ x. a == 0 && x) other ∙ sym (zero_of_two a b) ∙ sym (with_true (max a b == 0))

-- of a left and a right part, each with its greatest parameter and whether its features are known

shuffled : (p q x y : Bool) → ((p && q) && (x && y)) ≡ ((p && x) && (q && y))
shuffled true true x y = refl
shuffled true false true y = refl
shuffled true false false y = refl
shuffled false q x y = refl

fits : (a b : ℕ) (x y : Bool) → (max a b == 0 && (x && y)) ≡ ((a == 0 && x) && (b == 0 && y))
fits a b x y = ap (λ z. z && (x && y)) (zero_of_two a b) ∙ shuffled (a == 0) (b == 0) x y

and_true : (a b : Bool) → b ≡ true → (a && b) ≡ a
and_true true b h = h
and_true false b h = refl

and_false : (a b : Bool) → b ≡ false → (a && b) ≡ false
and_false true b h = h
and_false false b h = refl

pub left_fits : (a b : ℕ) (x y : Bool) → (b == 0 && y) ≡ true → (max a b == 0 && (x && y)) ≡ (a == 0 && x)
left_fits a b x y h = fits a b x y ∙ and_true (a == 0 && x) (b == 0 && y) h

pub right_does_not : (a b : ℕ) (x y : Bool) → (b == 0 && y) ≡ false → (max a b == 0 && (x && y)) ≡ false
right_does_not a b x y h = fits a b x y ∙ and_false (a == 0 && x) (b == 0 && y) h

pub chosen_fits : (a b : ℕ) (k x y : Bool) → k ≡ true → (b == 0 && y) ≡ true → (max a b == 0 && (k && x && y)) ≡ (a == 0 && x)
chosen_fits a b true x y is h = left_fits a b x y h
chosen_fits a b false x y is h = cc

pub chosen_right_does_not : (a b : ℕ) (k x y : Bool) → k ≡ true → (b == 0 && y) ≡ false → (max a b == 0 && (k && x && y)) ≡ false
chosen_right_does_not a b true x y is h = right_does_not a b x y h
chosen_right_does_not a b false x y is h = cc

pub expr_is_not_below : (a b : ℕ) (k x y : Bool) → k ≡ false → (max a b == 0 && (k && x && y)) ≡ false
expr_is_not_below a b true x y is = cc
expr_is_not_below a b false x y is = and_false (max a b == 0) false refl

-- lists

all_same : {X : Type 0} {p q : X → Bool} → ((x : X) → p x ≡ q x) → (xs : List X) → list_all p xs ≡ list_all q xs
all_same same [] = refl
all_same {p = p} {q = q} same (x ∷ xs) = ap (λ b. b && list_all p xs) (same x) ∙ ap (λ b. q x && b) (all_same same xs)

zero_of_all : {X : Type 0} (f : X → ℕ) (xs : List X) → list_all (λ x. f x == 0) xs ≡ (greatest_of (map f xs) == 0)
zero_of_all f [] = refl
zero_of_all f (x ∷ xs) = ap (λ b. f x == 0 && b) (zero_of_all f xs) ∙ sym (zero_of_two (f x) (greatest_of (map f xs)))

pub no_param_in_rows : (rows : List (List Operand)) → list_all row_without rows ≡ (param_in_rows rows == 0)
no_param_in_rows rows = all_same (λ (row : List Operand). zero_of_all param_in_operand row) rows ∙ zero_of_all param_in_row rows

pub no_param_in_items : (items : List SetItem) → list_all item_without items ≡ (param_in_set_items items == 0)
no_param_in_items items = zero_of_all param_in_set_item items
