-- The last value of a parameter, and names with commas between them.
use Rattle.std.proofs.Common.{◌≡◌, ◌∙◌, ℕ, zero, suc, ◌+◌, ◌<◌, ◌==◌, Bool, true, false, List, [], ◌∷◌, ◌++◌, length, take, Option, Some, None, if◌then◌else◌, bytes_eq, codes, refl, sym, ap, arith, append_assoc, append-nil, ne_eqb}
use Rattle.std.specs.List.{flat_map}
use Rattle.feature_expr.specs.Printing.{name_of}
use Rattle.pg_messages.specs.declared.startup.Pair.{Pair}
use Rattle.session_poll.specs.StartUps.{later_or, value_of, with_commas, behind_comma, piece}

later_none : (rest found : Option (List ℕ)) → later_or (later_or rest None) found ≡ later_or rest found
later_none None found = refl
later_none (Some value) found = refl

later_some : (rest found : Option (List ℕ)) (value : List ℕ) → later_or (later_or rest (Some value)) found ≡ later_or rest (Some value)
later_some None found value = refl
later_some (Some later) found value = refl

pub last_same : (name : List ℕ) (pair : Pair) (pairs : List Pair) (found all : Option (List ℕ)) → bytes_eq pair.name name ≡ false → later_or (value_of name (pair ∷ pairs)) found ≡ all → later_or (value_of name pairs) found ≡ all
last_same name pair pairs found all other is =
    sym (later_none (value_of name pairs) found) ∙ ap (λ (b : Bool). later_or (later_or (value_of name pairs) (if b then Some pair.value else None)) found) (sym other) ∙ is

pub last_new : (name : List ℕ) (pair : Pair) (pairs : List Pair) (found all : Option (List ℕ)) → bytes_eq pair.name name ≡ true → later_or (value_of name (pair ∷ pairs)) found ≡ all → later_or (value_of name pairs) (Some pair.value) ≡ all
last_new name pair pairs found all same is =
    sym (later_some (value_of name pairs) found pair.value) ∙ ap (λ (b : Bool). later_or (later_or (value_of name pairs) (if b then Some pair.value else None)) found) (sym same) ∙ is

pub last_end : (found : Option (List ℕ)) → later_or None found ≡ found
last_end found = refl

behind_more : (names : List (List ℕ)) (k : ℕ) → k < length names → flat_map behind_comma (take (k + 1) names) ≡ flat_map behind_comma (take k names) ++ (codes "," ++ name_of names k)
behind_more [] k within = absurd (omega (arith, within))
behind_more (name ∷ names) zero within = append-nil (behind_comma name)
behind_more (name ∷ names) (suc k) within =
    let order : suc k + 1 ≡ suc (k + 1) = omega arith in
    rw order
    (ap (λ (b : List ℕ). behind_comma name ++ b) (behind_more names k (omega (arith, within))) ∙ sym (append_assoc (behind_comma name) (flat_map behind_comma (take k names)) (codes "," ++ name_of names k)))

pub listed_more : (names : List (List ℕ)) (k : ℕ) → k < length names → with_commas (take (k + 1) names) ≡ with_commas (take k names) ++ piece names k
listed_more [] k within = absurd (omega (arith, within))
listed_more (name ∷ names) zero within = append-nil name
listed_more (name ∷ names) (suc k) within =
    let order : suc k + 1 ≡ suc (k + 1) = omega arith in
    let later : (suc k == 0) ≡ false = ne_eqb (suc k) 0 (λ is. absurd (omega (arith, is))) in
    rw (order, later)
    (ap (λ (b : List ℕ). name ++ b) (behind_more names k (omega (arith, within))) ∙ sym (append_assoc name (flat_map behind_comma (take k names)) (codes "," ++ name_of names k)))
