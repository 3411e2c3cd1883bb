-- One more row of a loop that keeps some.
use Rattle.std.proofs.Common.{◌≡◌, ℕ, ◌+◌, List, [], ◌∷◌, ◌++◌, length, take, get_or, ◌<◌, Option, Some, None, refl, sym, ◌∙◌, ap, append_assoc, append-nil}
use Rattle.std.specs.List.{filter_map, flat_map}
use Rattle.std.proofs.lemmas.List.Concat.{flat_map-append}
use Rattle.std.specs.Option.{option_to_list}
use Rattle.std.proofs.lemmas.List.{take_more}
use Rattle.std.proofs.lemmas.List.Elements.{filter_map-append}

one_kept : {X Y : Type 0} (keep : X → Option Y) (x : X) (kept : Option Y) → keep x ≡ kept → filter_map keep (x ∷ []) ≡ option_to_list kept
one_kept keep x None is = rw is refl
one_kept keep x (Some y) is = rw is refl

pub kept_push : {X Y : Type 0} (keep : X → Option Y) (xs : List X) (x : X) → filter_map keep (xs ++ x ∷ []) ≡ filter_map keep xs ++ option_to_list (keep x)
kept_push keep xs x = filter_map-append keep xs (x ∷ []) ∙ ap (λ ys. filter_map keep xs ++ ys) (one_kept keep x (keep x) refl)

taken : {X Y : Type 0} (keep : X → Option Y) (xs : List X) (i : ℕ) (x : X) → i < length xs → x ≡ get_or xs i x → filter_map keep (take i xs) ++ option_to_list (keep x) ≡ filter_map keep (take (i + 1) xs)
taken keep xs i x below is_x = sym (kept_push keep (take i xs) x) ∙ ap (λ y. filter_map keep (take i xs ++ y ∷ [])) is_x ∙ ap (filter_map keep) (sym (take_more xs i x below))

-- one more item is taken
pub kept_more : {X Y : Type 0} (keep : X → Option Y) (xs : List X) (i : ℕ) (x : X) (out new : List Y) → i < length xs → x ≡ get_or xs i x → out ≡ filter_map keep (take i xs) → new ≡ out ++ option_to_list (keep x) → new ≡ filter_map keep (take (i + 1) xs)
kept_more keep xs i x out new below is_x is_out is_new = is_new ∙ ap (λ ys. ys ++ option_to_list (keep x)) is_out ∙ taken keep xs i x below is_x

-- the same of items that are given up, behind what stands there already
pub moved_behind : {X Y : Type 0} (keep : X → Option Y) (xs : List X) (x : X) (first out new : List Y) → out ≡ first ++ filter_map keep xs → new ≡ out ++ option_to_list (keep x) → new ≡ first ++ filter_map keep (xs ++ x ∷ [])
moved_behind keep xs x first out new is_out is_new =
    is_new
    ∙ ap (λ ys. ys ++ option_to_list (keep x)) is_out
    ∙ append_assoc first (filter_map keep xs) (option_to_list (keep x))
    ∙ ap (λ ys. first ++ ys) (sym (kept_push keep xs x))

-- the same behind what stands there already
pub kept_behind : {X Y : Type 0} (keep : X → Option Y) (xs : List X) (i : ℕ) (x : X) (first out new : List Y) → i < length xs → x ≡ get_or xs i x → out ≡ first ++ filter_map keep (take i xs) → new ≡ out ++ option_to_list (keep x) → new ≡ first ++ filter_map keep (take (i + 1) xs)
kept_behind keep xs i x first out new below is_x is_out is_new =
    is_new
    ∙ ap (λ ys. ys ++ option_to_list (keep x)) is_out
    ∙ append_assoc first (filter_map keep (take i xs)) (option_to_list (keep x))
    ∙ ap (λ ys. first ++ ys) (taken keep xs i x below is_x)

one_joined : {X Y : Type 0} (f : X → List Y) (xs : List X) (x : X) → flat_map f (xs ++ x ∷ []) ≡ flat_map f xs ++ f x
one_joined f xs x = flat_map-append f xs (x ∷ []) ∙ ap (λ ys. flat_map f xs ++ ys) (append-nil (f x))

-- one more item's are joined
pub joined_more : {X Y : Type 0} (f : X → List Y) (xs : List X) (i : ℕ) (x : X) (out new : List Y) → i < length xs → x ≡ get_or xs i x → out ≡ flat_map f (take i xs) → new ≡ out ++ f x → new ≡ flat_map f (take (i + 1) xs)
joined_more f xs i x out new below is_x is_out is_new =
    is_new
    ∙ ap (λ ys. ys ++ f x) is_out
    ∙ sym (one_joined f (take i xs) x)
    ∙ ap (λ y. flat_map f (take i xs ++ y ∷ [])) is_x
    ∙ ap (flat_map f) (sym (take_more xs i x below))
