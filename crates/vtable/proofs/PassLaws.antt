-- One more column, cell or row in the passes.
use Rattle.std.proofs.Common.{◌≡◌, ℕ, ◌+◌, List, [], ◌∷◌, ◌++◌, length, take, get_or, ◌<◌, Option, Some, None, refl, sym, ◌∙◌, ap, append_assoc}
use Rattle.std.specs.List.{filter_map}
use Rattle.std.specs.Prelude.{reverse}
use Rattle.std.proofs.lemmas.List.{reverse-append, take_more}
use Rattle.std.specs.Option.{option_to_list}
use Rattle.std.proofs.lemmas.List.Elements.{filter_map-append}
use Rattle.values.specs.declared.value.Value.{Value}
use Rattle.vtable.specs.declared.decision.Fate.{Fate}
use Rattle.vtable.specs.declared.table.VColumn.{VColumn}
use Rattle.vtable.specs.Passes.{staying, cells_by, cell_by}

one_staying : (column : Option VColumn) → staying (column ∷ []) ≡ option_to_list column
one_staying None = refl
one_staying (Some column) = refl

pub staying_push : (decided : List (Option VColumn)) (column : Option VColumn) → staying (decided ++ column ∷ []) ≡ staying decided ++ option_to_list column
staying_push decided column = filter_map-append (λ x. x) decided (column ∷ []) ∙ ap (λ xs. staying decided ++ xs) (one_staying column)

pub cells_by_nil : (fates : List Fate) → cells_by fates [] ≡ []
cells_by_nil [] = refl
cells_by_nil (fate ∷ fates) = refl

-- no cell is left
pub none_left : (cut : List (Option Value)) (fates : List Fate) (fate : Fate) (old new : List (Option Value)) → old ≡ [] → new ≡ [] → cut ++ cells_by fates (reverse new) ≡ cut ++ cells_by (fate ∷ fates) (reverse old)
none_left cut fates fate old new is_old is_new =
    ap (λ xs. cut ++ cells_by fates (reverse xs)) is_new ∙ ap (λ xs. cut ++ xs) (cells_by_nil fates) ∙ ap (λ xs. cut ++ cells_by (fate ∷ fates) (reverse xs)) (sym is_old)

-- the first cell is put in its place
pub one_put : (cut cut_new : List (Option Value)) (fates : List Fate) (fate : Fate) (cell : Option Value) (old new : List (Option Value)) → old ≡ new ++ cell ∷ [] → cut_new ≡ cut ++ cell_by fate cell → cut_new ++ cells_by fates (reverse new) ≡ cut ++ cells_by (fate ∷ fates) (reverse old)
one_put cut cut_new fates fate cell old new is put =
    ap (λ xs. xs ++ cells_by fates (reverse new)) put
    ∙ append_assoc cut (cell_by fate cell) (cells_by fates (reverse new))
    ∙ ap (λ xs. cut ++ cells_by (fate ∷ fates) xs) (sym (ap reverse is ∙ reverse-append new (cell ∷ [])))

list_of : {Y : Type 0} (kept : Option Y) → filter_map (λ (x : Option Y). x) (kept ∷ []) ≡ option_to_list kept
list_of None = refl
list_of (Some y) = refl

pub kept_push : {X Y : Type 0} (keep : X → Option Y) (xs : List X) (x : X) → filter_map keep (xs ++ x ∷ []) ≡ filter_map keep xs ++ option_to_list (keep x)
kept_push keep xs x = filter_map-append keep xs (x ∷ []) ∙ ap (λ ys. filter_map keep xs ++ ys) (list_of (keep x))

-- one more item is taken
pub kept_more : {X Y : Type 0} (keep : X → Option Y) (xs : List X) (i : ℕ) (x : X) (out new : List Y) → i < length xs → x ≡ get_or xs i x → out ≡ filter_map keep (take i xs) → new ≡ out ++ option_to_list (keep x) → new ≡ filter_map keep (take (i + 1) xs)
kept_more keep xs i x out new below is_x is_out is_new =
    is_new
    ∙ ap (λ ys. ys ++ option_to_list (keep x)) is_out
    ∙ sym (kept_push keep (take i xs) x)
    ∙ ap (λ y. filter_map keep (take i xs ++ y ∷ [])) is_x
    ∙ ap (filter_map keep) (sym (take_more xs i x below))
