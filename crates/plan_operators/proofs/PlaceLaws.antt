-- Loops over some of the rows.
use Rattle.std.proofs.Common.{◌≡◌, ◌∙◌, ℕ, Bool, List, [], ◌∷◌, ◌++◌, Option, Some, None, refl, sym, ap, ◌+◌, ◌<◌, length, take, get_or, filter, fold}
use Rattle.std.proofs.lemmas.List.{take_more}
use Rattle.std.proofs.lemmas.List.Elements.{filter-append}
use Rattle.std.specs.List.{cons_option}
use Rattle.std.specs.Option.{option_to_list}
use Rattle.vtable.specs.declared.table.VRow.{VRow}

-- ---- loops over some of the rows

-- what is made with a row that may not be there, and then with others
pub fold_found : {A : Type 0} (g : A → VRow → A) (out : A) (found : Option VRow) (rows : List VRow) → fold g out (cons_option found rows) ≡ fold g (fold g out (option_to_list found)) rows
fold_found g out None rows = refl
fold_found g out (Some row) rows = refl

-- one column more, if it stays
pub filter_more : {X : Type 0} (test : X → Bool) (xs : List X) (i : ℕ) (x : X) (out new : List X) → i < length xs → x ≡ get_or xs i x → out ≡ filter test (take i xs) → new ≡ out ++ filter test (x ∷ []) → new ≡ filter test (take (i + 1) xs)
filter_more test xs i x out new below is before is_new =
    is_new ∙ ap (λ ys. ys ++ filter test (x ∷ [])) before
    ∙ sym (ap (filter test) (take_more xs i x below ∙ ap (λ y. take i xs ++ y ∷ []) (sym is)) ∙ filter-append test (take i xs) (x ∷ []))
