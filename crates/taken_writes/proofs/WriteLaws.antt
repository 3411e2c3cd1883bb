-- What is asked of a write, in the order in which it costs least.
use Rattle.std.proofs.Common.{◌≡◌, ◌==◌, ℕ, Bool, true, false, ◌&&◌, List, max, refl, sym, ◌∙◌, ap}
use Rattle.std.specs.List.{list_all}
use Rattle.taken_writes.proofs.FitLaws.{no_param_in_items, no_param_in_rows, zero_of_two}
use Rattle.taken_writes.specs.Without.{item_without, row_without}
use Rattle.vra_syntax.specs.Parameters.{param_in_rows, param_in_set_items}
use Rattle.vra_syntax.specs.declared.cond.Operand.{Operand}
use Rattle.vra_syntax.specs.declared.write.SetItem.{SetItem}

insert_by : (p below fit : Bool) → (below && (fit && p)) ≡ (p && below && fit)
insert_by true true true = refl
insert_by true true false = refl
insert_by true false fit = refl
insert_by false true true = refl
insert_by false true false = refl
insert_by false false fit = refl

-- a list of rows: known features, lengths, and no parameter
insert_fits : (rows : List (List Operand)) (below fit : Bool) → (below && (fit && list_all row_without rows)) ≡ (param_in_rows rows == 0 && below && fit)
insert_fits rows below fit = ap (λ p. below && (fit && p)) (no_param_in_rows rows) ∙ insert_by (param_in_rows rows == 0) below fit

pub insert_rest : (rows : List (List Operand)) (below fit : Bool) → below ≡ true → fit ≡ true → list_all row_without rows ≡ (param_in_rows rows == 0 && below && fit)
insert_rest rows below fit known long =
    sym (ap (λ x. x && (fit && list_all row_without rows)) known ∙ ap (λ x. x && list_all row_without rows) long) ∙ insert_fits rows below fit

-- an expression, and a condition
pub delete_fits : (p below known : Bool) → (below && (p && known)) ≡ (p && (below && known) && true)
delete_fits true true true = refl
delete_fits true true false = refl
delete_fits true false known = refl
delete_fits false true known = refl
delete_fits false false known = refl

update_by : (p q below known : Bool) → (below && ((q && known) && p)) ≡ ((p && q) && (below && known) && true)
update_by true true true true = refl
update_by true true true false = refl
update_by true true false known = refl
update_by true false true known = refl
update_by true false false known = refl
update_by false true true true = refl
update_by false true true false = refl
update_by false true false known = refl
update_by false false true known = refl
update_by false false false known = refl

-- the values of items beside them
update_fits : (items : List SetItem) (b : ℕ) (below known : Bool) → (below && ((b == 0 && known) && list_all item_without items)) ≡ (max (param_in_set_items items) b == 0 && (below && known) && true)
update_fits items b below known =
    ap (λ p. below && ((b == 0 && known) && p)) (no_param_in_items items)
    ∙ update_by (param_in_set_items items == 0) (b == 0) below known
    ∙ ap (λ z. z && (below && known) && true) (sym (zero_of_two (param_in_set_items items) b))

pub update_rest : (items : List SetItem) (b : ℕ) (below known : Bool) → below ≡ true → (b == 0 && known) ≡ true → list_all item_without items ≡ (max (param_in_set_items items) b == 0 && (below && known) && true)
update_rest items b below known is fits =
    sym (ap (λ x. x && ((b == 0 && known) && list_all item_without items)) is ∙ ap (λ x. x && list_all item_without items) fits) ∙ update_fits items b below known
