-- A comparison with a column whose only cell doesn't pass adds nothing.
use Rattle.std.proofs.Common.{◌≡◌, ◌∙◌, ℕ, Bool, true, false, ◌&&◌, List, [], ◌∷◌, ◌++◌, refl, ap, Option, Some, fold, slice_get, if◌then◌else◌}
use Rattle.std.specs.List.{list_any}
use Rattle.feature_expr.specs.Expressions.{or_of}
use Rattle.feature_expr.specs.declared.expr.Expr.{Expr}
use Rattle.key_links.proofs.OnlyLaws.{none_named, one_named}
use Rattle.key_links.specs.KeyLinks.{is_named, is_only_at}
use Rattle.row_conditions.specs.Truths.{Slot, passes, passing, slots_of, with_slot}
use Rattle.values.specs.declared.column_name.ColName.{ColName}
use Rattle.values.specs.declared.value.Value.{Value}
use Rattle.vtable.specs.declared.table.VColumn.{VColumn}

pub fold_append : {X : Type 0} (g : Expr → X → Expr) (out : Expr) (xs ys : List X) → fold g out (xs ++ ys) ≡ fold g (fold g out xs) ys
fold_append g out [] ys = refl
fold_append g out (x ∷ xs) ys = fold_append g (g out x) xs ys

module _ (name : ColName) (test : Value → Bool) where
  skips : (out : Expr) (column : VColumn) (cell : Option Value) → is_named name column ≡ false → with_slot name test out (record { column = column; cell = cell }) ≡ out
  skips out column cell is = rw is refl

  and_false : (b : Bool) → (b && false) ≡ false
  and_false true = refl
  and_false false = refl

  fails : (out : Expr) (column : VColumn) (cell : Option Value) → passes test cell ≡ false → with_slot name test out (record { column = column; cell = cell }) ≡ out
  fails out column cell is = ap (λ (b : Bool). if b then or_of out column.cond else out) (ap (λ b. is_named name column && b) is ∙ and_false (is_named name column))

  pub none_passes : (columns : List VColumn) (cells : List (Option Value)) (out : Expr) → list_any (is_named name) columns ≡ false → passing name test out (slots_of columns cells) ≡ out
  none_passes columns cells out none = none_named (with_slot name test) name skips columns cells out none

  pub one_fails : (place : ℕ) (columns : List VColumn) (cells : List (Option Value)) (out : Expr) → is_only_at name place columns ≡ true
      → ((cell : Option Value) → slice_get cells place ≡ Some cell → passes test cell ≡ false) → passing name test out (slots_of columns cells) ≡ out
  one_fails place columns cells out only none = one_named (with_slot name test) name skips place columns cells out only (λ column cell is. fails out column cell (none cell is))

  pub passing_append : (out : Expr) (xs ys : List Slot) → passing name test out (xs ++ ys) ≡ passing name test (passing name test out xs) ys
  passing_append out xs ys = fold_append (with_slot name test) out xs ys
