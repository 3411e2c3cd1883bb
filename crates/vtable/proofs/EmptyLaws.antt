-- A table without columns and rows.
use Rattle.std.proofs.Common.{◌≡◌, ℕ, true, List, [], ◌∷◌, refl, ap, rules}
use Rattle.vtable.specs.declared.table.VColumn.{VColumn}
use Rattle.vtable.specs.declared.table.VRow.{VRow}
use Rattle.vtable.specs.Answers.{IsAnswerAt}
use Rattle.vtable.specs.TableForm.{columns_are_distinct}

pub empty_distinct : (columns : List VColumn) → columns ≡ [] → columns_are_distinct columns ≡ true
empty_distinct columns none = ap columns_are_distinct none

no_list : {X : Type 0} {x : X} {xs : List X} → x ∷ xs ≡ [] → ⊥
no_list h = search rules

pub empty_answers : (columns : List VColumn) (rows : List VRow) → columns ≡ [] → rows ≡ [] → (c : List ℕ) → IsAnswerAt c (record { columns = columns; rows = rows })
empty_answers [] [] none no_rows c = record { distinct = refl; whole = refl; filled = refl }
empty_answers (column ∷ columns) rows none no_rows c = absurd (no_list none)
empty_answers [] (row ∷ rows) none no_rows c = absurd (no_list no_rows)
