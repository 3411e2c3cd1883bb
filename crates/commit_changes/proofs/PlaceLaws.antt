-- Rows without those at some places, step by step.
use Rattle.std.proofs.Common.{◌≡◌, ℕ, ◌+◌, ◌==◌, ◌≤◌, Bool, true, false, if◌then◌else◌, List, [], ◌∷◌, refl, sym, ap, arith}
use Rattle.std.proofs.lemmas.Bool.Decides.{nat_tests}
use Rattle.commit_changes.specs.Ends.{first_is}
use Rattle.table_changes.specs.Changes.{ArePlaces, rows_without}
use Rattle.vtable.specs.declared.table.VRow.{VRow}

same_test : (a : ℕ) → (a == a) ≡ true
same_test a = grind (arith, nat_tests)

above_test : (a b : ℕ) → b + 1 ≤ a → (a == b) ≡ false
above_test a b h = grind (arith, nat_tests)

lower : (a b : ℕ) → a + 1 ≤ b → a ≤ b
lower a b h = omega arith

pub none_without : (place : ℕ) (rows : List VRow) → rows_without place [] rows ≡ rows
none_without place [] = refl
none_without place (row ∷ rows) = refl

-- the row at the first place is left out
pub without_this : (place : ℕ) (ends : List ℕ) (row : VRow) (rows : List VRow) → rows_without place (place ∷ ends) (row ∷ rows) ≡ rows_without (place + 1) ends rows
without_this place ends row rows = ap (λ (b : Bool). if b then rows_without (place + 1) ends rows else row ∷ rows_without (place + 1) (place ∷ ends) rows) (same_test place)

-- another one isn't
pub without_other : (place : ℕ) (ends : List ℕ) (row : VRow) (rows : List VRow) → first_is place ends ≡ false → rows_without place ends (row ∷ rows) ≡ row ∷ rows_without (place + 1) ends rows
without_other place [] row rows h = ap (λ (xs : List VRow). row ∷ xs) (sym (none_without (place + 1) rows))
without_other place (e ∷ ends) row rows h = ap (λ (b : Bool). if b then rows_without (place + 1) ends rows else row ∷ rows_without (place + 1) (e ∷ ends) rows) h

pub not_first : (place count : ℕ) (ends : List ℕ) → ArePlaces (place + 1) count ends → first_is place ends ≡ false
not_first place count [] h = refl
not_first place count (e ∷ ends) h = above_test e place h.0

pub places_lower : (place count : ℕ) (ends : List ℕ) → ArePlaces (place + 1) count ends → ArePlaces place count ends
places_lower place count [] h = tt
places_lower place count (e ∷ ends) h = (lower place e h.0, h.1, h.2)
