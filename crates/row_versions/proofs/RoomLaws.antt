-- Room for what rows will be.
use Rattle.std.proofs.Common.{◌≡◌, ℕ, suc, ◌==◌, true, false, List, [], ◌∷◌, length, true≢false, sym, ◌∙◌, arith}
use Rattle.std.proofs.lemmas.Bool.Decides.{nat_tests}
use Rattle.row_versions.specs.Room.{HasPlaces, IsRoom}
use Rattle.row_versions.specs.declared.newest.Newest.{Newest}

-- where none ends
pub room_whole : (ends : List ℕ) (count : ℕ) (newest kept : Newest) → (length ends == 0) ≡ true → HasPlaces count newest → IsRoom ends count newest kept
room_whole [] count newest kept is room = room
room_whole (e ∷ ends) count newest kept is room = absurd (true≢false (sym is ∙ more (length ends))) where
  more : (n : ℕ) → (suc n == 0) ≡ false
  more n = grind (arith, nat_tests)

-- where some do
pub room_parted : (ends : List ℕ) (count : ℕ) (newest kept : Newest) → (length ends == 0) ≡ false → HasPlaces count kept → kept.rows.items ≡ [] → kept.marks.items ≡ [] → IsRoom ends count newest kept
room_parted [] count newest kept is room rows marks = absurd (true≢false is)
room_parted (e ∷ ends) count newest kept is room rows marks = (room, rows, marks)

-- what is left where some end
pub room_left : (ends : List ℕ) (count : ℕ) (newest kept : Newest) → (length ends == 0) ≡ false → IsRoom ends count newest kept → HasPlaces count kept × (kept.rows.items ≡ []) × (kept.marks.items ≡ [])
room_left [] count newest kept is room = absurd (true≢false is)
room_left (e ∷ ends) count newest kept is room = room

-- and where none does
pub room_here : (ends : List ℕ) (count : ℕ) (newest kept : Newest) → (length ends == 0) ≡ true → IsRoom ends count newest kept → HasPlaces count newest
room_here [] count newest kept is room = room
room_here (e ∷ ends) count newest kept is room = absurd (true≢false (sym is ∙ more (length ends))) where
  more : (n : ℕ) → (suc n == 0) ≡ false
  more n = grind (arith, nat_tests)
