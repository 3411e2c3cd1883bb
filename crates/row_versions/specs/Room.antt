-- Room for what rows will be after a change of their table.
use Rattle.std.specs.Prelude.{ℕ, ◌+◌, ◌≤◌, ◌≡◌, List, [], ◌∷◌, ◌++◌, length, vec_capacity}
use Rattle.row_versions.specs.Marks.{rows_ended}
use Rattle.row_versions.specs.declared.ended.EndedRow.{EndedRow}
use Rattle.row_versions.specs.declared.newest.Newest.{Newest}

-- so many rows have their places
abbrev pub HasPlaces : ℕ → Newest → Type 0
HasPlaces count newest = (count ≤ vec_capacity newest.rows) × (count ≤ vec_capacity newest.marks)

-- They stand where they are as long as none ends, and those that stay go to another list where some do.
abbrev pub IsRoom : List ℕ → ℕ → Newest → Newest → Type 0
IsRoom [] count newest kept = HasPlaces count newest
IsRoom (e ∷ ends) count newest kept = HasPlaces count kept × (kept.rows.items ≡ []) × (kept.marks.items ≡ [])

abbrev pub HasPlacesFor : ℕ → Newest → Type 0
HasPlacesFor more newest = HasPlaces (length newest.rows.items + more) newest

abbrev pub IsRoomFor : ℕ → List ℕ → Newest → Newest → Type 0
IsRoomFor more ends newest kept = IsRoom ends (length newest.rows.items + more) newest kept

-- the rows at these places stand behind the ended ones, with this commit as their end
abbrev pub AreEndedBehind : ℕ → ℕ → List ℕ → Newest → List EndedRow → List EndedRow → Type 0
AreEndedBehind k table ends newest old new = new ≡ old ++ rows_ended k table 0 ends newest.marks.items newest.rows.items
