-- Rows under their cells at one place.
use Rattle.std.specs.Prelude.{ℕ, List, [], ◌∷◌, Option}
use Rattle.key_links.specs.KeyLinks.{cell_at}
use Rattle.row_places.specs.Places.{AreKeyed}
use Rattle.values.specs.declared.value.Value.{Value}
use Rattle.vtable.specs.declared.table.VRow.{VRow}

-- the cell at a place, as a key
abbrev pub key_at : ℕ → VRow → List (Option Value)
key_at place row = cell_at place row.cells ∷ []

-- the places of rows by their cell at a place
abbrev pub AreAt : ℕ → List VRow → List (List (Option Value) × List ℕ) → Type 0
AreAt place rows places = AreKeyed (key_at place) rows places
