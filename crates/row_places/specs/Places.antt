-- Places of rows under keys.
use Rattle.std.specs.Prelude.{◌≡◌, ℕ, List, [], ◌∷◌, filter, Option, Some, None, slice_get, if◌then◌else◌}
use Rattle.std.specs.Global.{Vec}
use Rattle.std.specs.List.{filter_map}
use Rattle.values.specs.declared.value.Value.{Value}
use Rattle.vtable.specs.TableForm.{same_cells}
use Rattle.vtable.specs.declared.table.VRow.{VRow}

-- the places under some cells
abbrev pub places_under : List (Option Value) → List (List (Option Value) × List ℕ) → List ℕ
places_under key [] = []
places_under key (e ∷ es) = if same_cells key e.0 then e.1 else places_under key es

abbrev pub places_or_none : Option (Vec ℕ) → List ℕ
places_or_none None = []
places_or_none (Some places) = places.items

-- the rows of which this key is made
abbrev pub rows_keyed : (VRow → List (Option Value)) → List (Option Value) → List VRow → List VRow
rows_keyed key_of key rows = filter (λ (row : VRow). same_cells (key_of row) key) rows

-- under each key stand the places of the rows of which it is made
abbrev pub AreKeyed : (VRow → List (Option Value)) → List VRow → List (List (Option Value) × List ℕ) → Type 0
AreKeyed key_of rows places = (key : Vec (Option Value)) → filter_map (slice_get rows) (places_under key.items places) ≡ rows_keyed key_of key.items rows
