-- The bytes of a row of data, which are put without a message being made.
use Rattle.std.specs.Prelude.{◌≡◌, ℕ, ◌+◌, List, ◌∷◌, ◌++◌, length, Option}
use Rattle.std.specs.Int.{w16, w32, to_be_bytes}
use Rattle.std.specs.List.{flat_map}
use Rattle.message_shapes.specs.Shapes.{sized_bytes}

-- these bytes are so many cells, one behind the other
pub record AreCells (texts : List (Option (List ℕ))) (count : ℕ) (bytes : List ℕ) : Type 0 where
  pub counted : count ≡ length texts
  pub spelled : bytes ≡ flat_map sized_bytes texts

-- a row of so many cells, before which stand its kind, its length and their number
abbrev pub row_bytes : ℕ → List ℕ → List ℕ
row_bytes count cells = 68 ∷ to_be_bytes w32 (length cells + 6) ++ to_be_bytes w16 count ++ cells
