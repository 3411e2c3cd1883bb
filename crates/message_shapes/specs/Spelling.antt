-- How parts of a packet are spelled.
use Rattle.std.specs.Prelude.{◌≡◌, ℕ, ◌<◌, ◌==◌, slice_index, Bool, not, List, [], ◌∷◌, ◌++◌}
use Rattle.std.specs.List.{list_all}

abbrev pub IsBytes : List ℕ → Type 0
IsBytes bytes = (i : ℕ) → slice_index bytes i < 256

-- bytes may stand as a string if none of them is zero
abbrev pub is_string : List ℕ → Bool
is_string bytes = list_all (λ byte. not (byte == 0)) bytes

-- a string ends with a zero byte
abbrev pub string : List ℕ → List ℕ
string bytes = bytes ++ 0 ∷ []

-- the texts of the values, one behind the other
abbrev pub AreSpelled : {X : Type 0} → (X → List ℕ → Type 0) → List X → List ℕ → Type 0
AreSpelled IsText [] text = text ≡ []
AreSpelled IsText (x ∷ xs) text =
    (first others : List ℕ) × (text ≡ first ++ others) × IsText x first × AreSpelled IsText xs others
