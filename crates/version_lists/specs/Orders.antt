-- Versions in the order of their numbers.
use Rattle.std.specs.Prelude.{ℕ, ◌<◌, ◌≤◌, ◌≢◌, List, [], ◌∷◌, nat_le, if◌then◌else◌}
use Rattle.version_lists.specs.Versions.{Version}

-- a version, put before the first one with a greater number
abbrev pub put : Version → List Version → List Version
put v [] = v ∷ []
put v (other ∷ versions) = if nat_le v.number other.number then v ∷ other ∷ versions else other ∷ put v versions

abbrev pub in_order : List Version → List Version
in_order [] = []
in_order (v ∷ versions) = put v (in_order versions)

-- no number is below the one in front of it
abbrev pub Ascends : ℕ → List Version → Type 0
Ascends low [] = Unit {0}
Ascends low (v ∷ versions) = (low ≤ v.number) × Ascends v.number versions

-- no version has this number
abbrev pub NoNumber : ℕ → List Version → Type 0
NoNumber number [] = Unit {0}
NoNumber number (v ∷ versions) = (v.number ≢ number) × NoNumber number versions

-- no number stands twice
abbrev pub AreApart : List Version → Type 0
AreApart [] = Unit {0}
AreApart (v ∷ versions) = NoNumber v.number versions × AreApart versions

-- all numbers are below this one
abbrev pub AreLower : ℕ → List Version → Type 0
AreLower high [] = Unit {0}
AreLower high (v ∷ versions) = (v.number < high) × AreLower high versions
