-- A variant as a text: the names of its features in their order, as `{A,B}`.
use Rattle.std.specs.Prelude.{ℕ, ◌+◌, Bool, true, false, if◌then◌else◌, List, [], ◌∷◌, ◌++◌, codes}
use Rattle.feature_expr.specs.Config.{has_feature}

-- the names of the features that hold, from the one with this number on
abbrev pub held_names : List ℕ → ℕ → List (List ℕ) → List (List ℕ)
held_names c feature [] = []
held_names c feature (name ∷ names) = if has_feature c feature then name ∷ held_names c (feature + 1) names else held_names c (feature + 1) names

abbrev pub separator : Bool → List ℕ
separator true = []
separator false = codes ","

-- names with commas between them, and one before the first where it isn't the first of all
abbrev pub separated : Bool → List (List ℕ) → List ℕ
separated is_first [] = []
separated is_first (name ∷ names) = separator is_first ++ name ++ separated false names

abbrev pub variant_text : List (List ℕ) → List ℕ → List ℕ
variant_text names c = codes "{" ++ separated true (held_names c 0 names) ++ codes "}"
