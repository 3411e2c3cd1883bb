-- Lists of names that can be those of features.
use Rattle.std.specs.Prelude.{ℕ, ◌+◌, Bool, if◌then◌else◌, List, [], ◌∷◌, ◌++◌, length, Option, Some, None, nat_lt}
use Rattle.std.specs.List.{list_any}
use Rattle.std.specs.Str.{bytes_eq}
use Rattle.feature_expr.specs.Config.{feature_limit}
use Rattle.feature_expr.specs.declared.features.FeaturesRefused.{FeaturesRefused}
use Rattle.feature_expr.specs.declared.features.FeaturesRefused.TheVariants as refused
use Rattle.word_tokens.specs.Words.{is_name_of}

abbrev pub among : List ℕ → List (List ℕ) → Bool
among name names = list_any (λ other. bytes_eq other name) names

-- the first bad place among the names from `place` on, where `before` stand before it
abbrev pub refusal_from : ℕ → List (List ℕ) → List (List ℕ) → Option FeaturesRefused
refusal_from place before [] = None
refusal_from place before (name ∷ rest) =
    if is_name_of name then (if among name before then Some (refused.Duplicate place) else refusal_from (place + 1) (before ++ name ∷ []) rest) else Some (refused.NotAName place)

-- why the names aren't those of features, or None
unfoldable pub refusal : List (List ℕ) → Option FeaturesRefused
refusal names = if nat_lt feature_limit (length names) then Some (refused.TooMany (length names)) else refusal_from 0 [] names
