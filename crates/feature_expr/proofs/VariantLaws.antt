-- One feature further in the text of a variant.
use Rattle.std.proofs.Common.{◌≡◌, ℕ, ◌+◌, ◌<◌, Bool, true, false, List, [], ◌∷◌, ◌++◌, drop, length, Some, slice_get, refl, ap, append_assoc}
use Rattle.std.proofs.lemmas.List.{drop_more}
use Rattle.std.proofs.lemmas.Option.{slice_get_within, get_or_from_slice_get}
use Rattle.feature_expr.specs.Config.{has_feature}
use Rattle.feature_expr.specs.Variants.{held_names, separator, separated}

name_next : (names : List (List ℕ)) (feature : ℕ) (name : List ℕ) → slice_get names feature ≡ Some name → drop feature names ≡ name ∷ drop (feature + 1) names
name_next names feature name some = rw (drop_more names feature name (slice_get_within names feature name some)) (ap (λ y. y ∷ drop (feature + 1) names) (get_or_from_slice_get names feature name name some))

pub name_put : (text : List ℕ) (is_first : Bool) (c : List ℕ) (names : List (List ℕ)) (feature : ℕ) (name : List ℕ) → slice_get names feature ≡ Some name → has_feature c feature ≡ true → (text ++ (separator is_first ++ name)) ++ separated false (held_names c (feature + 1) (drop (feature + 1) names)) ≡ text ++ separated is_first (held_names c feature (drop feature names))
name_put text is_first c names feature name some held = rw (name_next names feature name some) (rw held (append_assoc text (separator is_first ++ name) (separated false (held_names c (feature + 1) (drop (feature + 1) names)))))

pub name_skipped : (text : List ℕ) (is_first : Bool) (c : List ℕ) (names : List (List ℕ)) (feature : ℕ) → feature < length names → has_feature c feature ≡ false → text ++ separated is_first (held_names c (feature + 1) (drop (feature + 1) names)) ≡ text ++ separated is_first (held_names c feature (drop feature names))
name_skipped text is_first c names feature low lacking = rw (drop_more names feature [] low) (rw lacking refl)
