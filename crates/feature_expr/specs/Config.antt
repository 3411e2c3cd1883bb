-- Configurations: the true features, ascending, without repeats, below the limit on features.
use Rattle.std.specs.Prelude.{ℕ, zero, suc, ◌+◌, ◌^◌, ◌<◌, ◌≤◌, ◌==◌, Bool, List, [], ◌∷◌, ◌++◌, if◌then◌else◌}
use Rattle.std.specs.List.{list_any}
use Rattle.std.specs.Int.{bit_at}

-- the greatest number of features
abbrev pub feature_limit : ℕ
feature_limit = 64

-- whether a feature is true
abbrev pub has_feature : List ℕ → ℕ → Bool
has_feature c feature = list_any (λ k. k == feature) c

-- ascending, without repeats, from low on and below high
abbrev pub IsBetween : ℕ → ℕ → List ℕ → Type 0
IsBetween low high [] = Unit {0}
IsBetween low high (k ∷ ks) = (low ≤ k) × (k < high) × IsBetween (k + 1) high ks

-- a configuration
pub record IsConfig (c : List ℕ) : Type 0 where
  pub between : IsBetween 0 feature_limit c

-- the ones among the lowest bits of a number, ascending
unfoldable pub ones_below : ℕ → ℕ → List ℕ
ones_below zero bits = []
ones_below (suc k) bits = ones_below k bits ++ (if bit_at bits k == 1 then k ∷ [] else [])

-- the number with these bits
abbrev pub bits_of : List ℕ → ℕ
bits_of [] = 0
bits_of (k ∷ ks) = 2 ^ k + bits_of ks
