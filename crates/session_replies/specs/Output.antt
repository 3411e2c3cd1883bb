-- What an output shows: the bytes that wait to be sent, and how many more it can hold without memory.
use Rattle.std.specs.Prelude.{◌≡◌, ℕ, Bool, true, false, List, [], ◌∷◌, length, take, ◌≤◌}

pub record Waiting : Type 0 where
  pub bytes : List ℕ
  pub spare : ℕ

-- so many bytes can be put without memory
abbrev pub HasRoom : ℕ → Waiting → Type 0
HasRoom count waiting = count ≤ waiting.spare

abbrev pub is_empty : List ℕ → Bool
is_empty [] = true
is_empty (byte ∷ bytes) = false

-- the bytes that waited still come first
pub record KeepsFront (old new : List ℕ) : Type 0 where
  pub front : take (length old) new ≡ old
  pub longer : length old ≤ length new
