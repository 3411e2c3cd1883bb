-- Bytes that go one behind the other into a space, from an offset on, as many as fit.
use Rattle.std.specs.Prelude.{◌≡◌, ℕ, ◌+◌, ◌-◌, min, List, ◌++◌, length, take, drop}
use Rattle.message_shapes.specs.declared.walk.Walk.{Walk}

pub record Walked : Type 0 where
  -- how many bytes are still passed over
  pub skip : ℕ
  -- the bytes that were put, and what is left of the space
  pub shown : List ℕ
  pub left : List ℕ

abbrev pub walked : Walk → List ℕ → Walked
walked at space = record {
  skip = at.skip;
  shown = take at.filled space;
  left = drop at.filled space;
}

-- after these bytes
unfoldable pub step : List ℕ → Walked → Walked
step bytes w = record {
  skip = w.skip - length bytes;
  shown = w.shown ++ take (length w.left) (drop w.skip bytes);
  left = drop (length (drop w.skip bytes)) w.left;
}

-- the space, with a run of bytes from a place on
abbrev pub over : List ℕ → ℕ → List ℕ → List ℕ
over run from space = take from space ++ (run ++ drop (from + length run) space)

-- these bytes were put
abbrev pub Puts : List ℕ → Walk → List ℕ → Walk → List ℕ → Type 0
Puts bytes at old next new = walked next new ≡ step bytes (walked at old)

-- A space holds these bytes from this offset on, as many as fit, and how many they are. The rest of it is as it was.
pub record Fills (bytes : List ℕ) (offset : ℕ) (old new : List ℕ) (n : ℕ) : Type 0 where
  pub count : n ≡ min (length old) (length bytes - offset)
  pub filled : take n new ≡ take n (drop offset bytes)
  pub kept : drop n new ≡ drop n old
