-- What a sink of bytes means, and what it does with a piece.
use Rattle.std.specs.Prelude.{◌≡◌, ℕ, ◌<◌, ◌≤◌, List, Option, length, take}
use Rattle.std.specs.Io.KnownBytes.{Appends, Keeps}
use Rattle.causes.specs.Faults.{Rose}
use Rattle.top_calls.specs.declared.sink.SinkPut.{SinkPut}
use Rattle.top_calls.specs.declared.sink.SinkPut.TheVariants as put

-- the bytes that it holds, where they are told, and a count of faults
pub record Held : Type 0 where
  pub bytes : Option (List ℕ)
  pub faults : ℕ

-- A piece is put: its first bytes are taken, at least one of a piece that isn't empty, or nothing of such a piece is, which
-- is a fault.
abbrev pub Puts : Held → List ℕ → SinkPut → Held → Type 0
Puts before piece (put.Took count) after =
    Appends before.bytes after.bytes (take count piece) × (count ≤ length piece) × (0 < length piece → 0 < count) × (after.faults ≡ before.faults)
Puts before piece put.Failed after =
    (0 < length piece) × Keeps before.bytes after.bytes × Rose before.faults after.faults × (before.faults ≤ after.faults)
