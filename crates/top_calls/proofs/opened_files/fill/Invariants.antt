use Rattle.std.proofs.Common.{◌≡◌, ℕ, ◌+◌, List, ◌++◌, length}
use Rattle.std.specs.Io.KnownBytes.{Consumes}
use Rattle.top_calls.proofs.opened_files.fill.Given as goal

-- what was read so far, and how much more is within the limit
abbrev pub invariant-pieces : goal.invariant-pieces
invariant-pieces g l =
    (bytes : List ℕ) × (l.into.items ≡ l.fn.into.items ++ bytes) × Consumes (g.F.Read.remaining l.fn.file) (g.F.Read.remaining l.file) bytes × (length bytes + l.left ≡ l.max) × (l.faults ≡ l.fn.faults) × (length l.piece ≡ 65536)

abbrev pub decreases-pieces : goal.decreases-pieces
decreases-pieces g l = l.left
