use Rattle.std.proofs.Common.{◌≡◌, ◌+◌, length}
use Rattle.row_versions.specs.Seeing.{place_in}
use Rattle.row_versions.proofs.seen.place_in.Given as goal

abbrev pub decreases-loop-row : goal.decreases-loop-row
decreases-loop-row l = length l.rows

-- the place among the rows that are left is the place among all
abbrev pub invariant-loop-row : goal.invariant-loop-row
invariant-loop-row l = (l.place + place_in l.number l.rows ≡ place_in l.number l.fn.rows) × (l.place + length l.rows ≡ length l.fn.rows)
