use Rattle.std.proofs.Common.{◌≡◌, length}
use Rattle.live_snapshots.specs.Snapshots.{lesser_of, oldest}
use Rattle.live_snapshots.proofs.live.least_of.Given as goal

abbrev pub decreases-loop-pair : goal.decreases-loop-pair
decreases-loop-pair l = length l.pairs

-- the least so far, with those that are left, is the least of all
abbrev pub invariant-loop-pair : goal.invariant-loop-pair
invariant-loop-pair l = lesser_of l.least (oldest l.pairs) ≡ oldest l.fn.pairs
