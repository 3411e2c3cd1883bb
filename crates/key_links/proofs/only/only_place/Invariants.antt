use Rattle.std.proofs.Common.{◌≡◌, ◌+◌, length}
use Rattle.key_links.proofs.OnlyLaws.{Behind}
use Rattle.key_links.proofs.only.only_place.Given as goal

abbrev pub decreases-loop-column : goal.decreases-loop-column
decreases-loop-column l = length l.left

-- places in what is left are places in all, that far behind
abbrev pub invariant-loop-column : goal.invariant-loop-column
invariant-loop-column l = Behind l.name l.place l.left l.columns × (l.place + length l.left ≡ length l.columns)
