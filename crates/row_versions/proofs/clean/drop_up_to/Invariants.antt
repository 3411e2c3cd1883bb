use Rattle.std.proofs.Common.{◌≡◌, length, Some}
use Rattle.row_versions.specs.Cleaning.{still_ended}
use Rattle.row_versions.specs.Holdings.{AreEnded}
use Rattle.row_versions.proofs.clean.drop_up_to.Given as goal

abbrev pub decreases-loop-ended : goal.decreases-loop-ended
decreases-loop-ended l = length l.ended.items

-- what is dropped isn't kept
abbrev pub invariant-loop-ended : goal.invariant-loop-ended
invariant-loop-ended l = (still_ended (Some l.oldest) l.ended.items ≡ still_ended (Some l.oldest) l.fn.ended.items) × AreEnded 0 l.ended.items
