use Rattle.std.proofs.Common.{◌≡◌, length}
use Rattle.write_typing.specs.Faults.{repeated_names}
use Rattle.write_typing.proofs.names.named_twice.Given as goal

abbrev pub decreases-loop-name : goal.decreases-loop-name
decreases-loop-name l = length l.left

-- those that stand again are among what is left
abbrev pub invariant-loop-name : goal.invariant-loop-name
invariant-loop-name l = repeated_names l.left ≡ repeated_names l.fn.names
