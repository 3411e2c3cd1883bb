use Rattle.std.proofs.Common.{◌≡◌, map}
use Rattle.row_versions.specs.Seeing.{row_of}
use Rattle.row_versions.proofs.seen.without_numbers.Given as goal

abbrev pub invariant-loop-it : goal.invariant-loop-it
invariant-loop-it l = l.out.items ≡ map row_of l.yielded
