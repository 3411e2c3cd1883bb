use Rattle.std.proofs.Common.{◌≡◌, ◌++◌, length}
use Rattle.plan_exec.specs.Scanned.{with_number}
use Rattle.plan_exec.proofs.scan.with_number.Given as goal

abbrev pub decreases-loop-first : goal.decreases-loop-first
decreases-loop-first l = length l.left

abbrev pub invariant-loop-first : goal.invariant-loop-first
invariant-loop-first l = l.out.items ++ with_number l.number l.left ≡ with_number l.number l.fn.numbers
