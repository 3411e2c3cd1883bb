use Rattle.std.proofs.Common.{◌≡◌, length, fold}
use Rattle.plan_tables.specs.Tables.{settled, with_settled}
use Rattle.plan_tables.proofs.settle.settled.Given as goal

abbrev pub decreases-loop-column : goal.decreases-loop-column
decreases-loop-column l = length l.left

abbrev pub invariant-loop-column : goal.invariant-loop-column
invariant-loop-column l = fold (with_settled l.all) l.out.items l.left ≡ settled l.fn.all
