use Rattle.std.proofs.Common.{◌≡◌, length, fold}
use Rattle.plan_operators.specs.Operators.{alike, with_alike}
use Rattle.row_conditions.specs.Truths.{slots_of}
use Rattle.plan_operators.proofs.except.alike.Given as goal

abbrev pub decreases-loop-column : goal.decreases-loop-column
decreases-loop-column l = length l.columns

abbrev pub invariant-loop-column : goal.invariant-loop-column
invariant-loop-column l = fold (with_alike (slots_of l.others l.values)) l.out (slots_of l.columns l.cells) ≡ alike (slots_of l.fn.columns l.fn.cells) (slots_of l.others l.values)
