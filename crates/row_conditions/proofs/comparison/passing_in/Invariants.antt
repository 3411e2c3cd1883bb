use Rattle.std.proofs.Common.{◌≡◌, length}
use Rattle.row_conditions.specs.Truths.{passing, slots_of, test_of}
use Rattle.row_conditions.proofs.comparison.passing_in.Given as goal

abbrev pub decreases-loop-column : goal.decreases-loop-column
decreases-loop-column l = length l.columns

-- what is made so far, and of the slots that are left, is what is made of all
abbrev pub invariant-loop-column : goal.invariant-loop-column
invariant-loop-column l = passing l.name (test_of l.test) l.out (slots_of l.columns l.cells) ≡ passing l.name (test_of l.test) l.fn.out (slots_of l.fn.part.columns.now l.fn.part.cells.now)
