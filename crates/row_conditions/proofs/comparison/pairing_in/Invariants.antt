use Rattle.std.proofs.Common.{◌≡◌, ◌++◌, length}
use Rattle.row_conditions.specs.Truths.{pairing, slots_of}
use Rattle.row_conditions.proofs.comparison.pairing_in.Given as goal

abbrev pub decreases-loop-column : goal.decreases-loop-column
decreases-loop-column l = length l.columns

-- what is made so far, and of the slots that are left, is what is made of all
abbrev pub invariant-loop-column : goal.invariant-loop-column
invariant-loop-column l =
    let all = slots_of l.left.columns.now l.left.cells.now ++ slots_of l.right.columns.now l.right.cells.now in
    pairing l.name l.sign l.other all l.out (slots_of l.columns l.cells) ≡ pairing l.name l.sign l.other all l.fn.out (slots_of l.fn.part.columns.now l.fn.part.cells.now)
