use Rattle.std.proofs.Common.{◌≡◌, length}
use Rattle.plan_tables.specs.Tables.{headings}
use Rattle.plan_tables.proofs.lay.have_same_headings.Given as goal

abbrev pub decreases-loop-column : goal.decreases-loop-column
decreases-loop-column l = length l.one

abbrev pub invariant-loop-column : goal.invariant-loop-column
invariant-loop-column l = headings l.one ≡ headings l.other → headings l.fn.one ≡ headings l.fn.other
