use Rattle.std.proofs.Common.{◌≡◌, length}
use Rattle.relational_algebra.specs.Columns.{among}
use Rattle.plan_tables.specs.Tables.{heading, headings}
use Rattle.plan_tables.proofs.settle.has_column.Given as goal

abbrev pub decreases-loop-one : goal.decreases-loop-one
decreases-loop-one l = length l.columns

abbrev pub invariant-loop-one : goal.invariant-loop-one
invariant-loop-one l = among (heading l.column) (headings l.columns) ≡ among (heading l.column) (headings l.fn.columns)
