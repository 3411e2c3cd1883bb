use Rattle.std.proofs.Common.{◌≡◌, fold, take}
use Rattle.relational_algebra.specs.Columns.{with_column}
use Rattle.query_names.specs.Headings.{headings}
use Rattle.query_names.proofs.columns.merge.Given as goal

-- the right columns so far are added
abbrev pub invariant-loop-place : goal.invariant-loop-place
invariant-loop-place l = headings l.all.items ≡ fold with_column (headings l.fn.left.items) (headings (take l.place l.right))
