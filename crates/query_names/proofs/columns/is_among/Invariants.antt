use Rattle.std.proofs.Common.{◌≡◌, false, take}
use Rattle.query_names.specs.Headings.{heading, headings}
use Rattle.relational_algebra.specs.Columns.{among}
use Rattle.query_names.proofs.columns.is_among.Given as goal

-- none of the columns so far is the same
abbrev pub invariant-loop-other : goal.invariant-loop-other
invariant-loop-other l = among (heading l.column) (headings (take l.other-index l.columns)) ≡ false
