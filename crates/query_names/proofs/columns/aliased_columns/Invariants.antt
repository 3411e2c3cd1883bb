use Rattle.std.proofs.Common.{◌≡◌, take}
use Rattle.relational_algebra.specs.Columns.{aliased, once}
use Rattle.query_names.specs.Headings.{headings}
use Rattle.query_names.proofs.columns.aliased_columns.Given as goal

-- the columns so far, renamed
abbrev pub invariant-loop-column : goal.invariant-loop-column
invariant-loop-column l = headings l.renamed.items ≡ once (aliased l.alias (headings (take l.column-index l.columns)))
