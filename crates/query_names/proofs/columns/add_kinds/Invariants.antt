use Rattle.std.proofs.Common.{◌≡◌, map, fold, take}
use Rattle.relational_algebra.specs.Columns.{with_column}
use Rattle.query_names.specs.Headings.{headings, of_kind}
use Rattle.query_names.proofs.columns.add_kinds.Given as goal

-- the columns of the kinds so far are added
abbrev pub invariant-loop-kind : goal.invariant-loop-kind
invariant-loop-kind l = headings l.columns.items ≡ fold with_column (headings l.fn.columns.items) (map (of_kind l.name) (take l.kind-index l.kinds))
