use Rattle.std.proofs.Common.{◌≡◌, drop}
use Rattle.relational_algebra.specs.Columns.{first_name}
use Rattle.query_meaning.specs.Typing.{columns_at}
use Rattle.query_typing.proofs.fault.first_there.Given as goal

-- none of those before is there
abbrev pub invariant-loop-column : goal.invariant-loop-column
invariant-loop-column l = first_name (columns_at l.config (drop l.column-index l.columns)) ≡ first_name (columns_at l.config l.columns)
