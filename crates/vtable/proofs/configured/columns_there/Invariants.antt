use Rattle.std.proofs.Common.{◌≡◌, map, take}
use Rattle.plain_relation.specs.Relations.{columns_of}
use Rattle.vtable.specs.Answers.{column_at}
use Rattle.vtable.specs.Configured.{plain_column}
use Rattle.vtable.proofs.configured.columns_there.Given as goal

abbrev pub invariant-loop-column : goal.invariant-loop-column
invariant-loop-column l = map plain_column l.there.items ≡ columns_of (map (column_at l.config) (take l.column-index l.columns))
