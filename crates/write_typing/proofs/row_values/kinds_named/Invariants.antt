use Rattle.std.proofs.Common.{◌≡◌, take}
use Rattle.relational_algebra.specs.Columns.{kinds_of, named}
use Rattle.write_typing.specs.Faults.{possible}
use Rattle.write_typing.proofs.row_values.kinds_named.Given as goal

abbrev pub invariant-loop-column : goal.invariant-loop-column
invariant-loop-column l = l.kinds.items ≡ kinds_of (named l.name (possible (take l.column-index l.columns)))
