use Rattle.std.proofs.Common.{◌≡◌, drop}
use Rattle.plain_relation.specs.Relations.{has_name}
use Rattle.write_typing.specs.Faults.{possible}
use Rattle.write_typing.proofs.names.is_known.Given as goal

-- one of all has the name where one of those that are left does
abbrev pub invariant-loop-column : goal.invariant-loop-column
invariant-loop-column l = has_name l.name (possible (drop l.column-index l.columns)) ≡ has_name l.name (possible l.columns)
