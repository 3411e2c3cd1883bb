use Rattle.std.proofs.Common.{◌≡◌, drop}
use Rattle.write_typing.specs.Faults.{possible, unknown_names}
use Rattle.write_typing.proofs.names.unknown_name.Given as goal

-- those that aren't known are among what is left
abbrev pub invariant-loop-name : goal.invariant-loop-name
invariant-loop-name l = unknown_names (possible l.columns) (drop l.name-index l.names) ≡ unknown_names (possible l.columns) l.names
