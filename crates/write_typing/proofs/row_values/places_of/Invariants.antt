use Rattle.std.proofs.Common.{◌≡◌, map, take}
use Rattle.write_typing.specs.Faults.{possible}
use Rattle.write_typing.specs.Values.{seat, seat_of}
use Rattle.write_typing.proofs.row_values.places_of.Given as goal

abbrev pub invariant-loop-name : goal.invariant-loop-name
invariant-loop-name l = map seat l.places.items ≡ map (seat_of (possible l.columns)) (take l.name-index l.names)
