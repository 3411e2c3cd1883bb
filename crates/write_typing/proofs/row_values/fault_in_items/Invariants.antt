use Rattle.std.proofs.Common.{◌≡◌, drop, map}
use Rattle.write_typing.specs.Values.{new_values, row_check, seat}
use Rattle.write_typing.proofs.row_values.fault_in_items.Given as goal

-- the cases of all are those of the values that are left
abbrev pub invariant-loop-place : goal.invariant-loop-place
invariant-loop-place l = row_check l.check l.kinds (drop l.place (map seat l.places)) (drop l.place (new_values l.items)) ≡ row_check l.check l.kinds (map seat l.places) (new_values l.items)
