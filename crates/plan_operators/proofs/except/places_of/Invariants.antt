use Rattle.std.proofs.Common.{◌≡◌, Option, slice_get, take}
use Rattle.std.specs.Global.{Vec}
use Rattle.std.specs.List.{filter_map}
use Rattle.plan_operators.specs.Operators.{rows_with}
use Rattle.row_places.specs.Places.{places_under}
use Rattle.values.specs.declared.value.Value.{Value}
use Rattle.plan_operators.proofs.except.places_of.Given as goal

-- the places of the rows so far
abbrev pub invariant-loop-place : goal.invariant-loop-place
invariant-loop-place l = (key : Vec (Option Value)) → filter_map (slice_get l.rows) (places_under key.items l.places) ≡ rows_with l.keys l.columns key.items (take l.place l.rows)
