use Rattle.std.proofs.Common.{◌≡◌, Option, slice_get, take}
use Rattle.std.specs.Global.{Vec}
use Rattle.std.specs.List.{filter_map}
use Rattle.plan_merges.specs.LinkedPairs.{key_at}
use Rattle.row_places.specs.Places.{places_under, rows_keyed}
use Rattle.values.specs.declared.value.Value.{Value}
use Rattle.plan_merges.proofs.linked.places_of.Given as goal

-- the places of the rows so far
abbrev pub invariant-loop-place : goal.invariant-loop-place
invariant-loop-place l = (key : Vec (Option Value)) → filter_map (slice_get l.rows) (places_under key.items l.places) ≡ rows_keyed (key_at l.at) key.items (take l.place l.rows)
