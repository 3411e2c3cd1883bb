use Rattle.plan_merges.specs.LinkedPairs.{key_at}
use Rattle.row_places.proofs.PlaceLaws.{one_place_more}
use Rattle.plan_merges.proofs.linked.places_of.Goals as goal

pub loop-place-preserved : goal.loop-place-preserved
loop-place-preserved c = λ key.
    one_place_more (key_at c.args.at) c.args.rows.now c.loop-place.place c.index-rows-place.result key.items c.loop-place.places c.put_place.new.places
    c.loop-place-test.true c.index-rows-place.is (c.in_ok-put_place.ensures key) (c.loop-place.invariant key)
