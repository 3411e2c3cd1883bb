use Rattle.std.proofs.Common.{◌∙◌, ap, map, sym, Option}
use Rattle.std.proofs.lemmas.Option.{slice_get-map}
use Rattle.write_typing.proofs.ValueLaws.{row_goes_on, row_passes, row_stops}
use Rattle.write_typing.specs.Faults.{first}
use Rattle.write_typing.specs.Values.{Seat, met, new_values, row_check, seat}
use Rattle.write_typing.proofs.row_values.fault_in_row.Goals as goal

pub returns-in-Some : goal.returns-in-Some
returns-in-Some c = row_stops c.args.check c.args.kinds.now (map seat c.args.places.now) c.args.row.now c.loop-place.place _ c.index-row-place.result c.in-Some.fault c.loop-place-test.true c.index-row-place.is
    (c.in-Some.ensures ∙ ap (λ (o : Option Seat). first (met c.args.check c.args.kinds.now o c.index-row-place.result)) (sym (slice_get-map seat c.args.places.now c.loop-place.place)))
    c.loop-place.invariant

pub loop-place-preserved : goal.loop-place-preserved
loop-place-preserved c = row_goes_on c.args.check c.args.kinds.now (map seat c.args.places.now) c.args.row.now c.loop-place.place _ c.index-row-place.result c.loop-place-test.true c.index-row-place.is
    (c.in_default.ensures ∙ ap (λ (o : Option Seat). first (met c.args.check c.args.kinds.now o c.index-row-place.result)) (sym (slice_get-map seat c.args.places.now c.loop-place.place)))
    c.loop-place.invariant

pub returns : goal.returns
returns c = sym (ap first (row_passes c.args.check c.args.kinds.now (map seat c.args.places.now) c.args.row.now c.loop-place.place _ c.loop-place-test.false c.loop-place.invariant))
