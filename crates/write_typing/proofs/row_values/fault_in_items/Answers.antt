use Rattle.std.proofs.Common.{◌∙◌, ap, map, sym, Option}
use Rattle.std.proofs.lemmas.Option.{slice_get-map}
use Rattle.write_typing.proofs.ValueLaws.{items_go_on, items_pass, items_stop}
use Rattle.write_typing.specs.Faults.{first}
use Rattle.write_typing.specs.Values.{Seat, met, new_values, row_check, seat}
use Rattle.write_typing.proofs.row_values.fault_in_items.Goals as goal

pub returns-in-Some : goal.returns-in-Some
returns-in-Some c = items_stop c.args.check c.args.kinds.now (map seat c.args.places.now) c.args.items.now c.loop-place.place _ c.index-items-place.result c.in-Some.fault c.loop-place-test.true c.index-items-place.is
    (c.in-Some.ensures ∙ ap (λ (o : Option Seat). first (met c.args.check c.args.kinds.now o c.index-items-place.result.value)) (sym (slice_get-map seat c.args.places.now c.loop-place.place)))
    c.loop-place.invariant

pub loop-place-preserved : goal.loop-place-preserved
loop-place-preserved c = items_go_on c.args.check c.args.kinds.now (map seat c.args.places.now) c.args.items.now c.loop-place.place _ c.index-items-place.result c.loop-place-test.true c.index-items-place.is
    (c.in_default.ensures ∙ ap (λ (o : Option Seat). first (met c.args.check c.args.kinds.now o c.index-items-place.result.value)) (sym (slice_get-map seat c.args.places.now c.loop-place.place)))
    c.loop-place.invariant

pub returns : goal.returns
returns c = sym (ap first (items_pass c.args.check c.args.kinds.now (map seat c.args.places.now) c.args.items.now c.loop-place.place _ c.loop-place-test.false c.loop-place.invariant))
