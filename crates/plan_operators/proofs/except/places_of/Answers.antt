use Rattle.plan_tables.specs.Tables.{laid_cells}
use Rattle.row_conditions.specs.Truths.{slots_of}
use Rattle.row_places.proofs.PlaceLaws.{one_place_more}
use Rattle.vtable.specs.declared.table.VRow.{VRow}
use Rattle.plan_operators.proofs.except.places_of.Goals as goal

pub loop-place-preserved : goal.loop-place-preserved
loop-place-preserved c = λ key.
    one_place_more (λ (row : VRow). laid_cells c.args.keys.now (slots_of c.args.columns.now row.cells)) c.args.rows.now c.loop-place.place c.index-rows-place.result key.items c.loop-place.places c.put_place.new.places
    c.loop-place-test.true c.index-rows-place.is (c.in_ok-put_place.ensures key) (c.loop-place.invariant key)
