use Rattle.conditional_columns.proofs.RepeatLaws.{counted_more, known_more, repeats_more}
use Rattle.conditional_columns.proofs.repeated.repeats.Goals as goal

-- src/repeated.rt
pub loop-place-preserved : goal.loop-place-preserved
loop-place-preserved c = record {
  each = counted_more _ _ _ _ c.in_ok-push.ensures.items c.loop-place.invariant.each;
  names = λ d. repeats_more d c.args.columns.now _ _ c.loop-place.place c.index-columns-place.result _ _ _ c.split_at.ensures.back c.loop-place-test.true c.index-columns-place.is c.in_ok-push.ensures.items c.loop-place.invariant.each (c.in_ok-fault.ensures.holds d) (c.loop-place.invariant.names d);
  known = λ i. known_more i c.args.columns.now _ _ c.loop-place.place c.index-columns-place.result _ _ c.split_at.ensures.back c.loop-place-test.true c.index-columns-place.is c.in_ok-push.ensures.items (c.in_ok-fault.ensures.known i) (c.loop-place.invariant.known i);
}
