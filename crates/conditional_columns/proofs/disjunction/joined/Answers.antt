use Rattle.conditional_columns.proofs.CallLaws.{joined_holds, joined_known, joined_weighs}
use Rattle.conditional_columns.proofs.disjunction.joined.Goals as goal

-- src/disjunction.rt
pub loop-next-preserved : goal.loop-next-preserved
loop-next-preserved c = record {
  holds = λ d. joined_holds d _ _ _ _ _ _ c.in-Some.ensures.items (c.in_ok-whole.ensures.holds d) (c.loop-next.invariant.holds d);
  weight = joined_weighs _ _ _ _ _ _ c.in-Some.ensures.items c.in_ok-whole.ensures.weight c.loop-next.invariant.weight;
  known = λ i. joined_known i _ _ _ _ _ _ c.in-Some.ensures.items (c.in_ok-whole.ensures.known i) (c.loop-next.invariant.known i);
}
