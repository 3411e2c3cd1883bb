use Rattle.feature_expr.proofs.PrintLaws.{and_down, or_down, text_at-True, text_at-False, text_at-Feature, leaf_down, rest_up, and_smaller, or_smaller, shallower_push, shallower_pop}
use Rattle.feature_expr.proofs.print.+print.Goals as goal
use Rattle.feature_expr.proofs.print.+print.Goals.{print_into-in-True+in_ok-extend_from_slice-in-True, print_into-in-False+in_ok-extend_from_slice-in-False, print_into-in-Feature+in_ok-print_name-in-Feature}

pub print_into-down-preserved-in-And : goal.print_into-down-preserved-in-And
print_into-down-preserved-in-And t c =
    let size = and_smaller _ c.down.at.now c.get-at-in-And.result.now c.get.result.now (cc) c.down.invariant.smaller in record {
      printed = and_down c.args.features.now c.down.text.items c.open.new.text.items _ c.down.at.now c.get-at-in-And.result.now c.get.result c.down.position c.down.rests.items c.push.new.self.items (cc) (cc (c.in_ok-open-in-And.ensures, c.takes_and.ensures)) (cc c.in_ok-push-in-And.ensures.items) c.down.invariant.printed;
      smaller = size.0;
      shallower = shallower_push _ c.down.rests.items _ _ (c.in_ok-push-in-And.ensures.items) c.down.invariant.shallower size.1;
    }

pub print_into-down-preserved : goal.print_into-down-preserved
print_into-down-preserved t c =
    let size = or_smaller _ c.down.at.now c.get-at-in-Or.result.now c.get-in-Or.result.now (cc) c.down.invariant.smaller in record {
      printed = or_down c.args.features.now c.down.text.items c.open-in-Or.new.text.items _ c.down.at.now c.get-at-in-Or.result.now c.get-in-Or.result c.down.position c.down.rests.items c.push-in-Or.new.self.items (cc) (cc (c.in_ok-open-in-Or.ensures, c.takes_or.ensures)) (cc c.in_ok-push-in-Or.ensures.items) c.down.invariant.printed;
      smaller = size.0;
      shallower = shallower_push _ c.down.rests.items _ _ (c.in_ok-push-in-Or.ensures.items) c.down.invariant.shallower size.1;
    }

pub print_into-loop-rest-init : goal.print_into-loop-rest-init
print_into-loop-rest-init t c = record {
  printed = elim c.match-at.branch [
    | print_into-in-True+in_ok-extend_from_slice-in-True w ↦ leaf_down c.args.features.now c.down.text.items _ _ _ _ _ c.down.position c.down.rests.items w.in-True.is (text_at-True _ _) (cc w.in_ok-extend_from_slice-in-True.ensures.items) c.down.invariant.printed
    | print_into-in-False+in_ok-extend_from_slice-in-False w ↦ leaf_down c.args.features.now c.down.text.items _ _ _ _ _ c.down.position c.down.rests.items w.in-False.is (text_at-False _ _) (cc w.in_ok-extend_from_slice-in-False.ensures.items) c.down.invariant.printed
    | print_into-in-Feature+in_ok-print_name-in-Feature w ↦ leaf_down c.args.features.now c.down.text.items _ _ _ _ _ c.down.position c.down.rests.items w.in-Feature.is (text_at-Feature _ _ _) (cc w.in_ok-print_name-in-Feature.ensures) c.down.invariant.printed
  ];
  shallower = c.down.invariant.shallower;
}

pub print_into-loop-rest-preserved : goal.print_into-loop-rest-preserved
print_into-loop-rest-preserved t c = record {
  printed = rest_up c.args.features.now c.loop-rest.text.items _ _ c.in-Some.rest c.loop-rest.rests.items c.pop.new.self.items (cc c.in-Some.ensures.items) (cc c.in_ok-print_rest.ensures) c.loop-rest.invariant.printed;
  shallower = shallower_pop _ c.loop-rest.rests.items c.pop.new.self.items c.in-Some.rest (cc c.in-Some.ensures.items) c.loop-rest.invariant.shallower;
}
