use Rattle.simple_conditions.proofs.SimplerLaws.{from_left, from_right, negated_in}
use Rattle.simple_conditions.specs.Known.{Fits}
use Rattle.simple_conditions.proofs.sweep.+sweep.Goals as goal

pub swept_links-returns-in_ok-whole-in-Left : goal.swept_links-returns-in_ok-whole-in-Left
swept_links-returns-in_ok-whole-in-Left t c =
    from_left c.args.literals.now c.args.holds.now c.args.fails.now c.args.all c.args.left.now c.args.right.now c.in_ok-left-in-Left.left c.in_ok-right-in-Left.right c.in_ok-whole-in-Left.whole
    c.in_ok-left-in-Left.ensures c.in_ok-right-in-Left.ensures c.in_ok-whole-in-Left.ensures

pub swept_links-returns-in_ok-whole-in-Right : goal.swept_links-returns-in_ok-whole-in-Right
swept_links-returns-in_ok-whole-in-Right t c =
    from_right c.args.literals.now c.args.holds.now c.args.fails.now c.args.all c.args.left.now c.args.right.now c.in_ok-left-in-Right.left c.in_ok-right-in-Right.right c.in_ok-whole-in-Right.whole
    c.in_ok-right-in-Right.ensures c.in_ok-left-in-Right.ensures c.in_ok-whole-in-Right.ensures

pub swept_parts-returns-in_ok-whole-in-Not : goal.swept_parts-returns-in_ok-whole-in-Not
swept_parts-returns-in_ok-whole-in-Not t c =
    negated_in (Fits c.args.literals.now c.args.holds.now c.args.fails.now) c.args.expr.now c.get.result.now c.in_ok-inner-in-Not.inner c.in_ok-whole-in-Not.whole (cc) c.in_ok-inner-in-Not.ensures c.in_ok-whole-in-Not.ensures
