use Rattle.std.proofs.Common.{true, false}
use Rattle.condition_sat.proofs.Sides.{sides_met, sides_never}
use Rattle.condition_sat.proofs.search.of_sides.Goals as goal

pub returns-then-both : goal.returns-then-both
returns-then-both c = rw (c.in-Satisfied.is, c.if-both.true) (sides_met true c.args.left.now c.args.value c.args.assignment.now)

pub returns-else-both : goal.returns-else-both
returns-else-both c = rw (c.in-Satisfied.is, c.if-both.false) (sides_met false c.args.left.now c.args.value c.args.assignment.now)

pub returns-then-both-2 : goal.returns-then-both-2
returns-then-both-2 c = rw (c.in-Falsified.is, c.if-both-2.true) (sides_never true c.args.left.now c.args.value c.args.assignment.now)

pub returns-else-both-2 : goal.returns-else-both-2
returns-else-both-2 c = rw (c.in-Falsified.is, c.if-both-2.false) (sides_never false c.args.left.now c.args.value c.args.assignment.now)
