use Rattle.row_writes.proofs.TouchLaws.{touch_is}
use Rattle.row_writes.proofs.touch.touch_on.Goals as goal

pub returns : goal.returns
returns c = touch_is c.args.expr.now c.args.cond.now c.args.columns.now c.args.row.now c.in_ok-truth.truth c.in_ok-touch.touch c.in_ok-truth.ensures (cc (c.in_ok-touch.ensures.folded, c.in_ok-expr.ensures))
