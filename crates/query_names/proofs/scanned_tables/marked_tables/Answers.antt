use Rattle.query_names.proofs.ScanLaws.{marked_next, unmarked_next}
use Rattle.query_names.proofs.scanned_tables.marked_tables.Goals as goal
use Rattle.query_names.proofs.scanned_tables.marked_tables.Goals.{then-marks-number+in_ok-columns+in_ok-push, else-marks-number}

pub loop-number-preserved : goal.loop-number-preserved
loop-number-preserved c = elim c.if-marks-number.branch [
  | then-marks-number+in_ok-columns+in_ok-push w ↦ marked_next c.args.tables.now c.args.marks.now c.loop-number.number c.index-tables-number.result w.in_ok-columns.columns c.loop-number.them.items c.if-marks-number.them.items c.loop-number-test.true c.requires.each c.index-tables-number.is w.if-marks-number.true c.loop-number.invariant w.in_ok-columns.ensures (rw w.them-is w.in_ok-push.ensures.items)
  | else-marks-number w ↦ rw w.them-is (unmarked_next c.args.tables.now c.args.marks.now c.loop-number.number c.loop-number.them.items c.loop-number-test.true c.requires.each w.if-marks-number.false c.loop-number.invariant)
]
