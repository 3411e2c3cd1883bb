use Rattle.query_names.proofs.ScanLaws.{marked_on}
use Rattle.query_names.proofs.scanned_tables.marked.Goals as goal

pub loop-number-preserved : goal.loop-number-preserved
loop-number-preserved c = marked_on c.args.count c.loop-number.number-index c.args.numbers.now c.loop-number.marks.items c.mark.new.marks.items c.loop-number-test.true c.loop-number.invariant c.mark.ensures.length c.mark.ensures.each
