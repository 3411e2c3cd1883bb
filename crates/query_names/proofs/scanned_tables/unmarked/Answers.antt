use Rattle.std.proofs.Common.{arith}
use Rattle.query_names.proofs.ScanLaws.{unmarked_are}
use Rattle.query_names.proofs.scanned_tables.unmarked.Goals as goal

pub returns : goal.returns
returns c = unmarked_are c.args.count c.loop-number.marks.items (omega (arith, c.loop-number.invariant.full)) c.loop-number.invariant.none
