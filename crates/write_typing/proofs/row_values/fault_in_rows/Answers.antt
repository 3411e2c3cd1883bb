use Rattle.std.proofs.Common.{map}
use Rattle.write_typing.proofs.ValueLaws.{rows_go_on, rows_stop}
use Rattle.write_typing.specs.Values.{row_check, seat}
use Rattle.write_typing.proofs.row_values.fault_in_rows.Goals as goal

pub returns-in-Some : goal.returns-in-Some
returns-in-Some c = rows_stop (row_check c.args.check c.args.kinds.now (map seat c.args.places.now)) c.args.rows.now c.loop-row.row-index c.row-item.result c.as_slice.result.now _ c.in-Some.fault c.loop-row-test.true c.row-item.is c.as_slice.ensures c.in-Some.ensures c.loop-row.invariant

pub loop-row-preserved : goal.loop-row-preserved
loop-row-preserved c = rows_go_on (row_check c.args.check c.args.kinds.now (map seat c.args.places.now)) c.args.rows.now c.loop-row.row-index c.row-item.result c.as_slice.result.now _ c.loop-row-test.true c.row-item.is c.as_slice.ensures c.in_default.ensures c.loop-row.invariant
