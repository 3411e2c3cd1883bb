use Rattle.row_writes.proofs.InsertLaws.{held_all}
use Rattle.row_writes.proofs.inserted.held_rows.Goals as goal

pub returns-clause-rows : goal.returns-clause-rows
returns-clause-rows c = held_all c.args.questions.now c.args.table.now c.args.names.now c.args.expr.now c.args.rows.now c.in_ok-held.held c.in_ok-out.out.items c.in_ok-held.ensures.answer c.in_ok-out.ensures
