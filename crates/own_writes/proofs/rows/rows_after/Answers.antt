use Rattle.std.proofs.Common.{arith, rules}
use Rattle.std.proofs.lemmas.List.{nil_from_length}
use Rattle.own_writes.proofs.CarriedLaws.{carries_end}
use Rattle.own_writes.proofs.rows.rows_after.Goals as goal

-- src/rows.rt:19:1
pub returns-clause-rows : goal.returns-clause-rows
returns-clause-rows c =
    carries_end c.args.questions.now c.args.tables.now.tables.now c.args.number c.args.table.now c.loop-write.writes.now c.args.writes.now c.args.rows c.loop-write.rows
    (nil_from_length c.loop-write.writes.now (search (arith, rules))) (c.loop-write.invariant.1)
