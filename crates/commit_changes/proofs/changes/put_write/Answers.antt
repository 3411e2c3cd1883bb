use Rattle.std.proofs.Common.{◌≡◌, Some, rules, slice_get}
use Rattle.std.proofs.lemmas.Option.{gets, slice_get_past}
use Rattle.std.proofs.lemmas.Result.{on_ok_weaker}
use Rattle.commit_changes.proofs.PutLaws.{columns_at, written_here, written_nowhere}
use Rattle.commit_changes.proofs.changes.put_write.Goals as goal

pub write_change-requires-clause-columns : goal.write_change-requires-clause-columns
write_change-requires-clause-columns c =
    columns_at 0 c.args.tables.now.tables.now c.args.newest.now c.in-Some.number c.in-Some-get.table.now c.in-Some-get-2.rows.now c.requires.stored (search (rules, gets)) (search (rules, gets))

pub returns-in-Some-get_mut-clause-written : goal.returns-in-Some-get_mut-clause-written
returns-in-Some-get_mut-clause-written c =
    let there : slice_get c.args.tables.now.tables.now c.in-Some.number ≡ Some c.in-Some-get.table.now = search (rules, gets) in
    let named : slice_get c.args.newest.now c.in-Some.number ≡ Some c.in-Some-get-2.rows.now = search (rules, gets) in
    let found : slice_get c.args.pending.now.items c.in-Some.number ≡ Some c.in-Some-get_mut.change.now = search (rules, gets) in
    on_ok_weaker c.write_change.result
    (written_here c.args.questions.now c.args.tables.now.tables.now c.args.newest.now c.args.write.now c.in-Some.number c.in-Some-get.table.now c.in-Some-get-2.rows.now c.in-Some-get_mut.change.now c.write_change.new.change c.args.pending.now.items
    (search rules) there named found)
    c.write_change.ensures.made

pub returns-in-None-clause-written : goal.returns-in-None-clause-written
returns-in-None-clause-written c =
    written_nowhere c.args.questions.now c.args.tables.now.tables.now c.args.newest.now c.args.write.now c.in-Some.number c.args.pending.now.items (search rules) (search (rules, gets, slice_get_past))
