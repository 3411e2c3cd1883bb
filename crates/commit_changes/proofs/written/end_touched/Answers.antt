use Rattle.std.proofs.Common.{rules}
use Rattle.commit_changes.proofs.WriteLaws.{touched_made}
use Rattle.commit_changes.proofs.written.end_touched.Goals as goal

pub returns-clause-made : goal.returns-clause-made
returns-clause-made c =
    touched_made c.args.questions.now c.ended_places.new.questions c.args.table.now c.args.write.now c.args.rows.now.rows c.as_slice-newest.result.now c.as_slice-ended.result.now c.in_ok-ends.ends.items c.args.change.now _ c.replace-earlier.result c.in_ok-begun.begun.items c.in_ok-ends.begins.items c.staying_rows.new.begins.items
    c.requires.others (search rules) (search rules) (search rules) (search rules) (search rules) (search rules) (search rules) (search rules) c.in_ok-begun.ensures.written
