use Rattle.std.proofs.Common.{rules, sym}
use Rattle.taken_writes.proofs.TypeLaws.{is_refused}
use Rattle.taken_writes.proofs.taken.has_type.Goals as goal

-- src/taken.rt:35:1
pub returns-in-Err-Ill-clause-typed : goal.returns-in-Err-Ill-clause-typed
returns-in-Err-Ill-clause-typed c =
    sym (is_refused c.args.questions.now c.args.tables.now.tables.now c.args.write.now c.in-Err-Ill.field-0 c.in-Err-Ill._case (search rules) c.in-Err-Ill.ensures.refused)
