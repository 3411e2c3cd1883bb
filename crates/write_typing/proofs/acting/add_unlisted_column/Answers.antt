use Rattle.std.proofs.Common.{sym, ◌∙◌}
use Rattle.query_typing.specs.Faults.{faults_at}
use Rattle.write_typing.proofs.ActingLaws.{listed_added, unlisted_added}
use Rattle.write_typing.proofs.acting.add_unlisted_column.Goals as goal

pub returns-then-is_listed : goal.returns-then-is_listed
returns-then-is_listed c = λ d. listed_added d c.args.column.now c.args.names.now (faults_at d c.args.faults.now.items) (sym c.is_listed.ensures ∙ c.if-is_listed.true)

pub returns : goal.returns
returns c = λ d. unlisted_added d c.args.column.now c.args.names.now _ _ _ (sym c.is_listed.ensures ∙ c.if-is_listed.false) c.in_ok-cond.ensures (c.in_ok-add_fault.ensures d)
