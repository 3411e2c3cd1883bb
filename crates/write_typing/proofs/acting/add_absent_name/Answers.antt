use Rattle.query_meaning.specs.Typing.{columns_at}
use Rattle.write_typing.proofs.ActingLaws.{absent_added}
use Rattle.write_typing.proofs.acting.add_absent_name.Goals as goal

pub returns : goal.returns
returns c = λ d. absent_added d (columns_at d c.args.columns.now) c.args.name.now _ _ _ _ (c.in_ok-there.ensures.holds d) (c.in_ok-absent.ensures.meaning d) (c.in_ok-add_fault.ensures d)
