use Rattle.query_meaning.specs.Typing.{columns_at}
use Rattle.query_typing.proofs.BuildLaws.{absent_added}
use Rattle.query_typing.proofs.absent.add_absent.Goals as goal

pub returns : goal.returns
returns c = λ d. absent_added d (columns_at d c.args.columns.now) c.args.name.now c.args.path.now _ _ _ _ _ _ (c.in_ok-there.ensures.holds d) (c.in_ok-absent.ensures.meaning d) c.in_ok-path.ensures (c.in_ok-cond.ensures.meaning d) (c.in_ok-add_fault.ensures d)
