use Rattle.query_meaning.specs.Typing.{columns_at}
use Rattle.query_typing.proofs.BuildLaws.{again_added}
use Rattle.query_typing.proofs.twice.add_again.Goals as goal

pub returns : goal.returns
returns c = λ d. again_added d c.args.column.now (columns_at d c.args.behind.now) _ _ _ _ _ (c.in_ok-again.ensures.holds d) c.in_ok-cond.ensures (c.in_ok-cond-2.ensures.meaning d) (c.in_ok-add_fault.ensures d)
