use Rattle.query_meaning.specs.Typing.{columns_at}
use Rattle.query_typing.proofs.SideLaws.{differ_added}
use Rattle.query_typing.proofs.two_forms.add_differ.Goals as goal

pub returns : goal.returns
returns c = λ d. differ_added (columns_at d c.args.left.now) (columns_at d c.args.right.now) _ _ _ _ _ _ (c.in_ok-there.ensures d) (c.in_ok-same.ensures d) (c.in_ok-differ.ensures.meaning d) (c.in_ok-cond.ensures.meaning d) (c.in_ok-add_fault.ensures d)
