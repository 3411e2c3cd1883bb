use Rattle.query_typing.proofs.Connectives.{both_say}
use Rattle.query_typing.proofs.two_forms.both_there.Goals as goal

pub returns : goal.returns
returns c = λ d. both_say _ _ _ _ _ (c.in_ok-left.ensures.holds d) (c.in_ok-right.ensures.holds d) (c.in_ok-both.ensures.meaning d)
