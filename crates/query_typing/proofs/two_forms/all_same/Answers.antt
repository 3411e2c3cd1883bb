use Rattle.query_typing.proofs.Connectives.{both_say}
use Rattle.query_typing.proofs.two_forms.all_same.Goals as goal

pub returns : goal.returns
returns c = λ d. both_say _ _ _ _ _ (c.in_ok-left_in.ensures.holds d) (c.in_ok-right_in.ensures.holds d) (c.in_ok-both.ensures.meaning d)
