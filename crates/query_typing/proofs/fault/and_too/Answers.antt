use Rattle.query_typing.proofs.Connectives.{and_copied}
use Rattle.query_typing.proofs.fault.and_too.Goals as goal

pub returns : goal.returns
returns c = λ d. and_copied d _ _ _ _ _ c.in_ok-one.ensures c.in_ok-other.ensures (c.in_ok-both.ensures.meaning d)
