use Rattle.vtable.proofs.PassLaws.{none_left}
use Rattle.vtable.proofs.decision.put_next.Goals as goal

pub returns-in-None : goal.returns-in-None
returns-in-None c = λ fates. none_left _ fates _ _ _ c.in-None.ensures.0 c.in-None.ensures.1
