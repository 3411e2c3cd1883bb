use Rattle.conditional_columns.proofs.RepeatLaws.{again_holds, again_known}
use Rattle.conditional_columns.proofs.repeated.stands_again.Goals as goal

-- src/repeated.rt
pub returns-clause-holds : goal.returns-clause-holds
returns-clause-holds c = λ d. again_holds d _ _ _ _ c.in_ok-both.ensures (c.in_ok-again.ensures.holds d)

pub returns-clause-known : goal.returns-clause-known
returns-clause-known c = λ i. again_known i _ _ _ _ c.in_ok-both.ensures (c.in_ok-again.ensures.known i)
