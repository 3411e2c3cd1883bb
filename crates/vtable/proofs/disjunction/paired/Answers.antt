use Rattle.vtable.proofs.DisjunctionLaws.{pair_holds, pair_known}
use Rattle.vtable.proofs.disjunction.paired.Goals as goal

pub returns-in_ok-pair-in-Some-clause-holds : goal.returns-in_ok-pair-in-Some-clause-holds
returns-in_ok-pair-in-Some-clause-holds c = λ d. pair_holds d _ _ _ _ _ c.in-Some.ensures.items (c.in_ok-pair-in-Some.ensures.meaning d)

pub returns-in_ok-pair-in-Some-clause-known : goal.returns-in_ok-pair-in-Some-clause-known
returns-in_ok-pair-in-Some-clause-known c = λ i. pair_known i _ _ _ _ _ c.in-Some.ensures.items (c.in_ok-pair-in-Some.ensures.features i)
