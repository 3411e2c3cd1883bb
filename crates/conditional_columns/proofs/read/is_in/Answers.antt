use Rattle.conditional_columns.proofs.CallLaws.{in_holds, in_known}
use Rattle.conditional_columns.proofs.read.is_in.Goals as goal

-- src/read.rt
pub returns-clause-holds : goal.returns-clause-holds
returns-clause-holds c = λ d. in_holds d _ _ _ _ _ _ c.in_ok-cond.ensures (c.in_ok-absent.ensures.meaning d) (c.in_ok-there.ensures.holds d) (c.in_ok-whole.ensures.meaning d)

pub returns-clause-known : goal.returns-clause-known
returns-clause-known c = λ i. in_known i c.args.column.now c.args.others.now _ _ _ _ c.in_ok-cond.ensures (c.in_ok-absent.ensures.features i) (c.in_ok-there.ensures.known i) (c.in_ok-whole.ensures.features i)
