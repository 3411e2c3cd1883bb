use Rattle.conditional_columns.proofs.CallLaws.{same_asked}
use Rattle.conditional_columns.proofs.read.all_in.Goals as goal

-- src/read.rt
pub returns-then-are_same-clause-holds : goal.returns-then-are_same-clause-holds
returns-then-are_same-clause-holds c = λ d. same_asked d c.args.columns.now c.args.others.now (c.are_same.ensures c.if-are_same.true)
