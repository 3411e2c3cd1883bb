use Rattle.conditional_columns.specs.ColumnLists.{has_the_name}
use Rattle.conditional_columns.proofs.CallLaws.{name_says, picked_known, picked_weigh}
use Rattle.conditional_columns.proofs.read.name_in.Goals as goal

-- src/read.rt
pub returns-clause-holds : goal.returns-clause-holds
returns-clause-holds c = λ d. name_says d _ _ _ _ c.in_ok-conds.ensures (c.in_ok-whole.ensures.holds d)

pub returns-clause-weight : goal.returns-clause-weight
returns-clause-weight c = picked_weigh _ (has_the_name c.args.name.now) _ _ c.in_ok-conds.ensures c.in_ok-whole.ensures.weight

pub returns-clause-known : goal.returns-clause-known
returns-clause-known c = λ i. picked_known i (has_the_name c.args.name.now) _ _ _ c.in_ok-conds.ensures (c.in_ok-whole.ensures.known i)
