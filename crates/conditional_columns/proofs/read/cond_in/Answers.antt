use Rattle.query_meaning.specs.Typing.{heading}
use Rattle.conditional_columns.specs.ColumnLists.{is_the_column}
use Rattle.conditional_columns.proofs.CallLaws.{column_says, picked_known, picked_weigh}
use Rattle.conditional_columns.proofs.read.cond_in.Goals as goal

-- src/read.rt
pub returns-clause-holds : goal.returns-clause-holds
returns-clause-holds c = λ d. column_says d _ _ _ _ c.in_ok-conds.ensures (c.in_ok-whole.ensures.holds d)

pub returns-clause-weight : goal.returns-clause-weight
returns-clause-weight c = picked_weigh _ (is_the_column (heading c.args.one.now)) _ _ c.in_ok-conds.ensures c.in_ok-whole.ensures.weight

pub returns-clause-known : goal.returns-clause-known
returns-clause-known c = λ i. picked_known i (is_the_column (heading c.args.one.now)) _ _ _ c.in_ok-conds.ensures (c.in_ok-whole.ensures.known i)
