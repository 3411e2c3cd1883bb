use Rattle.conditional_columns.proofs.CallLaws.{behind_headings, behind_known, behind_there, behind_weight}
use Rattle.conditional_columns.proofs.put.behind.Goals as goal

-- src/put.rt
pub returns-clause-there : goal.returns-clause-there
returns-clause-there c = λ d. behind_there d _ _ _ c.in_ok-out.ensures

pub returns-clause-headings : goal.returns-clause-headings
returns-clause-headings c = behind_headings _ _ _ c.in_ok-out.ensures

pub returns-clause-weight : goal.returns-clause-weight
returns-clause-weight c = behind_weight c.args.alias.now _ _ c.in_ok-out.ensures

pub returns-clause-known : goal.returns-clause-known
returns-clause-known c = λ i. behind_known i c.args.alias.now _ _ c.in_ok-out.ensures
