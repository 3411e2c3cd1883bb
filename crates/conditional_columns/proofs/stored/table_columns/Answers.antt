use Rattle.conditional_columns.proofs.StoredLaws.{table_headings, table_known, table_there, table_weight}
use Rattle.conditional_columns.proofs.stored.table_columns.Goals as goal

-- src/stored.rt
pub returns-clause-there : goal.returns-clause-there
returns-clause-there c = λ d. table_there c.args.table.now d _ c.in_ok-columns.ensures

pub returns-clause-headings : goal.returns-clause-headings
returns-clause-headings c = table_headings c.args.table.now _ c.in_ok-columns.ensures

pub returns-clause-weight : goal.returns-clause-weight
returns-clause-weight c = table_weight c.args.table.now _ c.in_ok-columns.ensures

pub returns-clause-known : goal.returns-clause-known
returns-clause-known c = λ i. table_known c.args.table.now i _ c.in_ok-columns.ensures
