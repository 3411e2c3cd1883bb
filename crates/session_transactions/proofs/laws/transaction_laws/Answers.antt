use Rattle.session_transactions.proofs.GoingLaws.{goes_beside, goes_on, goes_same, goes_viewed, sees_all, wrote_fits}
use Rattle.session_transactions.proofs.laws.transaction_laws.Goals as goal

-- src/laws.rt
pub returns-clause-goes : goal.returns-clause-goes
returns-clause-goes c = goes_on

pub returns-clause-stays : goal.returns-clause-stays
returns-clause-stays c = goes_same

pub returns-clause-adds : goal.returns-clause-adds
returns-clause-adds c = wrote_fits

pub returns-clause-viewed : goal.returns-clause-viewed
returns-clause-viewed c = goes_viewed

pub returns-clause-seen : goal.returns-clause-seen
returns-clause-seen c = sees_all

pub returns-clause-other : goal.returns-clause-other
returns-clause-other c = goes_beside
