use Rattle.version_changes.proofs.NewestLaws.{changes_newest}
use Rattle.version_changes.proofs.SeenLaws.{changes_seen}
use Rattle.version_changes.proofs.laws.change_laws.Goals as goal

-- src/laws.rt
pub returns-clause-seen : goal.returns-clause-seen
returns-clause-seen c = changes_seen

pub returns-clause-newest : goal.returns-clause-newest
returns-clause-newest c = λ k next number changes versions h. changes_newest 0 k next number changes versions h
