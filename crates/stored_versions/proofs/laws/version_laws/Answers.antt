use Rattle.stored_versions.proofs.NewestLaws.{newest_are_seen, newest_write, same_seen}
use Rattle.stored_versions.proofs.SeenLaws.{cleaned_none_seen, cleaned_seen, commit_seen}
use Rattle.stored_versions.proofs.laws.version_laws.Goals as goal

-- src/laws.rt
pub returns-clause-commit : goal.returns-clause-commit
returns-clause-commit c = commit_seen

pub returns-clause-cleaned : goal.returns-clause-cleaned
returns-clause-cleaned c = cleaned_seen

pub returns-clause-cleaned_all : goal.returns-clause-cleaned_all
returns-clause-cleaned_all c = cleaned_none_seen

pub returns-clause-tables : goal.returns-clause-tables
returns-clause-tables c = same_seen

pub returns-clause-newest : goal.returns-clause-newest
returns-clause-newest c = newest_are_seen

pub returns-clause-written : goal.returns-clause-written
returns-clause-written c = λ model number table w. newest_write model number table w
