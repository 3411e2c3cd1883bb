use Rattle.stored_versions.proofs.LogLaws.{database_after, none_left_out, sizes_after}
use Rattle.stored_versions.proofs.OpeningLaws.{opening_means, stored_within}
use Rattle.stored_versions.proofs.StepLaws.{commit_taken, view_left, view_written}
use Rattle.stored_versions.proofs.laws.log_laws.Goals as goal

-- src/laws.rt
pub returns-clause-database : goal.returns-clause-database
returns-clause-database c = database_after

pub returns-clause-sizes : goal.returns-clause-sizes
returns-clause-sizes c = sizes_after

pub returns-clause-whole : goal.returns-clause-whole
returns-clause-whole c = none_left_out

pub returns-clause-opening : goal.returns-clause-opening
returns-clause-opening c = opening_means

pub returns-clause-columns : goal.returns-clause-columns
returns-clause-columns c = stored_within

pub returns-clause-other : goal.returns-clause-other
returns-clause-other c = view_left

pub returns-clause-written : goal.returns-clause-written
returns-clause-written c = view_written

pub returns-clause-commit : goal.returns-clause-commit
returns-clause-commit c = commit_taken
