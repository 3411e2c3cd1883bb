use Rattle.stored_versions.proofs.ConflictLaws.{conflict_found, conflict_is_found}
use Rattle.stored_versions.proofs.laws.conflict_laws.Goals as goal

-- src/laws.rt
pub returns-clause-found : goal.returns-clause-found
returns-clause-found c = conflict_found

pub returns-clause-is_found : goal.returns-clause-is_found
returns-clause-is_found c = conflict_is_found
