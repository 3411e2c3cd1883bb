use Rattle.write_meaning.proofs.MentionLaws.{mentions_after}
use Rattle.write_meaning.proofs.RelationLaws.{columns_stay, same_relation}
use Rattle.write_meaning.proofs.RowWriteLaws.{plain_write}
use Rattle.write_meaning.proofs.TakenLaws.{view_after}
use Rattle.write_meaning.proofs.laws.write_laws.Goals as goal

-- src/laws.rt
pub returns-clause-plain : goal.returns-clause-plain
returns-clause-plain c = plain_write

pub returns-clause-view : goal.returns-clause-view
returns-clause-view c = view_after

pub returns-clause-columns : goal.returns-clause-columns
returns-clause-columns c = columns_stay

pub returns-clause-same : goal.returns-clause-same
returns-clause-same c = same_relation

pub returns-clause-features : goal.returns-clause-features
returns-clause-features c = mentions_after
