use Rattle.query_meaning.proofs.BindLaws.{bound_sound, plan_of_bound}
use Rattle.query_meaning.proofs.ColumnLaws.{columns_meant}
use Rattle.query_meaning.proofs.PlanLaws.{same_meaning, same_possible, same_size}
use Rattle.query_meaning.proofs.SoundLaws.{sound_plan}
use Rattle.query_meaning.proofs.laws.query_laws.Goals as goal

-- src/laws.rt
pub returns-clause-means : goal.returns-clause-means
returns-clause-means c = same_meaning

pub returns-clause-possible : goal.returns-clause-possible
returns-clause-possible c = same_possible

pub returns-clause-bounds : goal.returns-clause-bounds
returns-clause-bounds c = same_size

pub returns-clause-sound : goal.returns-clause-sound
returns-clause-sound c = sound_plan

pub returns-clause-stays_sound : goal.returns-clause-stays_sound
returns-clause-stays_sound c = bound_sound

pub returns-clause-bound : goal.returns-clause-bound
returns-clause-bound c = plan_of_bound

pub returns-clause-columns : goal.returns-clause-columns
returns-clause-columns c = λ at kinds tables database query has. columns_meant at kinds tables database has query
