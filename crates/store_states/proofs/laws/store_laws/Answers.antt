use Rattle.store_states.proofs.LiveLaws.{live_sees, live_view}
use Rattle.store_states.proofs.StepLaws.{leaves_on}
use Rattle.store_states.proofs.laws.store_laws.Goals as goal

-- src/laws.rt
pub returns-clause-leaves : goal.returns-clause-leaves
returns-clause-leaves c = leaves_on

pub returns-clause-seen : goal.returns-clause-seen
returns-clause-seen c = live_sees

pub returns-clause-view : goal.returns-clause-view
returns-clause-view c = live_view
