use Rattle.live_snapshots.proofs.LiveLaws.{gone, others}
use Rattle.live_snapshots.proofs.OldestLaws.{least_seen, reached, rises}
use Rattle.live_snapshots.proofs.laws.snapshot_laws.Goals as goal

-- src/laws.rt
pub returns-clause-gone : goal.returns-clause-gone
returns-clause-gone c = gone

pub returns-clause-others : goal.returns-clause-others
returns-clause-others c = others

pub returns-clause-least : goal.returns-clause-least
returns-clause-least c = least_seen

pub returns-clause-reached : goal.returns-clause-reached
returns-clause-reached c = reached

pub returns-clause-rises : goal.returns-clause-rises
returns-clause-rises c = rises
