use Rattle.store_states.proofs.StepLaws.{leaves_on}
use Rattle.snapshot_store.proofs.store.Store.add.Goals as goal

-- src/commit.rt
pub returns-in-At-clause-leaves : goal.returns-in-At-clause-leaves
returns-in-At-clause-leaves g c =
    leaves_on c.args.self.now c.append.new.self c.release.new.self
    (leaves_on c.args.self.now c.apply_seen.new.self c.append.new.self c.apply_seen.ensures.applies.leaves c.append.ensures.leaves) c.release.ensures.leaves

pub returns-in-Behind-clause-leaves : goal.returns-in-Behind-clause-leaves
returns-in-Behind-clause-leaves g c = leaves_on c.args.self.now c.apply_seen.new.self c.append.new.self c.apply_seen.ensures.applies.leaves c.append.ensures.leaves

pub returns-in-Failed-clause-leaves : goal.returns-in-Failed-clause-leaves
returns-in-Failed-clause-leaves g c = leaves_on c.args.self.now c.apply_seen.new.self c.append.new.self c.apply_seen.ensures.applies.leaves c.append.ensures.leaves

pub returns-in-Full-clause-leaves : goal.returns-in-Full-clause-leaves
returns-in-Full-clause-leaves g c = leaves_on c.args.self.now c.apply_seen.new.self c.append.new.self c.apply_seen.ensures.applies.leaves c.append.ensures.leaves

pub returns-in-Memory-clause-leaves : goal.returns-in-Memory-clause-leaves
returns-in-Memory-clause-leaves g c = leaves_on c.args.self.now c.apply_seen.new.self c.append.new.self c.apply_seen.ensures.applies.leaves c.append.ensures.leaves
