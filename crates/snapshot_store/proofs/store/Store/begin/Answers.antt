use Rattle.std.proofs.Common.{subst, sym}
use Rattle.snapshot_store.proofs.BeginLaws.{applied_leaves, begin_leaves}
use Rattle.store_states.specs.Promises.{Leaves}
use Rattle.snapshot_store.proofs.store.Store.begin.Goals as goal

-- src/begin.rt
pub returns-in-Err-clause-leaves : goal.returns-in-Err-clause-leaves
returns-in-Err-clause-leaves g c = applied_leaves c.args.self.now c.look.new.self c.apply_seen.new.self c.look.result c.look.ensures c.apply_seen.ensures.applies

pub returns-in-Ok-mark-clause-leaves : goal.returns-in-Ok-mark-clause-leaves
returns-in-Ok-mark-clause-leaves g c =
    begin_leaves c.args.self.now c.look.new.self c.apply_seen.new.self c.mark.new.self c.look.result c.in-Ok-mark.snap c.look.ensures c.apply_seen.ensures.applies c.in-Ok-mark.ensures.ok

pub returns-in-Err-mark-clause-leaves : goal.returns-in-Err-mark-clause-leaves
returns-in-Err-mark-clause-leaves g c =
    subst (Leaves c.args.self.now) (sym c.in-Err-mark.ensures.err) (applied_leaves c.args.self.now c.look.new.self c.apply_seen.new.self c.look.result c.look.ensures c.apply_seen.ensures.applies)
