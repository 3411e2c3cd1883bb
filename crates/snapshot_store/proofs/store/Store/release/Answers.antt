use Rattle.std.proofs.Common.{subst}
use Rattle.snapshot_store.proofs.StandLaws.{released_by, stands}
use Rattle.store_states.specs.Promises.{Leaves}
use Rattle.store_states.specs.Stored.{stored}
use Rattle.snapshot_store.proofs.store.Store.release.Goals as goal

-- src/release.rt
pub invariant_of-self : goal.invariant_of-self
invariant_of-self g c =
    let it = c.self.inside in
    stands it.model (stored (g.K.Keeper.kept it.keeper) it.loop_no it.next it.live it.catalog it.versions) (stored (g.K.Keeper.kept it.keeper) it.loop_no it.next c.release.new.self it.catalog c.clean.new.self) c.self.invariant
    (released_by (g.K.Keeper.kept it.keeper) it.loop_no it.next it.live c.release.new.self c.args.snap it.catalog it.versions c.clean.new.self c.oldest.result c.release.ensures c.oldest.ensures c.known.ensures
    c.clean.ensures.columns c.clean.ensures.applied c.clean.ensures.versions c.self.invariant.tidy)

pub returns-clause-leaves : goal.returns-clause-leaves
returns-clause-leaves g c =
    let it = c.self.inside in
    subst (λ s. Leaves s (stored (g.K.Keeper.kept it.keeper) it.loop_no it.next c.release.new.self it.catalog c.clean.new.self)) c.self.view_is
    (released_by (g.K.Keeper.kept it.keeper) it.loop_no it.next it.live c.release.new.self c.args.snap it.catalog it.versions c.clean.new.self c.oldest.result c.release.ensures c.oldest.ensures c.known.ensures
    c.clean.ensures.columns c.clean.ensures.applied c.clean.ensures.versions c.self.invariant.tidy).leaves
