use Rattle.std.proofs.Common.{IfOk, subst}
use Rattle.snapshot_store.proofs.StandLaws.{marked_is, marked_step, stands}
use Rattle.snapshot_store.specs.Parts.{IsMarked}
use Rattle.store_states.specs.Stored.{stored}
use Rattle.snapshot_store.proofs.store.Store.mark.Goals as goal

-- src/begin.rt
pub invariant_of-self : goal.invariant_of-self
invariant_of-self g c =
    let it = c.self.inside in
    stands it.model (stored (g.K.Keeper.kept it.keeper) it.loop_no it.next it.live it.catalog it.versions) (stored (g.K.Keeper.kept it.keeper) it.loop_no it.next c.begin.new.self it.catalog it.versions) c.self.invariant
    (marked_step (g.K.Keeper.kept it.keeper) it.loop_no it.next c.applied.result it.live it.catalog it.versions c.applied.ensures c.self.invariant.tidy c.begin.result c.begin.new.self c.begin.ensures.number c.begin.ensures.live c.begin.ensures.left)

pub returns-clause-ok : goal.returns-clause-ok
returns-clause-ok g c =
    let it = c.self.inside in
    subst (λ s. IfOk c.begin.result (λ snap. IsMarked s snap (stored (g.K.Keeper.kept it.keeper) it.loop_no it.next c.begin.new.self it.catalog it.versions))) c.self.view_is
    (marked_is (g.K.Keeper.kept it.keeper) it.loop_no it.next c.applied.result it.live it.catalog it.versions c.applied.ensures c.self.invariant.tidy c.begin.result c.begin.new.self c.begin.ensures.number c.begin.ensures.fresh c.begin.ensures.live c.begin.ensures.left)
