use Rattle.std.proofs.Common.{refl, subst}
use Rattle.snapshot_store.proofs.StandLaws.{stands}
use Rattle.snapshot_store.specs.Parts.{IsLooked}
use Rattle.store_states.proofs.StepLaws.{looked}
use Rattle.store_states.specs.Stored.{stored}
use Rattle.snapshot_store.proofs.store.Store.look.Goals as goal

-- src/begin.rt
pub invariant_of-self : goal.invariant_of-self
invariant_of-self g c =
    let it = c.self.inside in
    stands it.model (stored (g.K.Keeper.kept it.keeper) it.loop_no it.next it.live it.catalog it.versions) (stored (g.K.Keeper.kept c.refresh.new.self) it.loop_no it.next it.live it.catalog it.versions) c.self.invariant
    (looked (g.K.Keeper.kept it.keeper) (g.K.Keeper.kept c.refresh.new.self) it.loop_no it.next it.live it.catalog it.versions c.refresh.ensures.lasts c.self.invariant.tidy)

pub returns : goal.returns
returns g c =
    let it = c.self.inside in
    subst (λ s. IsLooked s c.refresh.result (stored (g.K.Keeper.kept c.refresh.new.self) it.loop_no it.next it.live it.catalog it.versions)) c.self.view_is
    (record {
      leaves = (looked (g.K.Keeper.kept it.keeper) (g.K.Keeper.kept c.refresh.new.self) it.loop_no it.next it.live it.catalog it.versions c.refresh.ensures.lasts c.self.invariant.tidy).leaves;
      answered = c.refresh.ensures.seen;
      next = refl;
      live = refl;
      rows = refl;
    })
