use Rattle.snapshot_store.proofs.FreshLaws.{fresh_is, fresh_stands}
use Rattle.snapshot_store.proofs.store.Store.fresh.Goals as goal

-- src/open.rt
pub invariant_of-result : goal.invariant_of-result
invariant_of-result g c =
    fresh_stands (record { catalog = c.args.catalog; rows = c.args.rows }) c.requires.formed c.requires.passes (g.K.Keeper.kept c.args.keeper) c.args.loop_no c.seen-next.result c.args.model c.new.result c.in-Ok.versions c.as_slice.result.now
    c.requires.model c.new.ensures c.seen-next.ensures.number c.as_slice.ensures c.in-Ok.ensures

pub returns-clause-fresh : goal.returns-clause-fresh
returns-clause-fresh g c =
    fresh_is (record { catalog = c.args.catalog; rows = c.args.rows }) c.requires.formed c.requires.passes (g.K.Keeper.kept c.args.keeper) c.args.loop_no c.seen-next.result c.args.model c.new.result c.in-Ok.versions c.as_slice.result.now
    c.requires.model c.new.ensures c.seen-next.ensures.number c.as_slice.ensures c.in-Ok.ensures
