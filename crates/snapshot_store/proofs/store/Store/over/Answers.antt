use Rattle.snapshot_store.proofs.OpenLaws.{opens}
use Rattle.snapshot_store.proofs.store.Store.over.Goals as goal

-- src/open.rt
pub returns-in-Ok-clause-opens : goal.returns-in-Ok-clause-opens
returns-in-Ok-clause-opens g c =
    opens (record { catalog = c.args.catalog; rows = c.args.rows }) (g.K.Keeper.kept c.args.keeper) (g.K.Keeper.kept c.refresh.new.self) c.args.loop_no c.refresh.result c.in_ok-store.store c.apply_seen.new.self
    c.refresh.ensures.seen c.refresh.ensures.lasts c.in_ok-store.ensures.fresh c.apply_seen.ensures.applies c.in-Ok.ensures.all
