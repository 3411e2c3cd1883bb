use Rattle.std.proofs.Common.{◌≡◌, ◌∙◌, sym, ap, subst}
use Rattle.snapshot_store.proofs.ReadLaws.{newest_seen}
use Rattle.store_states.specs.Reads.{seen_tables}
use Rattle.store_states.specs.Stored.{Stored, stored}
use Rattle.snapshot_store.proofs.store.Store.newest.Goals as goal

-- src/read.rt
pub returns-then-number-applied : goal.returns-then-number-applied
returns-then-number-applied g c =
    let it = c.self.inside in
    subst (λ (s : Stored). c.newest.result.now.tables ≡ seen_tables c.args.snap.now.1 0 s.catalog.tables s.rows.versions) c.self.view_is
    (newest_seen (stored (g.K.Keeper.kept it.keeper) it.loop_no it.next it.live it.catalog it.versions) c.args.snap.now.1 c.newest.result.now.tables c.self.invariant.tidy c.known.ensures.placed
    (sym c.number.ensures ∙ c.if-number-applied.true ∙ c.applied.ensures) c.newest.ensures)
