use Rattle.std.proofs.Common.{◌≡◌, Some, slice_get, sym, subst}
use Rattle.snapshot_store.proofs.ReadLaws.{distinct_at}
use Rattle.store_states.specs.Stored.{Stored}
use Rattle.snapshot_store.proofs.store.Store.written.Goals as goal

-- src/read.rt
pub rows_after-requires-clause-distinct : goal.rows_after-requires-clause-distinct
rows_after-requires-clause-distinct g c =
    let it = c.self.inside in
    distinct_at it.catalog.tables c.args.number c.args.table.now c.self.invariant.tidy.formed.distinct_columns (subst (λ (s : Stored). slice_get s.catalog.tables c.args.number ≡ Some c.args.table.now) (sym c.self.view_is) c.requires.table)
