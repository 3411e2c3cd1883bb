use Rattle.std.proofs.Common.{◌≡◌, ◌<◌, ◌∙◌, List, Some, length, true, slice_get, take, sym, ap, subst}
use Rattle.std.proofs.lemmas.Option.{slice_get-get_or}
use Rattle.snapshot_store.proofs.ReadLaws.{first_taken, rows_read}
use Rattle.store_states.specs.Reads.{IsRowsAt}
use Rattle.store_states.specs.Stored.{Stored}
use Rattle.stored_versions.specs.Logs.{all_taken}
use Rattle.vschema.specs.declared.catalog.Table.{Table}
use Rattle.snapshot_store.proofs.store.Store.rows_at.Goals as goal

-- src/read.rt
pub rows_of-requires-clause-taken : goal.rows_of-requires-clause-taken
rows_of-requires-clause-taken g c =
    subst (λ writes. all_taken c.args.self.now.catalog writes ≡ true) (sym (c.split_at.ensures.front ∙ ap (take c.args.count) c.as_slice.ensures)) (first_taken c.args.count c.args.self.now.catalog c.args.writes.now c.requires.taken)

pub returns : goal.returns
returns g c =
    let same : c.as_slice-2.result.now ≡ c.args.self.now.catalog.tables = c.as_slice-2.ensures ∙ ap (λ (s : Stored). s.catalog.tables) c.self.view_is in
    let within : c.args.table < length c.as_slice-2.result.now = subst (λ (tables : List Table). c.args.table < length tables) (sym same) c.requires.table in
    let there : slice_get c.args.self.now.catalog.tables c.args.table ≡ Some c.index-as_slice-table.result =
    subst (λ (tables : List Table). slice_get tables c.args.table ≡ Some c.index-as_slice-table.result) same
    (slice_get-get_or c.as_slice-2.result.now c.args.table c.index-as_slice-table.result within ∙ ap Some (sym c.index-as_slice-table.is))
    in
    subst (λ writes. IsRowsAt c.args.self.now c.args.snap.now c.args.table writes (record { columns = c.in_ok-columns.columns; rows = c.in_ok-rows.rows })) (c.split_at.ensures.front ∙ ap (take c.args.count) c.as_slice.ensures)
    (rows_read c.args.self.now c.args.snap.now c.args.table c.index-as_slice-table.result c.split_at.result.0.now c.in_ok-columns.columns c.in_ok-rows.rows there c.in_ok-columns.ensures c.in_ok-rows.ensures)
