use Rattle.std.proofs.Common.{◌∙◌, ap}
use Rattle.transaction_answers.proofs.TableLaws.{after_made}
use Rattle.vschema.specs.declared.catalog.Catalog.{Catalog}
use Rattle.transaction_answers.proofs.tables.tables_after.Goals as goal

-- src/tables.rt:17:1
pub returns : goal.returns
returns g c =
    after_made c.args.store.now c.args.snap.now c.args.writes.now c.as_slice-table-items.result.now c.tables.table-index c.tables.number c.tables.tables.items c.from_vec-tables.result c.tables.invariant.1 c.tables-test.false
    (c.as_slice-table-items.ensures ∙ ap (λ (k : Catalog). k.tables) c.catalog-catalog.ensures) c.from_vec-tables.ensures
