-- The rows that can be there, with one row more.
use Rattle.std.proofs.Common.{◌≡◌, ◌∙◌, List, [], ◌∷◌, ◌++◌, sym, ap}
use Rattle.std.proofs.lemmas.List.Elements.{filter-append}
use Rattle.feature_expr.specs.declared.expr.Expr.{Expr}
use Rattle.vschema.specs.declared.catalog.Table.{Table}
use Rattle.vtable.specs.declared.table.VRow.{VRow}
use Rattle.write_meaning.specs.RowWrites.{can_be_there, holding}

pub present_more : (model : Expr) (table : Table) (rows present new : List VRow) (row : VRow) → present ≡ holding model table rows → new ≡ present ++ holding model table (row ∷ []) → new ≡ holding model table (rows ++ row ∷ [])
present_more model table rows present new row is more =
    more ∙ ap (λ xs. xs ++ holding model table (row ∷ [])) is ∙ sym (filter-append (can_be_there model table) rows (row ∷ []))
