-- A write of a whole table, row by row.
use Rattle.std.proofs.Common.{◌≡◌, ◌∙◌, List, [], ◌∷◌, ◌++◌, flat_map, refl, sym, ap, ap₂, append_assoc, append-nil}
use Rattle.std.proofs.lemmas.Grind.{flat_map-append}
use Rattle.feature_expr.specs.declared.expr.Expr.{Expr}
use Rattle.row_writes.specs.Made.{AreWritten}
use Rattle.vra_syntax.specs.declared.write.Write.{Write}
use Rattle.vschema.specs.declared.catalog.Table.{Table}
use Rattle.vtable.specs.declared.table.VRow.{VRow}
use Rattle.write_meaning.specs.RowWrites.{AreFates, IsFate, IsRowWrite, begun, begun_by, holding, inserted, staying, staying_by}
use Rattle.write_meaning.specs.declared.fate.Fate.{Fate}

fates_more : (model : Expr) (table : Table) (w : Write) (rows : List VRow) (fates : List Fate) (row : VRow) (fate : Fate) → AreFates model table w rows fates → IsFate model table w row fate → AreFates model table w (rows ++ row ∷ []) (fates ++ fate ∷ [])
fates_more model table w [] [] row fate are is = (is, tt)
fates_more model table w [] (other ∷ fates) row fate are is = absurd are
fates_more model table w (one ∷ rows) [] row fate are is = absurd are
fates_more model table w (one ∷ rows) (other ∷ fates) row fate are is = (are.0, fates_more model table w rows fates row fate are.1 is)

staying_more : (model : Expr) (table : Table) (w : Write) (rows : List VRow) (fates : List Fate) (row : VRow) (fate : Fate) → AreFates model table w rows fates → staying (rows ++ row ∷ []) (fates ++ fate ∷ []) ≡ staying rows fates ++ staying_by fate row
staying_more model table w [] [] row fate are = append-nil (staying_by fate row)
staying_more model table w [] (other ∷ fates) row fate are = absurd are
staying_more model table w (one ∷ rows) [] row fate are = absurd are
staying_more model table w (one ∷ rows) (other ∷ fates) row fate are =
    ap (λ xs. staying_by other one ++ xs) (staying_more model table w rows fates row fate are.1)
    ∙ sym (append_assoc (staying_by other one) (staying rows fates) (staying_by fate row))

pub written_none : (model : Expr) (table : Table) (w : Write) → AreWritten model table w [] [] []
written_none model table w = record { fates = []; are_fates = tt; stay_are = refl; begun_are = refl }

-- one row more
pub written_more : (model : Expr) (table : Table) (w : Write) (rows stay begun stay' begun' : List VRow) (row : VRow) (fate : Fate) → AreWritten model table w rows stay begun → IsFate model table w row fate → stay' ≡ stay ++ staying_by fate row → begun' ≡ begun ++ begun_by fate → AreWritten model table w (rows ++ row ∷ []) stay' begun'
written_more model table w rows stay begun stay' begun' row fate it is stays begins = record {
  fates = it.fates ++ fate ∷ [];
  are_fates = fates_more model table w rows it.fates row fate it.are_fates is;
  stay_are = stays ∙ ap (λ xs. xs ++ staying_by fate row) it.stay_are ∙ sym (staying_more model table w rows it.fates row fate it.are_fates);
  begun_are = begins ∙ ap (λ xs. xs ++ begun_by fate) it.begun_are ∙ ap (λ xs. flat_map begun_by it.fates ++ xs) (sym (append-nil (begun_by fate))) ∙ sym (flat_map-append begun_by it.fates (fate ∷ []));
}

pub written_whole : (model : Expr) (table : Table) (w : Write) (rows stay begun added new : List VRow) → AreWritten model table w rows stay begun → added ≡ holding model table (inserted table w) → new ≡ (stay ++ added) ++ begun → IsRowWrite model table w rows new
written_whole model table w rows stay others added new it adds is = record {
  fates = it.fates;
  are_fates = it.are_fates;
  new_are = is ∙ append_assoc stay added others ∙ ap₂ (λ xs ys. xs ++ ys) it.stay_are (ap₂ (λ xs ys. xs ++ ys) adds it.begun_are);
}
