-- A write on rows in two parts, one row after another.
use Rattle.std.proofs.Common.{◌≡◌, ◌∙◌, List, [], ◌∷◌, ◌++◌, refl, sym, ap, append_assoc, append-nil}
use Rattle.commit_changes.specs.Ends.{AddsWritten}
use Rattle.feature_expr.specs.declared.expr.Expr.{Expr}
use Rattle.row_writes.proofs.WrittenLaws.{written_more, written_none}
use Rattle.vra_syntax.specs.declared.write.Write.{Write}
use Rattle.vschema.specs.declared.catalog.Table.{Table}
use Rattle.vtable.specs.declared.table.VRow.{VRow}
use Rattle.write_meaning.specs.RowWrites.{AreFates, IsFate, begun_by, staying, staying_by}
use Rattle.write_meaning.specs.declared.fate.Fate.{Fate}

pub adds_none : (model : Expr) (table : Table) (w : Write) (old : List VRow) → AddsWritten model table w [] [] old old
adds_none model table w old = record { begins = []; written = written_none model table w; added = sym (append-nil old) }

-- one row more
pub adds_more : (model : Expr) (table : Table) (w : Write) (rows stay stay' old mid new : List VRow) (row : VRow) (fate : Fate) → AddsWritten model table w rows stay old mid → IsFate model table w row fate → stay' ≡ stay ++ staying_by fate row → new ≡ mid ++ begun_by fate → AddsWritten model table w (rows ++ row ∷ []) stay' old new
adds_more model table w rows stay stay' old mid new row fate it is stays begins = record {
  begins = it.begins ++ begun_by fate;
  written = written_more model table w rows stay it.begins stay' (it.begins ++ begun_by fate) row fate it.written is stays refl;
  added = begins ∙ ap (λ (xs : List VRow). xs ++ begun_by fate) it.added ∙ append_assoc old it.begins (begun_by fate);
}

-- Rows behind others.

pub fates_append : (model : Expr) (table : Table) (w : Write) (rows others : List VRow) (fates more : List Fate) → AreFates model table w rows fates → AreFates model table w others more → AreFates model table w (rows ++ others) (fates ++ more)
fates_append model table w [] others [] more are rest = rest
fates_append model table w [] others (fate ∷ fates) more are rest = absurd are
fates_append model table w (row ∷ rows) others [] more are rest = absurd are
fates_append model table w (row ∷ rows) others (fate ∷ fates) more are rest = (are.0, fates_append model table w rows others fates more are.1 rest)

pub staying_append : (model : Expr) (table : Table) (w : Write) (rows others : List VRow) (fates more : List Fate) → AreFates model table w rows fates → staying (rows ++ others) (fates ++ more) ≡ staying rows fates ++ staying others more
staying_append model table w [] others [] more are = refl
staying_append model table w [] others (fate ∷ fates) more are = absurd are
staying_append model table w (row ∷ rows) others [] more are = absurd are
staying_append model table w (row ∷ rows) others (fate ∷ fates) more are =
    ap (λ (xs : List VRow). staying_by fate row ++ xs) (staying_append model table w rows others fates more are.1)
    ∙ sym (append_assoc (staying_by fate row) (staying rows fates) (staying others more))
