-- A write on a table's newest rows after a change of it is another change of it.
use Rattle.std.proofs.Common.{◌≡◌, ◌∙◌, ℕ, true, List, [], ◌∷◌, ◌++◌, flat_map, length, map, refl, sym, ap, ap₂, subst, rules, append_assoc, append-nil}
use Rattle.std.proofs.lemmas.Grind.{flat_map-append}
use Rattle.commit_changes.proofs.AddLaws.{fates_append, staying_append}
use Rattle.commit_changes.specs.Ends.{AddsWritten, AreEnds, is_insert}
use Rattle.feature_expr.specs.declared.expr.Expr.{Expr}
use Rattle.row_writes.proofs.FateLaws.{insert_fate}
use Rattle.commit_changes.specs.Made.{IsMade}
use Rattle.table_changes.specs.Changes.{ArePlaces, after_change, rows_without}
use Rattle.table_changes.specs.declared.change.TableChange.{TableChange}
use Rattle.vra_syntax.specs.declared.write.Write.{Write}
use Rattle.vra_syntax.specs.declared.write.Write.TheVariants as write
use Rattle.vschema.specs.declared.catalog.Table.{Table}
use Rattle.vtable.specs.declared.table.VRow.{VRow}
use Rattle.write_meaning.specs.RowWrites.{AreFates, IsFate, IsRowWrite, begun_by, holding, inserted, staying}
use Rattle.write_meaning.specs.declared.fate.Fate.{Fate}
use Rattle.write_meaning.specs.declared.fate.Fate.TheVariants.{Stays}

-- An INSERT.

all_stay : List VRow → List Fate
all_stay rows = map (λ (row : VRow). Stays) rows

stay_fate : (model : Expr) (table : Table) (w : Write) (row : VRow) → is_insert w ≡ true → IsFate model table w row Stays
stay_fate model table (write.Insert name names rows expr) row h = insert_fate model table name names rows expr row
stay_fate model table (write.Delete name cond expr) row h = search (rules, h)
stay_fate model table (write.Update name items cond expr) row h = search (rules, h)

stay_fates : (model : Expr) (table : Table) (w : Write) (rows : List VRow) → is_insert w ≡ true → AreFates model table w rows (all_stay rows)
unfolding all_stay
stay_fates model table w [] h = tt
stay_fates model table w (row ∷ rows) h = (stay_fate model table w row h, stay_fates model table w rows h)

stay_same : (rows : List VRow) → staying rows (all_stay rows) ≡ rows
unfolding all_stay
stay_same [] = refl
stay_same (row ∷ rows) = ap (λ (xs : List VRow). row ∷ xs) (stay_same rows)

stay_begins : (rows : List VRow) → flat_map begun_by (all_stay rows) ≡ []
unfolding all_stay
stay_begins [] = refl
stay_begins (row ∷ rows) = stay_begins rows

write_inserted : (model : Expr) (table : Table) (w : Write) (rows begun begun' : List VRow) → is_insert w ≡ true → begun' ≡ begun ++ holding model table (inserted table w) → IsRowWrite model table w (rows ++ begun) (rows ++ begun')
write_inserted model table w rows begun begun' h adds = record {
  fates = all_stay (rows ++ begun);
  are_fates = stay_fates model table w (rows ++ begun) h;
  new_are =
      ap (λ (xs : List VRow). rows ++ xs) adds
      ∙ sym (append_assoc rows begun (holding model table (inserted table w)))
      ∙ ap₂ (λ (xs ys : List VRow). xs ++ ys) (sym (stay_same (rows ++ begun)))
      (sym (ap (λ (xs : List VRow). holding model table (inserted table w) ++ xs) (stay_begins (rows ++ begun)) ∙ append-nil (holding model table (inserted table w))));
}

-- Another write.

write_touched : (model : Expr) (table : Table) (w : Write) (rows : List VRow) (ended ends : List ℕ) (begun stay begins more new : List VRow) → inserted table w ≡ [] → AreEnds model table w 0 (length rows) ended rows ends begins → AddsWritten model table w begun stay begins more → new ≡ stay ++ more
    → IsRowWrite model table w (rows_without 0 ended rows ++ begun) (rows_without 0 ends rows ++ new)
write_touched model table w rows ended ends begun stay begins more new none newest earlier is =
    let old = rows_without 0 ended rows in
    let left = rows_without 0 ends rows in
    let one = newest.written in
    let two = earlier.written in
    record {
      fates = one.fates ++ two.fates;
      are_fates = fates_append model table w old begun one.fates two.fates one.are_fates two.are_fates;
      new_are =
          ap (λ (xs : List VRow). left ++ xs) is
          ∙ sym (append_assoc left stay more)
          ∙ ap₂ (λ (xs ys : List VRow). xs ++ ys)
          (ap₂ (λ (xs ys : List VRow). xs ++ ys) one.stay_are two.stay_are ∙ sym (staying_append model table w old begun one.fates two.fates one.are_fates))
          (earlier.added
          ∙ ap₂ (λ (xs ys : List VRow). xs ++ ys) one.begun_are two.begun_are
          ∙ sym (flat_map-append begun_by one.fates two.fates)
          ∙ ap (λ (xs : List VRow). holding model table xs ++ flat_map begun_by (one.fates ++ two.fates)) (sym none));
    }

-- Made in a change.

pub insert_made : (model : Expr) (table : Table) (w : Write) (rows : List VRow) (old new : TableChange) → is_insert w ≡ true → new.table ≡ old.table → new.ends ≡ old.ends → new.begun ≡ old.begun ++ holding model table (inserted table w) → IsMade model table w rows old new
insert_made model table w rows old new h same ends begun = record {
  same_table = same;
  places = λ are. subst (λ (places : List ℕ). ArePlaces 0 (length rows) places) (sym ends) are;
  written = subst (λ (places : List ℕ). IsRowWrite model table w (after_change old rows) (rows_without 0 places rows ++ new.begun)) (sym ends)
      (write_inserted model table w (rows_without 0 old.ends rows) old.begun new.begun h begun);
}

pub touched_made : (model model' : Expr) (table : Table) (w : Write) (rows newest : List VRow) (ended ends : List ℕ) (old new : TableChange) (earlier stay begins more : List VRow) → inserted table w ≡ [] → model' ≡ model → newest ≡ rows → ended ≡ old.ends → earlier ≡ old.begun
    → new.table ≡ old.table → new.ends ≡ ends → new.begun ≡ stay ++ more → AreEnds model table w 0 (length newest) ended newest ends begins → AddsWritten model' table w earlier stay begins more → IsMade model table w rows old new
touched_made model model' table w rows newest ended ends old new earlier stay begins more none one all had begun same ends_are begun_are newly before =
    let found : AreEnds model table w 0 (length rows) old.ends rows new.ends begins =
    subst (λ (xs : List ℕ). AreEnds model table w 0 (length rows) old.ends rows xs begins) (sym ends_are)
    (subst (λ (xs : List ℕ). AreEnds model table w 0 (length rows) xs rows ends begins) had
    (subst (λ (xs : List VRow). AreEnds model table w 0 (length xs) ended xs ends begins) all newly)) in
    let adds : AddsWritten model table w old.begun stay begins more =
    subst (λ (xs : List VRow). AddsWritten model table w xs stay begins more) begun
    (subst (λ (m : Expr). AddsWritten m table w earlier stay begins more) one before) in
    record {
      same_table = same;
      places = λ are. found.places;
      written = write_touched model table w rows old.ends new.ends old.begun stay begins more new.begun none found adds begun_are;
    }
