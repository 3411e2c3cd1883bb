-- What a write ends of the newest rows, from the first place on.
use Rattle.std.proofs.Common.{◌≡◌, ◌∙◌, ℕ, ◌+◌, ◌<◌, ◌≤◌, inl, inr, false, List, [], ◌∷◌, ◌++◌, drop, length, sym, ap, subst, arith, append_assoc, append-nil}
use Rattle.commit_changes.proofs.PlaceLaws.{not_first, places_lower, without_other, without_this}
use Rattle.commit_changes.specs.Ends.{AreEnds, HadEnded, HadNot, IsLookedAt, first_is, places_by}
use Rattle.feature_expr.specs.declared.expr.Expr.{Expr}
use Rattle.row_writes.proofs.WrittenLaws.{written_none}
use Rattle.row_writes.specs.Made.{AreWritten}
use Rattle.table_changes.specs.Changes.{ArePlaces, rows_without}
use Rattle.vra_syntax.specs.declared.write.Write.{Write}
use Rattle.vschema.specs.declared.catalog.Table.{Table}
use Rattle.vtable.specs.declared.table.VRow.{VRow}
use Rattle.write_meaning.specs.RowWrites.{IsFate, begun_by, staying_by}
use Rattle.write_meaning.specs.declared.fate.Fate.{Fate}
use Rattle.write_meaning.specs.declared.fate.Fate.TheVariants.{Stays, Ends}

at_least : (a : ℕ) → a ≤ a
at_least a = omega arith

ends_without : (place count : ℕ) (more : List ℕ) (row : VRow) (rest : List VRow) (fate : Fate) → ArePlaces (place + 1) count more → rows_without place (places_by place fate ++ more) (row ∷ rest) ≡ staying_by fate row ++ rows_without (place + 1) more rest
ends_without place count more row rest Stays h = without_other place more row rest (not_first place count more h)
ends_without place count more row rest (Ends begun) h = without_this place more row rest

ends_places : (place count : ℕ) (more : List ℕ) (fate : Fate) → place < count → ArePlaces (place + 1) count more → ArePlaces place count (places_by place fate ++ more)
ends_places place count more Stays below h = places_lower place count more h
ends_places place count more (Ends begun) below h = (at_least place, below, h)

module _ (model : Expr) (table : Table) (w : Write) where
  -- the fate of a row in front of others
  fate_front : (row : VRow) (fate : Fate) (rows stay begins : List VRow) → IsFate model table w row fate → AreWritten model table w rows stay begins → AreWritten model table w (row ∷ rows) (staying_by fate row ++ stay) (begun_by fate ++ begins)
  fate_front row fate rows stay begins is it = record {
    fates = fate ∷ it.fates;
    are_fates = (is, it.are_fates);
    stay_are = ap (λ (xs : List VRow). staying_by fate row ++ xs) it.stay_are;
    begun_are = ap (λ (xs : List VRow). begun_by fate ++ xs) it.begun_are;
  }

  written_same : (rows rows' stay stay' begins : List VRow) → rows ≡ rows' → stay ≡ stay' → AreWritten model table w rows stay begins → AreWritten model table w rows' stay' begins
  written_same rows rows' stay stay' begins one other it =
      subst (λ (xs : List VRow). AreWritten model table w rows' xs begins) other (subst (λ (xs : List VRow). AreWritten model table w xs stay begins) one it)

  -- a row that had ended, in front of others
  had_ended : (place count : ℕ) (left more : List ℕ) (row : VRow) (rest later : List VRow) → place < count → AreEnds model table w (place + 1) count left rest more later → AreEnds model table w place count (place ∷ left) (row ∷ rest) (place ∷ more) later
  had_ended place count left more row rest later below it = record {
    written = written_same (rows_without (place + 1) left rest) (rows_without place (place ∷ left) (row ∷ rest)) (rows_without (place + 1) more rest) (rows_without place (place ∷ more) (row ∷ rest)) later
        (sym (without_this place left row rest)) (sym (without_this place more row rest)) it.written;
    places = (at_least place, below, it.places);
  }

  -- one that hadn't
  had_not : (place count : ℕ) (ended more : List ℕ) (row : VRow) (rest later : List VRow) (fate : Fate) → place < count → first_is place ended ≡ false → IsFate model table w row fate → AreEnds model table w (place + 1) count ended rest more later
      → AreEnds model table w place count ended (row ∷ rest) (places_by place fate ++ more) (begun_by fate ++ later)
  had_not place count ended more row rest later fate below first is it = record {
    written = written_same (row ∷ rows_without (place + 1) ended rest) (rows_without place ended (row ∷ rest)) (staying_by fate row ++ rows_without (place + 1) more rest) (rows_without place (places_by place fate ++ more) (row ∷ rest)) (begun_by fate ++ later)
        (sym (without_other place ended row rest first)) (sym (ends_without place count more row rest fate it.places))
        (fate_front row fate (rows_without (place + 1) ended rest) (rows_without (place + 1) more rest) later is it.written);
    places = ends_places place count more fate below it.places;
  }

  -- What is found from a place on goes on what was found in front of it.
  module _ (place count : ℕ) (row : VRow) (rest rows : List VRow) (first ended left ends ends' : List ℕ) (begins begins' : List VRow) (below : place < count)
      (on : (more : List ℕ) (later : List VRow) → AreEnds model table w place count ended (row ∷ rest) more later → AreEnds model table w 0 count first rows (ends ++ more) (begins ++ later)) where
    past_ended : HadEnded place ended left ends ends' begins begins' → (more : List ℕ) (later : List VRow) → AreEnds model table w (place + 1) count left rest more later → AreEnds model table w 0 count first rows (ends' ++ more) (begins' ++ later)
    past_ended had more later it =
        subst (λ (xs : List VRow). AreEnds model table w 0 count first rows (ends' ++ more) (xs ++ later)) (sym had.begins_are)
        (subst (λ (xs : List ℕ). AreEnds model table w 0 count first rows xs (begins ++ later)) (sym (ap (λ (xs : List ℕ). xs ++ more) had.ends_are ∙ append_assoc ends (place ∷ []) more))
        (on (place ∷ more) later (subst (λ (xs : List ℕ). AreEnds model table w place count xs (row ∷ rest) (place ∷ more) later) (sym had.first) (had_ended place count left more row rest later below it))))

    past_judged : HadNot model table w place row ended left ends ends' begins begins' → (more : List ℕ) (later : List VRow) → AreEnds model table w (place + 1) count left rest more later → AreEnds model table w 0 count first rows (ends' ++ more) (begins' ++ later)
    past_judged had more later it =
        let fate = had.judged.fate in
        let e1 : ends' ++ more ≡ ends ++ (places_by place fate ++ more) = ap (λ (xs : List ℕ). xs ++ more) had.judged.ends_are ∙ append_assoc ends (places_by place fate) more in
        let e2 : begins' ++ later ≡ begins ++ (begun_by fate ++ later) = ap (λ (xs : List VRow). xs ++ later) had.judged.begins_are ∙ append_assoc begins (begun_by fate) later in
        subst (λ (xs : List VRow). AreEnds model table w 0 count first rows (ends' ++ more) xs) (sym e2)
        (subst (λ (xs : List ℕ). AreEnds model table w 0 count first rows xs (begins ++ (begun_by fate ++ later))) (sym e1)
        (on (places_by place fate ++ more) (begun_by fate ++ later)
        (had_not place count ended more row rest later fate below had.first had.judged.is_fate (subst (λ (xs : List ℕ). AreEnds model table w (place + 1) count xs rest more later) had.left_are it))))

    past : IsLookedAt model table w place row ended left ends ends' begins begins' → (more : List ℕ) (later : List VRow) → AreEnds model table w (place + 1) count left rest more later → AreEnds model table w 0 count first rows (ends' ++ more) (begins' ++ later)
    past (inl had) = past_ended had
    past (inr had) = past_judged had

-- one row more
pub ends_more : (model : Expr) (table : Table) (w : Write) (place : ℕ) (row : VRow) (rows : List VRow) (first ended left ends ends' : List ℕ) (begins begins' : List VRow) → place < length rows → drop place rows ≡ row ∷ drop (place + 1) rows
    → IsLookedAt model table w place row ended left ends ends' begins begins'
    → ((more : List ℕ) (later : List VRow) → AreEnds model table w place (length rows) ended (drop place rows) more later → AreEnds model table w 0 (length rows) first rows (ends ++ more) (begins ++ later))
    → (more : List ℕ) (later : List VRow) → AreEnds model table w (place + 1) (length rows) left (drop (place + 1) rows) more later → AreEnds model table w 0 (length rows) first rows (ends' ++ more) (begins' ++ later)
ends_more model table w place row rows first ended left ends ends' begins begins' below split looked on =
    past model table w place (length rows) row (drop (place + 1) rows) rows first ended left ends ends' begins begins' below
    (λ more later it. on more later (subst (λ (xs : List VRow). AreEnds model table w place (length rows) ended xs more later) (sym split) it)) looked

-- no row is left
pub ends_end : (model : Expr) (table : Table) (w : Write) (place : ℕ) (left rows : List VRow) (first ended ends : List ℕ) (begins : List VRow) → left ≡ []
    → ((more : List ℕ) (later : List VRow) → AreEnds model table w place (length rows) ended left more later → AreEnds model table w 0 (length rows) first rows (ends ++ more) (begins ++ later))
    → AreEnds model table w 0 (length rows) first rows ends begins
ends_end model table w place left rows first ended ends begins none on =
    let last : AreEnds model table w place (length rows) ended [] [] [] = record { written = written_none model table w; places = tt } in
    subst (λ (xs : List ℕ). AreEnds model table w 0 (length rows) first rows xs begins) (append-nil ends)
    (subst (λ (xs : List VRow). AreEnds model table w 0 (length rows) first rows (ends ++ []) xs) (append-nil begins)
    (on [] [] (subst (λ (xs : List VRow). AreEnds model table w place (length rows) ended xs [] []) (sym none) last)))
