-- Tables are put back one after the other, each after its change, and the list that contracts see changes with them.
use Rattle.std.proofs.Common.{◌≡◌, ℕ, zero, suc, ◌+◌, ◌<◌, ◌≤◌, ◌^◌, Bool, true, false, if◌then◌else◌, List, [], ◌∷◌, ◌++◌, length, map, filter, set, refl, sym, ◌∙◌, ap, ap₂, subst, arith}
use Rattle.std.specs.List.{AllByRecursion}
use Rattle.std.proofs.lemmas.List.{length-append, length-set, map-append, set_comm}
use Rattle.plan_tables.specs.declared.rows.TableRows.{TableRows}
use Rattle.row_versions.proofs.BlockedLaws.{IsAround, around, begun_marked, begun_newest, found_around, front_of, behind_of, marked_alike, marked_append, newest_append, parted, without_marked}
use Rattle.row_versions.proofs.HoldingLaws.{ended_none, here_all, marked_numbered}
use Rattle.row_versions.proofs.PartLaws.{left}
use Rattle.row_versions.specs.Changing.{AreWithin, changed}
use Rattle.row_versions.specs.Holdings.{AreEnded, AreMarked, AreTables, IsHolding, IsKept, all_newest, ended_row, held, newest_of, stored}
use Rattle.row_versions.specs.Marks.{begun_marks, end_row, is_end, marks_without, rows_ended}
use Rattle.row_versions.specs.Prepared.{IsPrepared, stored_back}
use Rattle.row_versions.specs.Stored.{Stored, columns_of}
use Rattle.row_versions.specs.Waiting.{HasRoom, HaveRoom, changes_of, ended_after, ends_count, marks_after, marks_back, table_after, table_of, tables_back}
use Rattle.row_versions.specs.declared.ended.EndedRow.{EndedRow}
use Rattle.row_versions.specs.declared.mark.Mark.{Mark}
use Rattle.row_versions.specs.declared.opened.Opened.{Opened}
use Rattle.table_changes.specs.Changes.{RiseFrom, rows_without}
use Rattle.table_changes.specs.declared.change.TableChange.{TableChange}
use Rattle.version_changes.proofs.BlockLaws.{IsChangedBlock, block_changed, lower_out}
use Rattle.version_changes.proofs.NumberLaws.{change_lower, change_numbered, changes_lower, changes_numbered, changes_placed}
use Rattle.version_changes.specs.Changes.{begun_count, ends_behind, with_change, with_changes}
use Rattle.version_lists.proofs.MoveLaws.{all_held}
use Rattle.version_lists.specs.Orders.{AreLower, in_order}
use Rattle.version_lists.specs.Versions.{AreNumbered, IsPlaced, Version, begun_versions, is_newest}
use Rattle.vtable.specs.declared.table.VColumn.{VColumn}
use Rattle.vtable.specs.declared.table.VRow.{VRow}

-- A table that isn't changed yet can be put back before or behind another one.

other_back : (low i : ℕ) (opened : List Opened) (tables : List TableRows) (one : TableRows) → i < low → RiseFrom low (changes_of opened) → tables_back opened (set tables i one) ≡ set (tables_back opened tables) i one
other_back low i [] tables one less rise = refl
other_back low i (o ∷ opened) tables one less rise =
    let a = rise.0 in
    ap (tables_back opened) (set_comm tables i o.change.table one (table_of o) (λ same. let e = same in let never : ⊥ = omega (arith, a, less, e) in never))
    ∙ other_back (o.change.table + 1) i opened (set tables o.change.table (table_of o)) one (omega (arith, a, less)) rise.1

marks_other : (low i : ℕ) (opened : List Opened) (marks : List (List Mark)) (one : List Mark) → i < low → RiseFrom low (changes_of opened) → marks_back opened (set marks i one) ≡ set (marks_back opened marks) i one
marks_other low i [] marks one less rise = refl
marks_other low i (o ∷ opened) marks one less rise =
    let a = rise.0 in
    ap (marks_back opened) (set_comm marks i o.change.table one o.newest.marks.items (λ same. let e = same in let never : ⊥ = omega (arith, a, less, e) in never))
    ∙ marks_other (o.change.table + 1) i opened (set marks o.change.table o.newest.marks.items) one (omega (arith, a, less)) rise.1

back_length : (opened : List Opened) (tables : List TableRows) → length (tables_back opened tables) ≡ length tables
back_length [] tables = refl
back_length (o ∷ opened) tables = back_length opened (set tables o.change.table (table_of o)) ∙ length-set tables o.change.table (table_of o)

marks_length : (opened : List Opened) (marks : List (List Mark)) → length (marks_back opened marks) ≡ length marks
marks_length [] marks = refl
marks_length (o ∷ opened) marks = marks_length opened (set marks o.change.table o.newest.marks.items) ∙ length-set marks o.change.table o.newest.marks.items

rise_low : (low least : ℕ) (changes : List TableChange) → least ≤ low → RiseFrom low changes → RiseFrom least changes
rise_low low least [] h rise = tt
rise_low low least (change ∷ changes) h rise = (let a = rise.0 in omega (arith, a, h), rise.1)

columns_set : (tables : List TableRows) (i : ℕ) (one other : TableRows) → one.rows.columns ≡ other.rows.columns → columns_of (set tables i one) ≡ columns_of (set tables i other)
columns_set [] i one other h = refl
columns_set (t ∷ tables) zero one other h = ap (λ c. c ∷ columns_of tables) h
columns_set (t ∷ tables) (suc i) one other h = ap (λ cs. t.rows.columns ∷ cs) (columns_set tables i one other h)

-- Rows that end are no more than the places, and all end with this commit.

few_ended : (k table place : ℕ) (ends : List ℕ) (marks : List Mark) (rows : List VRow) → length (rows_ended k table place ends marks rows) ≤ length ends
few_ended k table place ends [] rows = omega arith
few_ended k table place ends (mark ∷ marks) [] = omega arith
few_ended k table place ends (mark ∷ marks) (row ∷ rows) =
    few_by (rows_ended k table (place + 1) (ends_behind place ends) marks rows) (end_row k table mark row) (length ends) (is_end place ends)
    (let is = left place ends (end_row k table mark row) in is) (few_ended k table (place + 1) (ends_behind place ends) marks rows) where
      few_by : (gone : List EndedRow) (e : EndedRow) (count : ℕ) (b : Bool) → length (if b then e ∷ [] else []) + length (ends_behind place ends) ≡ count → length gone ≤ length (ends_behind place ends) → length (if b then e ∷ gone else gone) ≤ count
      few_by gone e count true is h = omega (arith, is, h)
      few_by gone e count false is h = omega (arith, is, h)

abbrev EndUpTo : ℕ → List EndedRow → Type 0
EndUpTo k [] = Unit {0}
EndUpTo k (e ∷ ended) = (e.ends ≤ k) × EndUpTo k ended

abbrev EndWith : ℕ → List EndedRow → Type 0
EndWith k [] = Unit {0}
EndWith k (e ∷ ended) = (e.ends ≡ k) × EndWith k ended

with_by : (k : ℕ) (e : EndedRow) (gone : List EndedRow) (b : Bool) → e.ends ≡ k → EndWith k gone → EndWith k (if b then e ∷ gone else gone)
with_by k e gone true is h = (is, h)
with_by k e gone false is h = h

all_with : (k table place : ℕ) (ends : List ℕ) (marks : List Mark) (rows : List VRow) → EndWith k (rows_ended k table place ends marks rows)
all_with k table place ends [] rows = tt
all_with k table place ends (mark ∷ marks) [] = tt
all_with k table place ends (mark ∷ marks) (row ∷ rows) =
    with_by k (end_row k table mark row) (rows_ended k table (place + 1) (ends_behind place ends) marks rows) (is_end place ends) refl (all_with k table (place + 1) (ends_behind place ends) marks rows)

with_ended : (low k : ℕ) (gone : List EndedRow) → low ≤ k → EndWith k gone → AreEnded low gone
with_ended low k [] h all = tt
with_ended low k (e ∷ gone) h all = let is = all.0 in (omega (arith, h, is), with_ended e.ends k gone (omega (arith, is)) all.1)

turn_append : (low k : ℕ) (ended gone : List EndedRow) → low ≤ k → AreEnded low ended → EndUpTo k ended → EndWith k gone → AreEnded low (ended ++ gone)
turn_append low k [] gone h turn up all = with_ended low k gone h all
turn_append low k (e ∷ ended) gone h turn up all = (turn.0, turn_append e.ends k ended gone up.0 turn.1 up.1 all)

up_append : (k : ℕ) (ended gone : List EndedRow) → EndUpTo k ended → EndWith k gone → EndUpTo k (ended ++ gone)
up_append k [] [] h all = tt
up_append k [] (e ∷ gone) h all = let is = all.0 in (omega (arith, is), up_append k [] gone tt all.1)
up_append k (e ∷ ended) gone h all = (h.0, up_append k ended gone h.1 all)

lower_split : (high : ℕ) (one other : List Version) → AreLower high (one ++ other) → AreLower high one × AreLower high other
lower_split high [] other h = (tt, h)
lower_split high (v ∷ one) other h = let rest = lower_split high one other h.1 in ((h.0, rest.0), rest.1)

-- One table.

abbrev with_rows : ℕ → List VColumn → List VRow → TableRows
with_rows number columns rows = record { table = number; rows = record { columns = columns; rows = rows } }

abbrev rows_then : TableChange → List VRow → List VRow
rows_then change rows = rows_without 0 change.ends rows ++ change.begun

abbrev marks_then : ℕ → ℕ → TableChange → List Mark → List Mark
marks_then k next change own = marks_without 0 change.ends own ++ begun_marks next k change.begun

-- what its change makes of the table with this number
record IsOneChanged (k next number : ℕ) (change : TableChange) (columns : List VColumn) (own : List Mark) (rows : List VRow) (ended : List EndedRow) (marks : List (List Mark)) (tables : List TableRows) : Type 0 where
  same : in_order (held (ended ++ rows_ended k number 0 change.ends own rows) (set marks change.table (marks_then k next change own)) (set tables change.table (with_rows number columns (rows_then change rows))))
      ≡ with_change k next change (in_order (held ended (set marks change.table own) (set tables change.table (with_rows number columns rows))))
  are : AreTables 0 (set marks change.table (marks_then k next change own)) (set tables change.table (with_rows number columns (rows_then change rows)))

none_more : (n : ℕ) → 0 + n ≡ n
none_more n = omega arith

module _ (k next : ℕ) (change : TableChange) (columns : List VColumn) (own : List Mark) (rows : List VRow) (ended : List EndedRow) (marks : List (List Mark)) (tables : List TableRows)
    (less : change.table < length marks) (within : change.table < length tables)
    (is : IsAround 0 change.table marks tables own (with_rows change.table columns rows))
    (numbered : AreNumbered 0 (in_order (held ended (set marks change.table own) (set tables change.table (with_rows change.table columns rows)))))
    (lower : AreLower next (in_order (held ended (set marks change.table own) (set tables change.table (with_rows change.table columns rows))))) where
  held_before : held ended (set marks change.table own) (set tables change.table (with_rows change.table columns rows))
      ≡ map ended_row ended ++ (front_of change.table marks tables ++ (newest_of change.table own rows ++ behind_of change.table marks tables))
  held_before = ap (λ xs. map ended_row ended ++ xs) (around change.table marks tables own (with_rows change.table columns rows) less within)

  block : IsChangedBlock change.table k change.ends (map ended_row ended) (front_of change.table marks tables) (newest_of change.table own rows) (behind_of change.table marks tables)
      (map ended_row (rows_ended k change.table 0 change.ends own rows)) (newest_of change.table (marks_without 0 change.ends own) (rows_without 0 change.ends rows))
  block = record {
    none_ended = ended_none change.table ended;
    none_front = subst (λ n. filter (is_newest n) (front_of change.table marks tables) ≡ []) (none_more change.table) is.none_front;
    none_behind = subst (λ n. filter (is_newest n) (behind_of change.table marks tables) ≡ []) (none_more change.table) is.none_behind;
    numbered = subst (AreNumbered 0) (sym (here_all change.table own rows)) (marked_numbered 0 change.table own rows is.marked);
    moved = parted k change.table 0 change.ends own rows (marked_alike 0 own rows is.marked);
  }

  numbered_before : AreNumbered 0 (in_order (map ended_row ended ++ (front_of change.table marks tables ++ (newest_of change.table own rows ++ behind_of change.table marks tables))))
  numbered_before = subst (λ xs. AreNumbered 0 (in_order xs)) held_before numbered

  lower_before : AreLower next (in_order (map ended_row ended ++ (front_of change.table marks tables ++ (newest_of change.table own rows ++ behind_of change.table marks tables))))
  lower_before = subst (λ xs. AreLower next (in_order xs)) held_before lower

  stay_marked : AreMarked 0 (marks_without 0 change.ends own) (rows_without 0 change.ends rows)
  stay_marked = without_marked 0 0 change.ends own rows is.marked

  newest_then : newest_of change.table (marks_then k next change own) (rows_then change rows)
      ≡ newest_of change.table (marks_without 0 change.ends own) (rows_without 0 change.ends rows) ++ begun_versions next k change.table change.begun
  newest_then =
      newest_append 0 change.table (marks_without 0 change.ends own) (begun_marks next k change.begun) (rows_without 0 change.ends rows) change.begun stay_marked
      ∙ ap (λ xs. newest_of change.table (marks_without 0 change.ends own) (rows_without 0 change.ends rows) ++ xs) (begun_newest change.table next k change.begun)

  held_after : held (ended ++ rows_ended k change.table 0 change.ends own rows) (set marks change.table (marks_then k next change own)) (set tables change.table (with_rows change.table columns (rows_then change rows)))
      ≡ (map ended_row ended ++ map ended_row (rows_ended k change.table 0 change.ends own rows))
      ++ (front_of change.table marks tables ++ ((newest_of change.table (marks_without 0 change.ends own) (rows_without 0 change.ends rows) ++ begun_versions next k change.table change.begun) ++ behind_of change.table marks tables))
  held_after =
      ap₂ (λ xs ys. xs ++ ys) (map-append ended_row ended (rows_ended k change.table 0 change.ends own rows))
      (around change.table marks tables (marks_then k next change own) (with_rows change.table columns (rows_then change rows)) less within
      ∙ ap (λ xs. front_of change.table marks tables ++ (xs ++ behind_of change.table marks tables)) newest_then)

  stay_lower : AreLower next (newest_of change.table (marks_without 0 change.ends own) (rows_without 0 change.ends rows))
  stay_lower =
      let gone : List Version = map ended_row (rows_ended k change.table 0 change.ends own rows) in
      let front : List Version = front_of change.table marks tables in
      let stay : List Version = newest_of change.table (marks_without 0 change.ends own) (rows_without 0 change.ends rows) in
      let behind : List Version = behind_of change.table marks tables in
      let all = lower_out k next change (map ended_row ended) front (newest_of change.table own rows) behind gone stay block numbered_before lower_before in
      (lower_split next stay behind (lower_split next front (stay ++ behind) (lower_split next gone (front ++ (stay ++ behind)) (lower_split next (map ended_row ended) (gone ++ (front ++ (stay ++ behind))) all).1).1).1).0

  one_changed : IsOneChanged k next change.table change columns own rows ended marks tables
  one_changed = record {
    same = ap in_order held_after
        ∙ block_changed k next change (map ended_row ended) (front_of change.table marks tables) (newest_of change.table own rows) (behind_of change.table marks tables)
        (map ended_row (rows_ended k change.table 0 change.ends own rows)) (newest_of change.table (marks_without 0 change.ends own) (rows_without 0 change.ends rows)) block numbered_before lower_before
        ∙ ap (λ xs. with_change k next change (in_order xs)) (sym held_before);
    are = is.put (marks_then k next change own) (with_rows change.table columns (rows_then change rows)) (sym (none_more change.table))
        (marked_append 0 next change.table (marks_without 0 change.ends own) (begun_marks next k change.begun) (rows_without 0 change.ends rows) change.begun (omega arith) stay_marked stay_lower
        (λ least le. begun_marked least next k change.begun le));
  }

one_by : (k next number : ℕ) (change : TableChange) (columns : List VColumn) (own : List Mark) (rows : List VRow) (ended : List EndedRow) (marks : List (List Mark)) (tables : List TableRows)
    → number ≡ change.table → change.table < length marks → change.table < length tables
    → IsAround 0 change.table marks tables own (with_rows number columns rows)
    → AreNumbered 0 (in_order (held ended (set marks change.table own) (set tables change.table (with_rows number columns rows))))
    → AreLower next (in_order (held ended (set marks change.table own) (set tables change.table (with_rows number columns rows))))
    → IsOneChanged k next number change columns own rows ended marks tables
one_by k next number change columns own rows ended marks tables same less within is numbered lower =
    subst (λ n. IsOneChanged k next n change columns own rows ended marks tables) (sym same)
    (one_changed k next change columns own rows ended marks tables less within
    (subst (λ n. IsAround 0 change.table marks tables own (with_rows n columns rows)) same is)
    (subst (λ n. AreNumbered 0 (in_order (held ended (set marks change.table own) (set tables change.table (with_rows n columns rows))))) same numbered)
    (subst (λ n. AreLower next (in_order (held ended (set marks change.table own) (set tables change.table (with_rows n columns rows))))) same lower))

taken_changed : (k next : ℕ) (one : Opened) (ended : List EndedRow) (marks : List (List Mark)) (tables : List TableRows) → one.change.table < length marks → one.change.table < length tables
    → AreTables 0 (set marks one.change.table one.newest.marks.items) (set tables one.change.table (table_of one))
    → AreNumbered 0 (in_order (held ended (set marks one.change.table one.newest.marks.items) (set tables one.change.table (table_of one))))
    → AreLower next (in_order (held ended (set marks one.change.table one.newest.marks.items) (set tables one.change.table (table_of one))))
    → IsOneChanged k next one.number one.change one.columns one.newest.marks.items one.newest.rows.items ended marks tables
taken_changed k next one ended marks tables less within are numbered lower =
    let is = found_around 0 one.change.table marks tables one.newest.marks.items (table_of one) less within are in
    one_by k next one.number one.change one.columns one.newest.marks.items one.newest.rows.items ended marks tables (is.number ∙ none_more one.change.table) less within is numbered lower

-- All tables: while they are put back, the changes that are left, made of what is held so far, give what all give.
pub record IsChanging (k : ℕ) (opened : List Opened) (ended : List EndedRow) (marks : List (List Mark)) (tables : List TableRows) (next ended_room : ℕ) (versions : List Version) (last : ℕ) (columns : List (List VColumn)) : Type 0 where
  pub same : with_changes k next (changes_of opened) (in_order (held ended (marks_back opened marks) (tables_back opened tables))) ≡ versions
  pub behind : next + begun_count (changes_of opened) ≡ last
  pub columns_same : columns_of (tables_back opened tables) ≡ columns
  pub numbered : AreNumbered 0 (in_order (held ended (marks_back opened marks) (tables_back opened tables)))
  pub lower : AreLower next (in_order (held ended (marks_back opened marks) (tables_back opened tables)))
  pub in_turn : AreEnded 0 ended
  pub up_to : EndUpTo k ended
  pub marked : AreTables 0 (marks_back opened marks) (tables_back opened tables)
  pub rising : RiseFrom 0 (changes_of opened)
  pub within : AreWithin (length tables) (changes_of opened)
  pub many : length marks ≡ length tables
  pub room : HaveRoom opened
  pub ended_fit : length ended + ends_count (changes_of opened) ≤ ended_room
  pub fits : last < 2 ^ 64

columns_back : (low i : ℕ) (opened : List Opened) (tables : List TableRows) (one other : TableRows) → i < low → RiseFrom low (changes_of opened) → one.rows.columns ≡ other.rows.columns
    → columns_of (tables_back opened (set tables i one)) ≡ columns_of (tables_back opened (set tables i other))
columns_back low i opened tables one other less rise h =
    ap columns_of (other_back low i opened tables one less rise) ∙ columns_set (tables_back opened tables) i one other h ∙ ap columns_of (sym (other_back low i opened tables other less rise))

pub changing_next : (k : ℕ) (one : Opened) (opened : List Opened) (ended : List EndedRow) (marks : List (List Mark)) (tables : List TableRows) (next ended_room : ℕ) (versions : List Version) (last : ℕ) (columns : List (List VColumn))
    → IsChanging k (one ∷ opened) ended marks tables next ended_room versions last columns
    → IsChanging k opened (ended ++ ended_after k one) (set marks one.change.table (marks_after k next one)) (set tables one.change.table (table_after one)) (next + length one.change.begun) ended_room versions last columns
changing_next k one opened ended marks tables next ended_room versions last columns h =
    let i : ℕ = one.change.table in
    let own : List Mark = one.newest.marks.items in
    let others : List (List Mark) = marks_back opened marks in
    let rest : List TableRows = tables_back opened tables in
    let after : List Mark = marks_after k next one in
    let rise : RiseFrom (i + 1) (changes_of opened) = h.rising.1 in
    let here : i < i + 1 = omega arith in
    let marks_is : marks_back opened (set marks i own) ≡ set others i own = marks_other (i + 1) i opened marks own here rise in
    let tables_is : tables_back opened (set tables i (table_of one)) ≡ set rest i (table_of one) = other_back (i + 1) i opened tables (table_of one) here rise in
    let marks_then_is : marks_back opened (set marks i after) ≡ set others i after = marks_other (i + 1) i opened marks after here rise in
    let tables_then_is : tables_back opened (set tables i (table_after one)) ≡ set rest i (table_after one) = other_back (i + 1) i opened tables (table_after one) here rise in
    let within : i < length rest = subst (λ n. i < n) (sym (back_length opened tables)) h.within.0 in
    let less : i < length others = subst (λ n. i < n) (sym (marks_length opened marks ∙ h.many)) h.within.0 in
    let before : held ended (marks_back opened (set marks i own)) (tables_back opened (set tables i (table_of one))) ≡ held ended (set others i own) (set rest i (table_of one)) = ap₂ (λ ms ts. held ended ms ts) marks_is tables_is in
    let later : held (ended ++ ended_after k one) (marks_back opened (set marks i after)) (tables_back opened (set tables i (table_after one))) ≡ held (ended ++ ended_after k one) (set others i after) (set rest i (table_after one)) =
    ap₂ (λ ms ts. held (ended ++ ended_after k one) ms ts) marks_then_is tables_then_is in
    let it = taken_changed k next one ended others rest less within
    (subst (λ ms. AreTables 0 ms (set rest i (table_of one))) marks_is (subst (AreTables 0 (marks_back opened (set marks i own))) tables_is h.marked))
    (subst (λ xs. AreNumbered 0 (in_order xs)) before h.numbered) (subst (λ xs. AreLower next (in_order xs)) before h.lower) in
    let same : in_order (held (ended ++ ended_after k one) (marks_back opened (set marks i after)) (tables_back opened (set tables i (table_after one))))
    ≡ with_change k next one.change (in_order (held ended (marks_back opened (set marks i own)) (tables_back opened (set tables i (table_of one))))) =
    ap in_order later ∙ it.same ∙ ap (λ xs. with_change k next one.change (in_order xs)) (sym before) in
    let gone = few_ended k one.number 0 one.change.ends own one.newest.rows.items in
    let many = length-append ended (ended_after k one) in
    let fit = h.ended_fit in
    let behind = h.behind in
    record {
      same = ap (with_changes k (next + length one.change.begun) (changes_of opened)) same ∙ h.same;
      behind = sym (plus next (length one.change.begun) (begun_count (changes_of opened))) ∙ behind;
      columns_same = columns_back (i + 1) i opened tables (table_after one) (table_of one) here rise refl ∙ h.columns_same;
      numbered = subst (AreNumbered 0) (sym same) (change_numbered k next one.change (in_order (held ended (marks_back opened (set marks i own)) (tables_back opened (set tables i (table_of one))))) h.numbered h.lower);
      lower = subst (AreLower (next + length one.change.begun)) (sym same) (change_lower k next one.change (in_order (held ended (marks_back opened (set marks i own)) (tables_back opened (set tables i (table_of one))))) h.lower);
      in_turn = turn_append 0 k ended (ended_after k one) (omega arith) h.in_turn h.up_to (all_with k one.number 0 one.change.ends own one.newest.rows.items);
      up_to = up_append k ended (ended_after k one) h.up_to (all_with k one.number 0 one.change.ends own one.newest.rows.items);
      marked = subst (λ ms. AreTables 0 ms (tables_back opened (set tables i (table_after one)))) (sym marks_then_is) (subst (AreTables 0 (set others i after)) (sym tables_then_is) it.are);
      rising = rise_low (i + 1) 0 (changes_of opened) (omega arith) rise;
      within = subst (λ n. AreWithin n (changes_of opened)) (sym (length-set tables i (table_after one))) h.within.1;
      many = length-set marks i after ∙ h.many ∙ sym (length-set tables i (table_after one));
      room = h.room.1;
      ended_fit = omega (arith, gone, many, fit);
      fits = h.fits;
    } where
      plus : (a b c : ℕ) → a + (b + c) ≡ a + b + c
      plus a b c = omega arith

-- what a table's change asks for
pub record IsNext (one : Opened) (ended : List EndedRow) (marks : List (List Mark)) (tables : List TableRows) (next ended_room : ℕ) : Type 0 where
  pub place : one.change.table < length tables
  pub marks_place : one.change.table < length marks
  pub room : HasRoom one
  pub ended_fit : length ended + length one.change.ends ≤ ended_room
  pub fits : next + length one.change.begun < 2 ^ 64

pub changing_asks : (k : ℕ) (one : Opened) (opened : List Opened) (ended : List EndedRow) (marks : List (List Mark)) (tables : List TableRows) (next ended_room : ℕ) (versions : List Version) (last : ℕ) (columns : List (List VColumn))
    → IsChanging k (one ∷ opened) ended marks tables next ended_room versions last columns → IsNext one ended marks tables next ended_room
changing_asks k one opened ended marks tables next ended_room versions last columns h =
    let fit = h.ended_fit in
    let behind = h.behind in
    let fits = h.fits in
    record {
      place = h.within.0;
      marks_place = subst (λ n. one.change.table < n) (sym h.many) h.within.0;
      room = h.room.0;
      ended_fit = omega (arith, fit);
      fits = omega (arith, behind, fits);
    }

-- at first

up_of : (applied : ℕ) (ended : List EndedRow) (others : List Version) → AllByRecursion (IsPlaced applied) (map ended_row ended ++ others) → EndUpTo (applied + 1) ended
up_of applied [] others h = tt
up_of applied (e ∷ ended) others h = (let a = h.0.1 in omega (arith, a), up_of applied ended others h.1)

pub changing_first : (opened : List Opened) (ended : List EndedRow) (marks : List (List Mark)) (tables : List TableRows) (next applied ended_room : ℕ) → IsPrepared opened ended marks tables next applied ended_room
    → IsChanging (applied + 1) opened ended marks tables next ended_room (changed (changes_of opened) (stored_back opened ended marks tables next applied)).versions
    (changed (changes_of opened) (stored_back opened ended marks tables next applied)).next (changed (changes_of opened) (stored_back opened ended marks tables next applied)).columns
changing_first opened ended marks tables next applied ended_room h = record {
  same = refl;
  behind = refl;
  columns_same = refl;
  numbered = h.holding.kept.numbered;
  lower = h.holding.kept.lower;
  in_turn = h.holding.in_turn;
  up_to = up_of applied ended (all_newest (marks_back opened marks) (tables_back opened tables))
      (all_held (IsPlaced applied) (held ended (marks_back opened marks) (tables_back opened tables)) h.holding.kept.placed);
  marked = h.holding.marked;
  rising = h.rising;
  within = h.within;
  many = h.many;
  room = h.room;
  ended_fit = h.ended_fit;
  fits = h.numbers;
}

-- at last

pub changed_kept : (changes : List TableChange) (old : Stored) → RiseFrom 0 changes → IsKept old → IsKept (changed changes old)
changed_kept changes old rise h = record {
  numbered = changes_numbered (old.applied + 1) old.next changes old.versions h.numbered h.lower;
  lower = changes_lower (old.applied + 1) old.next changes old.versions h.lower;
  placed = changes_placed old.applied old.next changes old.versions rise h.placed;
}

pub changing_last : (k : ℕ) (opened : List Opened) (ended : List EndedRow) (marks : List (List Mark)) (tables : List TableRows) (next ended_room : ℕ) (versions : List Version) (last : ℕ) (columns : List (List VColumn))
    → opened ≡ [] → IsChanging k opened ended marks tables next ended_room versions last columns
    → stored ended marks tables next k ≡ record { columns = columns; versions = versions; next = last; applied = k }
changing_last k opened ended marks tables next ended_room versions last columns none h =
    let it : IsChanging k [] ended marks tables next ended_room versions last columns = subst (λ os. IsChanging k os ended marks tables next ended_room versions last columns) none h in
    ap (λ cs. stored_as cs (in_order (held ended marks tables)) next) it.columns_same ∙ ap (λ vs. stored_as columns vs next) it.same ∙ ap (stored_as columns versions) (plus_none next ∙ it.behind) where
      stored_as : List (List VColumn) → List Version → ℕ → Stored
      stored_as columns versions next = record { columns = columns; versions = versions; next = next; applied = k }

      plus_none : (n : ℕ) → n ≡ n + 0
      plus_none n = omega arith

pub changing_held : (k : ℕ) (opened : List Opened) (ended : List EndedRow) (marks : List (List Mark)) (tables : List TableRows) (next ended_room : ℕ) (versions : List Version) (last : ℕ) (columns : List (List VColumn))
    → opened ≡ [] → IsChanging k opened ended marks tables next ended_room versions last columns
    → IsKept (record { columns = columns; versions = versions; next = last; applied = k }) → IsHolding ended marks tables next k
changing_held k opened ended marks tables next ended_room versions last columns none h kept =
    let it : IsChanging k [] ended marks tables next ended_room versions last columns = subst (λ os. IsChanging k os ended marks tables next ended_room versions last columns) none h in
    record {
      kept = subst IsKept (sym (changing_last k opened ended marks tables next ended_room versions last columns none h)) kept;
      in_turn = it.in_turn;
      marked = it.marked;
    }

pub changing_step : (k : ℕ) (one : Opened) (before opened : List Opened) (ended ended_new : List EndedRow) (marks marks_new : List (List Mark)) (tables tables_new : List TableRows) (next next_new ended_room : ℕ) (versions : List Version) (last : ℕ)
    (columns : List (List VColumn)) → IsChanging k before ended marks tables next ended_room versions last columns → before ≡ one ∷ opened
    → ended_new ≡ ended ++ ended_after k one → marks_new ≡ set marks one.change.table (marks_after k next one) → tables_new ≡ set tables one.change.table (table_after one) → next_new ≡ next + length one.change.begun
    → IsChanging k opened ended_new marks_new tables_new next_new ended_room versions last columns
changing_step k one before opened ended ended_new marks marks_new tables tables_new next next_new ended_room versions last columns h before_is ended_is marks_is tables_is next_is =
    subst (λ xs. IsChanging k opened xs marks_new tables_new next_new ended_room versions last columns) (sym ended_is)
    (subst (λ xs. IsChanging k opened (ended ++ ended_after k one) xs tables_new next_new ended_room versions last columns) (sym marks_is)
    (subst (λ xs. IsChanging k opened (ended ++ ended_after k one) (set marks one.change.table (marks_after k next one)) xs next_new ended_room versions last columns) (sym tables_is)
    (subst (λ n. IsChanging k opened (ended ++ ended_after k one) (set marks one.change.table (marks_after k next one)) (set tables one.change.table (table_after one)) n ended_room versions last columns) (sym next_is)
    (changing_next k one opened ended marks tables next ended_room versions last columns (subst (λ os. IsChanging k os ended marks tables next ended_room versions last columns) before_is h)))))
