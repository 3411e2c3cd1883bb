-- One change of each table: the rows of a table are those after the change at its number.
use Rattle.std.proofs.Common.{◌≡◌, ℕ, zero, suc, ◌+◌, ◌==◌, ◌≤◌, Bool, true, false, not, if◌then◌else◌, List, [], ◌∷◌, ◌++◌, length, map, filter, set, Option, Some, None, slice_get, refl, sym, ◌∙◌, ap, subst, arith, rules, append-nil, append_assoc}
use Rattle.std.proofs.lemmas.Bool.Decides.{nat_tests}
use Rattle.std.proofs.lemmas.Bool.{and_parts}
use Rattle.std.proofs.lemmas.List.{nil_from_length}
use Rattle.std.proofs.lemmas.Option.{same_Some}
use Rattle.commit_changes.proofs.PlaceLaws.{none_without}
use Rattle.commit_changes.specs.Stored.{AreOfTables, ArePending, AreStored, IsOfTable, is_idle, no_change}
use Rattle.plan_tables.specs.declared.rows.TableRows.{TableRows}
use Rattle.table_changes.specs.Changes.{ArePlaces, RiseFrom, after_change, after_changes, rows_without}
use Rattle.table_changes.specs.declared.change.TableChange.{TableChange}
use Rattle.vschema.specs.declared.catalog.Table.{Table}
use Rattle.vtable.specs.declared.table.VRow.{VRow}

-- Before the first write.

pub idle_pending : (number : ℕ) (tables : List Table) (newest : List TableRows) → AreStored number tables newest → ArePending number newest (map no_change newest)
idle_pending number [] [] h = tt
idle_pending number [] (rows ∷ newest) h = absurd h
idle_pending number (table ∷ tables) [] h = absurd h
idle_pending number (table ∷ tables) (rows ∷ newest) h = (h.0, tt, idle_pending (number + 1) tables newest h.2)

nothing_done : (rows : List VRow) → rows_without 0 [] rows ++ [] ≡ rows
nothing_done rows = append-nil (rows_without 0 [] rows) ∙ none_without 0 rows

same_by : (b : Bool) (one other rows : List VRow) → one ≡ rows → other ≡ rows → (if b then one else other) ≡ rows
same_by true one other rows this that = this
same_by false one other rows this that = that

pub idle_after : (number : ℕ) (newest : List TableRows) (rows : List VRow) → after_changes number (map no_change newest) rows ≡ rows
idle_after number [] rows = refl
idle_after number (it ∷ newest) rows = same_by (it.table == number) (rows_without 0 [] rows ++ []) (after_changes number (map no_change newest) rows) rows (nothing_done rows) (idle_after number newest rows)

-- The change at a number.

abbrev pub after_slot : Option TableChange → List VRow → List VRow
after_slot None rows = rows
after_slot (Some change) rows = after_change change rows

here : (a b : ℕ) → a ≡ b → (a == b + 0) ≡ true
here a b h = grind (arith, nat_tests)

past : (a b k : ℕ) → a ≡ b → (a == b + suc k) ≡ false
past a b k h = grind (arith, nat_tests)

next : (a k : ℕ) → (a + 1) + k ≡ a + suc k
next a k = omega arith

pub slot_after : (low k : ℕ) (newest : List TableRows) (pending : List TableChange) (rows : List VRow) → ArePending low newest pending → after_changes (low + k) pending rows ≡ after_slot (slice_get pending k) rows
slot_after low k [] [] rows h = refl
slot_after low k [] (change ∷ pending) rows h = absurd h
slot_after low k (it ∷ newest) [] rows h = absurd h
slot_after low zero (it ∷ newest) (change ∷ pending) rows h =
    ap (λ (b : Bool). if b then after_change change rows else after_changes (low + 0) pending rows) (here change.table low h.0)
slot_after low (suc k) (it ∷ newest) (change ∷ pending) rows h =
    ap (λ (b : Bool). if b then after_change change rows else after_changes (low + suc k) pending rows) (past change.table low k h.0)
    ∙ ap (λ (n : ℕ). after_changes n pending rows) (sym (next low k))
    ∙ slot_after (low + 1) k newest pending rows h.2

pub set_pending : (low k : ℕ) (newest : List TableRows) (pending : List TableChange) (old new : TableChange) → ArePending low newest pending → slice_get pending k ≡ Some old → new.table ≡ old.table
    → ((it : TableRows) → slice_get newest k ≡ Some it → ArePlaces 0 (length it.rows.rows) old.ends → ArePlaces 0 (length it.rows.rows) new.ends) → ArePending low newest (set pending k new)
set_pending low k [] [] old new h found same places = tt
set_pending low k [] (change ∷ pending) old new h found same places = absurd h
set_pending low k (it ∷ newest) [] old new h found same places = absurd h
set_pending low zero (it ∷ newest) (change ∷ pending) old new h found same places =
    let e : change ≡ old = same_Some change old found in
    (same ∙ ap (λ (c : TableChange). c.table) (sym e) ∙ h.0, places it refl (subst (λ (c : TableChange). ArePlaces 0 (length it.rows.rows) c.ends) e h.1), h.2)
set_pending low (suc k) (it ∷ newest) (change ∷ pending) old new h found same places =
    (h.0, h.1, set_pending (low + 1) k newest pending old new h.2 found same places)

pub get_set : (pending : List TableChange) (k : ℕ) (old new : TableChange) → slice_get pending k ≡ Some old → slice_get (set pending k new) k ≡ Some new
get_set [] k old new h = search (rules, h)
get_set (change ∷ pending) zero old new h = refl
get_set (change ∷ pending) (suc k) old new h = get_set pending k old new h

pub get_other : (pending : List TableChange) (k j : ℕ) (new : TableChange) → (k ≡ j → ⊥) → slice_get (set pending k new) j ≡ slice_get pending j
get_other [] k j new apart = refl
get_other (change ∷ pending) zero zero new apart = absurd (apart refl)
get_other (change ∷ pending) zero (suc j) new apart = refl
get_other (change ∷ pending) (suc k) zero new apart = refl
get_other (change ∷ pending) (suc k) (suc j) new apart = get_other pending k j new (λ same. apart (ap suc same))

-- Without the changes that change nothing.

abbrev pub busy : List TableChange → List TableChange
busy changes = filter (λ (change : TableChange). not (is_idle change)) changes

at_least : (a b : ℕ) → b ≡ a → a ≤ b
at_least a b h = omega arith

pub pending_rises : (low : ℕ) (newest : List TableRows) (pending : List TableChange) → ArePending low newest pending → RiseFrom low pending
pending_rises low [] [] h = tt
pending_rises low [] (change ∷ pending) h = absurd h
pending_rises low (it ∷ newest) [] h = absurd h
pending_rises low (it ∷ newest) (change ∷ pending) h = (at_least low change.table h.0, subst (λ (n : ℕ). RiseFrom (n + 1) pending) (sym h.0) (pending_rises (low + 1) newest pending h.2))

le : (a b c : ℕ) → a ≤ b → b ≤ c → a ≤ c
le a b c x y = omega arith

rise_lower : (low high : ℕ) (changes : List TableChange) → low ≤ high → RiseFrom high changes → RiseFrom low changes
rise_lower low high [] below h = tt
rise_lower low high (change ∷ changes) below h = (le low high change.table below h.0, h.1)

up : (a b : ℕ) → a ≤ b → a ≤ b + 1
up a b x = omega arith

rise_by : (low : ℕ) (change : TableChange) (rest : List TableChange) (b : Bool) → low ≤ change.table → RiseFrom (change.table + 1) rest → RiseFrom low (if not b then change ∷ rest else rest)
rise_by low change rest true below h = rise_lower low (change.table + 1) rest (up low change.table below) h
rise_by low change rest false below h = (below, h)

pub busy_rises : (low : ℕ) (changes : List TableChange) → RiseFrom low changes → RiseFrom low (busy changes)
busy_rises low [] h = tt
busy_rises low (change ∷ changes) h = rise_by low change (busy changes) (is_idle change) h.0 (busy_rises (change.table + 1) changes h.1)

-- no change of the table
other_test : (a b : ℕ) → b + 1 ≤ a → (a == b) ≡ false
other_test a b h = grind (arith, nat_tests)

over : (n l t : ℕ) → n + 1 ≤ l → l ≤ t → n + 1 ≤ t
over n l t x y = omega arith

more : (n l t : ℕ) → n + 1 ≤ l → l ≤ t → n + 1 ≤ t + 1
more n l t x y = omega arith

none_of : (number low : ℕ) (changes : List TableChange) (rows : List VRow) → number + 1 ≤ low → RiseFrom low changes → after_changes number changes rows ≡ rows
none_of number low [] rows above h = refl
none_of number low (change ∷ changes) rows above h =
    ap (λ (b : Bool). if b then after_change change rows else after_changes number changes rows) (other_test change.table number (over number low change.table above h.0))
    ∙ none_of number (change.table + 1) changes rows (more number low change.table above h.0) h.1

zero_is : (n : ℕ) → (n == 0) ≡ true → n ≡ 0
zero_is n h = grind (arith, nat_tests)

idle_nothing : (change : TableChange) (rows : List VRow) → is_idle change ≡ true → after_change change rows ≡ rows
idle_nothing change rows h =
    let both = and_parts (length change.ends == 0) (length change.begun == 0) h in
    let ends : change.ends ≡ [] = nil_from_length change.ends (zero_is (length change.ends) both.0) in
    let begun : change.begun ≡ [] = nil_from_length change.begun (zero_is (length change.begun) both.1) in
    ap (λ (places : List ℕ). rows_without 0 places rows ++ change.begun) ends
    ∙ ap (λ (xs : List VRow). rows_without 0 [] rows ++ xs) begun
    ∙ nothing_done rows

not_past : (t n : ℕ) → (t == n) ≡ true → n + 1 ≤ t + 1
not_past t n h = grind (arith, nat_tests)

-- an idle change in front
idle_front : (number : ℕ) (change : TableChange) (rest : List TableChange) (rows : List VRow) (b : Bool) → is_idle change ≡ true → RiseFrom (change.table + 1) rest → (change.table == number) ≡ b
    → after_changes number rest rows ≡ (if b then after_change change rows else after_changes number rest rows)
idle_front number change rest rows true idle rises is =
    none_of number (change.table + 1) rest rows (not_past change.table number is) rises ∙ sym (idle_nothing change rows idle)
idle_front number change rest rows false idle rises is = refl

busy_by : (number : ℕ) (change : TableChange) (rest all : List TableChange) (rows : List VRow) (b : Bool) → is_idle change ≡ b → RiseFrom (change.table + 1) all
    → after_changes number rest rows ≡ after_changes number all rows → after_changes number (if not b then change ∷ rest else rest) rows ≡ after_changes number (change ∷ all) rows
busy_by number change rest all rows true idle rises same = same ∙ idle_front number change all rows (change.table == number) idle rises refl
busy_by number change rest all rows false idle rises same = ap (λ (xs : List VRow). if change.table == number then after_change change rows else xs) same

pub busy_after : (number low : ℕ) (changes : List TableChange) (rows : List VRow) → RiseFrom low changes → after_changes number (busy changes) rows ≡ after_changes number changes rows
busy_after number low [] rows h = refl
busy_after number low (change ∷ changes) rows h =
    busy_by number change (busy changes) changes rows (is_idle change) refl h.1 (busy_after number (change.table + 1) changes rows h.1)

-- Each is the change of a table.

at_end : (front : List TableRows) (it : TableRows) (rest : List TableRows) → slice_get (front ++ it ∷ rest) (length front) ≡ Some it
at_end [] it rest = refl
at_end (one ∷ front) it rest = at_end front it rest

length_append : (front : List TableRows) (it : TableRows) → length (front ++ it ∷ []) ≡ suc (length front)
length_append [] it = refl
length_append (one ∷ front) it = ap suc (length_append front it)

longer : (front : List TableRows) (it : TableRows) → length (front ++ it ∷ []) ≡ length front + 1
longer front it = let e = length_append front it in omega (arith, e)

pub pending_changes : (front newest : List TableRows) (pending : List TableChange) → ArePending (length front) newest pending → AreOfTables (front ++ newest) pending
pending_changes front [] [] h = tt
pending_changes front [] (change ∷ pending) h = absurd h
pending_changes front (it ∷ newest) [] h = absurd h
pending_changes front (it ∷ newest) (change ∷ pending) h = (
  record { rows = it; named = ap (λ (n : ℕ). slice_get (front ++ it ∷ newest) n) h.0 ∙ at_end front it newest; places = h.1 },
  subst (λ (all : List TableRows). AreOfTables all pending) (append_assoc front (it ∷ []) newest)
      (pending_changes (front ++ it ∷ []) newest pending (subst (λ (n : ℕ). ArePending n newest pending) (sym (longer front it)) h.2)),
)

changes_by : (newest : List TableRows) (change : TableChange) (rest : List TableChange) (b : Bool) → IsOfTable newest change → AreOfTables newest rest → AreOfTables newest (if not b then change ∷ rest else rest)
changes_by newest change rest true one others = others
changes_by newest change rest false one others = (one, others)

pub busy_changes : (newest : List TableRows) (changes : List TableChange) → AreOfTables newest changes → AreOfTables newest (busy changes)
busy_changes newest [] h = tt
busy_changes newest (change ∷ changes) h = changes_by newest change (busy changes) (is_idle change) h.0 (busy_changes newest changes h.1)
