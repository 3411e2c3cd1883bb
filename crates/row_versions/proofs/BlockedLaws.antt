-- A table among those that are held, and what its change makes of them.
use Rattle.std.proofs.Common.{◌≡◌, ℕ, zero, suc, ◌+◌, ◌<◌, ◌≤◌, ◌==◌, Bool, true, false, ◌&&◌, if◌then◌else◌, List, [], ◌∷◌, ◌++◌, length, map, filter, set, refl, sym, ◌∙◌, ap, ap₂, subst, append_assoc, arith}
use Rattle.std.proofs.lemmas.Bool.Decides.{nat_tests}
use Rattle.std.proofs.lemmas.List.Elements.{filter-append}
use Rattle.plan_tables.specs.declared.rows.TableRows.{TableRows}
use Rattle.row_versions.proofs.HoldingLaws.{later_none, there_none}
use Rattle.row_versions.proofs.PartLaws.{next_row}
use Rattle.row_versions.specs.Holdings.{AreMarked, AreTables, all_newest, ended_row, newest_of, newest_row}
use Rattle.row_versions.specs.Marks.{begun_marks, end_row, is_end, marks_without, rows_ended}
use Rattle.row_versions.specs.declared.ended.EndedRow.{EndedRow}
use Rattle.row_versions.specs.declared.mark.Mark.{Mark}
use Rattle.table_changes.specs.Changes.{rows_without}
use Rattle.version_changes.specs.Changes.{ended_here, ends_behind, with_ends}
use Rattle.version_lists.proofs.MoveLaws.{Moves, moves_cons, moves_none, moves_of, moves_on, moves_past}
use Rattle.version_lists.specs.Orders.{AreLower}
use Rattle.version_lists.specs.Versions.{Version, begun_versions, ended_version, is_newest}
use Rattle.vtable.specs.declared.table.VRow.{VRow}

-- Around a table: what is held of those in front of it and behind it.

abbrev pub front_of : ℕ → List (List Mark) → List TableRows → List Version
front_of zero marks tables = []
front_of (suc i) [] tables = []
front_of (suc i) (m ∷ marks) [] = []
front_of (suc i) (m ∷ marks) (t ∷ tables) = newest_of t.table m t.rows.rows ++ front_of i marks tables

abbrev pub behind_of : ℕ → List (List Mark) → List TableRows → List Version
behind_of i [] tables = []
behind_of i (m ∷ marks) [] = []
behind_of zero (m ∷ marks) (t ∷ tables) = all_newest marks tables
behind_of (suc i) (m ∷ marks) (t ∷ tables) = behind_of i marks tables

pub around : (i : ℕ) (marks : List (List Mark)) (tables : List TableRows) (one : List Mark) (table : TableRows) → i < length marks → i < length tables
    → all_newest (set marks i one) (set tables i table) ≡ front_of i marks tables ++ (newest_of table.table one table.rows.rows ++ behind_of i marks tables)
around i [] tables one table less k = let never : ⊥ = omega (arith, less) in absurd never
around i (m ∷ marks) [] one table less k = let never : ⊥ = omega (arith, k) in absurd never
around zero (m ∷ marks) (t ∷ tables) one table less k = refl
around (suc i) (m ∷ marks) (t ∷ tables) one table less k =
    ap (λ xs. newest_of t.table m t.rows.rows ++ xs) (around i marks tables one table (omega (arith, less)) (omega (arith, k)))
    ∙ sym (append_assoc (newest_of t.table m t.rows.rows) (front_of i marks tables) (newest_of table.table one table.rows.rows ++ behind_of i marks tables))

-- what is known of the table at a place, and of those around it
pub record IsAround (first i : ℕ) (marks : List (List Mark)) (tables : List TableRows) (one : List Mark) (table : TableRows) : Type 0 where
  pub number : table.table ≡ first + i
  pub marked : AreMarked 0 one table.rows.rows
  pub none_front : filter (is_newest (first + i)) (front_of i marks tables) ≡ []
  pub none_behind : filter (is_newest (first + i)) (behind_of i marks tables) ≡ []
  pub put : (other : List Mark) (new : TableRows) → new.table ≡ first + i → AreMarked 0 other new.rows.rows → AreTables first (set marks i other) (set tables i new)

neq : (m n : ℕ) → m < n → (m == n) ≡ false
neq m n h = grind (arith, nat_tests)

no_more : (n : ℕ) → n ≡ n + 0
no_more n = omega arith

one_more : (m n : ℕ) → m + 1 + n ≡ m + suc n
one_more m n = omega arith

front_by : (first i : ℕ) (m : List Mark) (marks : List (List Mark)) (t : TableRows) (tables : List TableRows) → t.table ≡ first → filter (is_newest (first + suc i)) (front_of i marks tables) ≡ []
    → filter (is_newest (first + suc i)) (newest_of t.table m t.rows.rows ++ front_of i marks tables) ≡ []
front_by first i m marks t tables is h =
    filter-append (is_newest (first + suc i)) (newest_of t.table m t.rows.rows) (front_of i marks tables)
    ∙ ap₂ (λ xs ys. xs ++ ys) (there_none (first + suc i) t.table m t.rows.rows (ap (λ n. n == first + suc i) is ∙ neq first (first + suc i) (omega arith))) h

up_by : (first i : ℕ) (m : List Mark) (marks : List (List Mark)) (t : TableRows) (tables : List TableRows) (one : List Mark) (table : TableRows) → t.table ≡ first → AreMarked 0 m t.rows.rows
    → IsAround (first + 1) i marks tables one table → IsAround first (suc i) (m ∷ marks) (t ∷ tables) one table
up_by first i m marks t tables one table is marked h = record {
  number = h.number ∙ one_more first i;
  marked = h.marked;
  none_front = front_by first i m marks t tables is (subst (λ n. filter (is_newest n) (front_of i marks tables) ≡ []) (one_more first i) h.none_front);
  none_behind = subst (λ n. filter (is_newest n) (behind_of i marks tables) ≡ []) (one_more first i) h.none_behind;
  put = λ other new number k. (is, marked, h.put other new (number ∙ sym (one_more first i)) k);
}

pub found_around : (first i : ℕ) (marks : List (List Mark)) (tables : List TableRows) (one : List Mark) (table : TableRows) → i < length marks → i < length tables
    → AreTables first (set marks i one) (set tables i table) → IsAround first i marks tables one table
found_around first i [] tables one table less k are = let never : ⊥ = omega (arith, less) in absurd never
found_around first i (m ∷ marks) [] one table less k are = let never : ⊥ = omega (arith, k) in absurd never
found_around first zero (m ∷ marks) (t ∷ tables) one table less k are = record {
  number = are.0 ∙ no_more first;
  marked = are.1;
  none_front = refl;
  none_behind = later_none (first + 0) (first + 1) marks tables (omega arith) are.2;
  put = λ other new number k. (number ∙ sym (no_more first), k, are.2);
}
found_around first (suc i) (m ∷ marks) (t ∷ tables) one table less k are =
    up_by first i m marks t tables one table are.0 are.1 (found_around (first + 1) i marks tables one table (omega (arith, less)) (omega (arith, k)) are.2)

-- The rows of one table: those that end, and those that stay.

eq_self : (n : ℕ) → (n == n) ≡ true
eq_self n = grind (arith, nat_tests)

part_by : (k table place e : ℕ) (ends : List ℕ) (mark : Mark) (row : VRow) (versions : List Version) (gone : List EndedRow) (stay : List Mark) (rows : List VRow) (b : Bool)
    → Moves versions (map ended_row gone ++ newest_of table stay rows)
    → Moves ((if b then ended_version k (newest_row table mark row) else newest_row table mark row) ∷ versions)
    (map ended_row (if b then end_row k table mark row ∷ gone else gone) ++ newest_of table (if b then stay else mark ∷ stay) (if b then rows else row ∷ rows))
part_by k table place e ends mark row versions gone stay rows true h = moves_cons (ended_row (end_row k table mark row)) versions (map ended_row gone ++ newest_of table stay rows) h
part_by k table place e ends mark row versions gone stay rows false h =
    moves_on (newest_row table mark row ∷ versions) (newest_row table mark row ∷ (map ended_row gone ++ newest_of table stay rows)) (map ended_row gone ++ newest_row table mark row ∷ newest_of table stay rows)
    (moves_cons (newest_row table mark row) versions (map ended_row gone ++ newest_of table stay rows) h) (moves_past (newest_row table mark row) (map ended_row gone) (newest_of table stay rows))

rows_by : (rows : List VRow) (row : VRow) (b : Bool) → (if b then [] else row ∷ []) ++ rows ≡ (if b then rows else row ∷ rows)
rows_by rows row true = refl
rows_by rows row false = refl

part_here : (k table place : ℕ) (ends : List ℕ) (mark : Mark) (row : VRow) (versions : List Version) (gone : List EndedRow) (stay : List Mark) (rows : List VRow)
    → Moves versions (map ended_row gone ++ newest_of table stay rows)
    → Moves (ended_here k place ends (newest_row table mark row) ∷ versions)
    (map ended_row (if is_end place ends then end_row k table mark row ∷ gone else gone) ++ newest_of table (if is_end place ends then stay else mark ∷ stay) (if is_end place ends then rows else row ∷ rows))
part_here k table place [] mark row versions gone stay rows h = part_by k table place 0 [] mark row versions gone stay rows false h
part_here k table place (e ∷ ends) mark row versions gone stay rows h = part_by k table place e ends mark row versions gone stay rows (e == place) h

pub parted : (k table place : ℕ) (ends : List ℕ) (marks : List Mark) (rows : List VRow) → length marks ≡ length rows
    → Moves (with_ends table k place ends (newest_of table marks rows)) (map ended_row (rows_ended k table place ends marks rows) ++ newest_of table (marks_without place ends marks) (rows_without place ends rows))
parted k table place ends [] rows h = moves_none []
parted k table place ends (mark ∷ marks) [] h = let never : ⊥ = omega (arith, h) in absurd never
parted k table place ends (mark ∷ marks) (row ∷ rows) h =
    let left : List ℕ = ends_behind place ends in
    let v : Version = newest_row table mark row in
    let versions : List Version = with_ends table k (place + 1) left (newest_of table marks rows) in
    let off : List Version = with_ends table k place ends (newest_of table marks rows) in
    let stay : List VRow = rows_without (place + 1) left rows in
    moves_on (if (table == table) && true then ended_here k place ends v ∷ versions else v ∷ off) (ended_here k place ends v ∷ versions)
    (map ended_row (rows_ended k table place ends (mark ∷ marks) (row ∷ rows)) ++ newest_of table (marks_without place ends (mark ∷ marks)) (rows_without place ends (row ∷ rows)))
    (moves_of (if (table == table) && true then ended_here k place ends v ∷ versions else v ∷ off) (ended_here k place ends v ∷ versions)
    (ap (λ b. if b && true then ended_here k place ends v ∷ versions else v ∷ off) (eq_self table)))
    (subst (λ xs. Moves (ended_here k place ends v ∷ versions) (map ended_row (rows_ended k table place ends (mark ∷ marks) (row ∷ rows)) ++ newest_of table (marks_without place ends (mark ∷ marks)) xs))
    (sym (rows_by stay row (is_end place ends)) ∙ next_row place ends row rows)
    (part_here k table place ends mark row versions (rows_ended k table (place + 1) left marks rows) (marks_without (place + 1) left marks) stay (parted k table (place + 1) left marks rows (omega (arith, h)))))

-- marks of those that stay, and of those that begin behind them

marked_low : (least low : ℕ) (marks : List Mark) (rows : List VRow) → least ≤ low → AreMarked low marks rows → AreMarked least marks rows
marked_low least low [] [] h k = tt
marked_low least low [] (row ∷ rows) h k = absurd k
marked_low least low (mark ∷ marks) [] h k = absurd k
marked_low least low (mark ∷ marks) (row ∷ rows) h k = (let a = k.0 in omega (arith, a, h), k.1)

without_by : (low : ℕ) (mark : Mark) (row : VRow) (marks : List Mark) (rows : List VRow) (b : Bool) → low ≤ mark.number → AreMarked (mark.number + 1) marks rows → AreMarked low (if b then marks else mark ∷ marks) (if b then rows else row ∷ rows)
without_by low mark row marks rows true h k = marked_low low (mark.number + 1) marks rows (omega (arith, h)) k
without_by low mark row marks rows false h k = (h, k)

pub without_marked : (low place : ℕ) (ends : List ℕ) (marks : List Mark) (rows : List VRow) → AreMarked low marks rows → AreMarked low (marks_without place ends marks) (rows_without place ends rows)
without_marked low place ends [] [] h = tt
without_marked low place ends [] (row ∷ rows) h = absurd h
without_marked low place ends (mark ∷ marks) [] h = absurd h
without_marked low place ends (mark ∷ marks) (row ∷ rows) h =
    let left : List ℕ = ends_behind place ends in
    subst (AreMarked low (marks_without place ends (mark ∷ marks))) (sym (rows_by (rows_without (place + 1) left rows) row (is_end place ends)) ∙ next_row place ends row rows)
    (without_by low mark row (marks_without (place + 1) left marks) (rows_without (place + 1) left rows) (is_end place ends) h.0 (without_marked (mark.number + 1) (place + 1) left marks rows h.1))

pub begun_marked : (low number k : ℕ) (rows : List VRow) → low ≤ number → AreMarked low (begun_marks number k rows) rows
begun_marked low number k [] h = tt
begun_marked low number k (row ∷ rows) h = (h, begun_marked (number + 1) (number + 1) k rows (omega arith))

pub begun_newest : (table number k : ℕ) (rows : List VRow) → newest_of table (begun_marks number k rows) rows ≡ begun_versions number k table rows
begun_newest table number k [] = refl
begun_newest table number k (row ∷ rows) = ap (λ xs. newest_row table (record { number = number; begins = k }) row ∷ xs) (begun_newest table (number + 1) k rows)

pub newest_append : (low table : ℕ) (marks others : List Mark) (rows behind : List VRow) → AreMarked low marks rows → newest_of table (marks ++ others) (rows ++ behind) ≡ newest_of table marks rows ++ newest_of table others behind
newest_append low table [] others [] behind h = refl
newest_append low table [] others (row ∷ rows) behind h = absurd h
newest_append low table (mark ∷ marks) others [] behind h = absurd h
newest_append low table (mark ∷ marks) others (row ∷ rows) behind h = ap (λ xs. newest_row table mark row ∷ xs) (newest_append (mark.number + 1) table marks others rows behind h.1)

pub marked_append : (low high table : ℕ) (marks others : List Mark) (rows behind : List VRow) → low ≤ high → AreMarked low marks rows → AreLower high (newest_of table marks rows) → ((least : ℕ) → least ≤ high → AreMarked least others behind)
    → AreMarked low (marks ++ others) (rows ++ behind)
marked_append low high table [] others [] behind le h lower on = on low le
marked_append low high table [] others (row ∷ rows) behind le h lower on = absurd h
marked_append low high table (mark ∷ marks) others [] behind le h lower on = absurd h
marked_append low high table (mark ∷ marks) others (row ∷ rows) behind le h lower on =
    let a = lower.0 in (h.0, marked_append (mark.number + 1) high table marks others rows behind (omega (arith, a)) h.1 lower.1 on)

pub marked_alike : (low : ℕ) (marks : List Mark) (rows : List VRow) → AreMarked low marks rows → length marks ≡ length rows
marked_alike low [] [] h = refl
marked_alike low [] (row ∷ rows) h = absurd h
marked_alike low (mark ∷ marks) [] h = absurd h
marked_alike low (mark ∷ marks) (row ∷ rows) h = let rest = marked_alike (mark.number + 1) marks rows h.1 in omega (arith, rest)
