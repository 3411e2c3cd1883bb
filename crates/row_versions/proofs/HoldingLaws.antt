-- What is held, as the list that contracts see.
use Rattle.std.proofs.Common.{◌≡◌, ℕ, ◌+◌, ◌<◌, ◌≤◌, ◌==◌, Bool, true, false, cond, ◌&&◌, List, [], ◌∷◌, ◌++◌, map, filter, Option, Some, None, refl, sym, ◌∙◌, ap, ap₂, subst, append_assoc, append-nil, arith}
use Rattle.std.specs.List.{AllByRecursion}
use Rattle.std.proofs.lemmas.Bool.Decides.{nat_tests}
use Rattle.std.proofs.lemmas.List.Elements.{filter-append}
use Rattle.plan_tables.specs.declared.rows.TableRows.{TableRows}
use Rattle.row_versions.specs.Cleaning.{still_ended}
use Rattle.row_versions.specs.Holdings.{AreEnded, AreMarked, AreTables, IsHolding, IsKept, all_newest, ended_row, held, newest_of, newest_row, stored}
use Rattle.row_versions.specs.Stored.{Stored, columns_of, newest_tables}
use Rattle.row_versions.specs.declared.ended.EndedRow.{EndedRow}
use Rattle.row_versions.specs.declared.mark.Mark.{Mark}
use Rattle.version_lists.proofs.BlockLaws.{already}
use Rattle.version_lists.proofs.OrderLaws.{filter_in_order}
use Rattle.version_lists.specs.Orders.{AreLower, in_order}
use Rattle.version_lists.specs.Versions.{AreNumbered, IsPlaced, Version, cleaned, is_newest, may_stay, newest_rows}
use Rattle.vtable.specs.declared.table.VColumn.{VColumn}
use Rattle.vtable.specs.declared.table.VRow.{VRow}

-- Clean-up keeps what is held as it was.

module _ (p : Version → Bool) where
  numbered_by : (low : ℕ) (v : Version) (versions : List Version) (b : Bool) → low ≤ v.number → AreNumbered (v.number + 1) versions → AreNumbered low (cond b (v ∷ versions) versions)
  numbered_by low v versions true h k = (h, k)
  numbered_by low v versions false h k = lower_numbered low (v.number + 1) versions (omega (arith, h)) k where
    lower_numbered : (least low : ℕ) (versions : List Version) → least ≤ low → AreNumbered low versions → AreNumbered least versions
    lower_numbered least low [] h k = tt
    lower_numbered least low (v ∷ versions) h k = (let a = k.0 in omega (arith, a, h), k.1)

  pub numbered_filter : (low : ℕ) (versions : List Version) → AreNumbered low versions → AreNumbered low (filter p versions)
  numbered_filter low [] h = tt
  numbered_filter low (v ∷ versions) h = numbered_by low v (filter p versions) (p v) h.0 (numbered_filter (v.number + 1) versions h.1)

  lower_by : (high : ℕ) (v : Version) (versions : List Version) (b : Bool) → v.number < high → AreLower high versions → AreLower high (cond b (v ∷ versions) versions)
  lower_by high v versions true h k = (h, k)
  lower_by high v versions false h k = k

  pub lower_filter : (high : ℕ) (versions : List Version) → AreLower high versions → AreLower high (filter p versions)
  lower_filter high [] h = tt
  lower_filter high (v ∷ versions) h = lower_by high v (filter p versions) (p v) h.0 (lower_filter high versions h.1)

  placed_by : (applied : ℕ) (v : Version) (versions : List Version) (b : Bool) → IsPlaced applied v → AllByRecursion (IsPlaced applied) versions → AllByRecursion (IsPlaced applied) (cond b (v ∷ versions) versions)
  placed_by applied v versions true h k = (h, k)
  placed_by applied v versions false h k = k

  pub placed_filter : (applied : ℕ) (versions : List Version) → AllByRecursion (IsPlaced applied) versions → AllByRecursion (IsPlaced applied) (filter p versions)
  placed_filter applied [] h = tt
  placed_filter applied (v ∷ versions) h = placed_by applied v (filter p versions) (p v) h.0 (placed_filter applied versions h.1)

pub kept_cleaned : (oldest : Option ℕ) (it : Stored) (versions : List Version) → versions ≡ cleaned oldest it.versions → IsKept it → IsKept (record it { versions = versions })
kept_cleaned oldest it versions is h = subst (λ xs. IsKept (record it { versions = xs })) (sym is) (record {
  numbered = numbered_filter (may_stay oldest) 0 it.versions h.numbered;
  lower = lower_filter (may_stay oldest) it.next it.versions h.lower;
  placed = placed_filter (may_stay oldest) it.applied it.versions h.placed;
})

still_by : (oldest : Option ℕ) (e : EndedRow) (ended : List EndedRow) (b : Bool) → map ended_row (cond b (e ∷ ended) ended) ≡ cond b (ended_row e ∷ map ended_row ended) (map ended_row ended)
still_by oldest e ended true = refl
still_by oldest e ended false = refl

still_versions : (oldest : Option ℕ) (ended : List EndedRow) → map ended_row (still_ended oldest ended) ≡ filter (may_stay oldest) (map ended_row ended)
still_versions oldest [] = refl
still_versions oldest (e ∷ ended) =
    still_by oldest e (still_ended oldest ended) (may_stay oldest (ended_row e))
    ∙ ap (λ xs. cond (may_stay oldest (ended_row e)) (ended_row e ∷ xs) xs) (still_versions oldest ended)

-- what hasn't ended stays

newest_stay : (oldest : Option ℕ) (table : ℕ) (marks : List Mark) (rows : List VRow) → filter (may_stay oldest) (newest_of table marks rows) ≡ newest_of table marks rows
newest_stay None table [] rows = refl
newest_stay (Some s) table [] rows = refl
newest_stay None table (mark ∷ marks) [] = refl
newest_stay (Some s) table (mark ∷ marks) [] = refl
newest_stay None table (mark ∷ marks) (row ∷ rows) = ap (λ xs. newest_row table mark row ∷ xs) (newest_stay None table marks rows)
newest_stay (Some s) table (mark ∷ marks) (row ∷ rows) = ap (λ xs. newest_row table mark row ∷ xs) (newest_stay (Some s) table marks rows)

all_stay : (oldest : Option ℕ) (marks : List (List Mark)) (tables : List TableRows) → filter (may_stay oldest) (all_newest marks tables) ≡ all_newest marks tables
all_stay oldest [] tables = refl
all_stay oldest (marks ∷ others) [] = refl
all_stay oldest (marks ∷ others) (table ∷ tables) =
    filter-append (may_stay oldest) (newest_of table.table marks table.rows.rows) (all_newest others tables)
    ∙ ap₂ (λ xs ys. xs ++ ys) (newest_stay oldest table.table marks table.rows.rows) (all_stay oldest others tables)

pub cleaned_held : (oldest : Option ℕ) (ended still : List EndedRow) (marks : List (List Mark)) (tables : List TableRows) → still ≡ still_ended oldest ended → in_order (held still marks tables) ≡ cleaned oldest (in_order (held ended marks tables))
cleaned_held oldest ended still marks tables is =
    ap (λ xs. in_order (held xs marks tables)) is
    ∙ ap in_order (ap₂ (λ xs ys. xs ++ ys) (still_versions oldest ended) (sym (all_stay oldest marks tables)) ∙ sym (filter-append (may_stay oldest) (map ended_row ended) (all_newest marks tables)))
    ∙ sym (filter_in_order (may_stay oldest) (held ended marks tables))

lower_ended : (least low : ℕ) (ended : List EndedRow) → least ≤ low → AreEnded low ended → AreEnded least ended
lower_ended least low [] h k = tt
lower_ended least low (e ∷ ended) h k = (let a = k.0 in omega (arith, a, h), k.1)

turn_by : (low : ℕ) (e : EndedRow) (ended : List EndedRow) (b : Bool) → low ≤ e.ends → AreEnded e.ends ended → AreEnded low (cond b (e ∷ ended) ended)
turn_by low e ended true h k = (h, k)
turn_by low e ended false h k = lower_ended low e.ends ended h k

turn_still : (oldest : Option ℕ) (low : ℕ) (ended : List EndedRow) → AreEnded low ended → AreEnded low (still_ended oldest ended)
turn_still oldest low [] h = tt
turn_still oldest low (e ∷ ended) h = turn_by low e (still_ended oldest ended) (may_stay oldest (ended_row e)) h.0 (turn_still oldest e.ends ended h.1)

pub cleaned_holding : (oldest : Option ℕ) (ended still : List EndedRow) (marks : List (List Mark)) (tables : List TableRows) (next applied : ℕ) → still ≡ still_ended oldest ended → IsHolding ended marks tables next applied → IsHolding still marks tables next applied
cleaned_holding oldest ended still marks tables next applied is h = record {
  kept = kept_cleaned oldest (stored ended marks tables next applied) (in_order (held still marks tables)) (cleaned_held oldest ended still marks tables is) h.kept;
  in_turn = subst (AreEnded 0) (sym is) (turn_still oldest 0 ended h.in_turn);
  marked = h.marked;
}

-- The newest rows of a table are those that are held as its rows.

eq_self : (n : ℕ) → (n == n) ≡ true
eq_self n = grind (arith, nat_tests)

neq : (m n : ℕ) → n < m → (m == n) ≡ false
neq m n h = grind (arith, nat_tests)

and_false : (a : Bool) → (a && false) ≡ false
and_false true = refl
and_false false = refl

pub ended_none : (number : ℕ) (ended : List EndedRow) → filter (is_newest number) (map ended_row ended) ≡ []
ended_none number [] = refl
ended_none number (e ∷ ended) =
    ap (λ b. cond b (ended_row e ∷ filter (is_newest number) (map ended_row ended)) (filter (is_newest number) (map ended_row ended))) (and_false (e.table == number))
    ∙ ended_none number ended

pub here_all : (number : ℕ) (marks : List Mark) (rows : List VRow) → filter (is_newest number) (newest_of number marks rows) ≡ newest_of number marks rows
here_all number [] rows = refl
here_all number (mark ∷ marks) [] = refl
here_all number (mark ∷ marks) (row ∷ rows) =
    ap₂ (λ b xs. cond (b && true) (newest_row number mark row ∷ xs) xs) (eq_self number) (here_all number marks rows)

pub there_none : (number table : ℕ) (marks : List Mark) (rows : List VRow) → (table == number) ≡ false → filter (is_newest number) (newest_of table marks rows) ≡ []
there_none number table [] rows h = refl
there_none number table (mark ∷ marks) [] h = refl
there_none number table (mark ∷ marks) (row ∷ rows) h =
    ap₂ (λ b xs. cond (b && true) (newest_row table mark row ∷ xs) xs) h (there_none number table marks rows h)

pub later_none : (number first : ℕ) (marks : List (List Mark)) (tables : List TableRows) → number < first → AreTables first marks tables → filter (is_newest number) (all_newest marks tables) ≡ []
later_none number first [] tables h are = refl
later_none number first (marks ∷ others) [] h are = refl
later_none number first (marks ∷ others) (table ∷ tables) h are =
    filter-append (is_newest number) (newest_of table.table marks table.rows.rows) (all_newest others tables)
    ∙ ap₂ (λ xs ys. xs ++ ys)
    (there_none number table.table marks table.rows.rows (ap (λ n. n == number) are.0 ∙ neq first number h))
    (later_none number (first + 1) others tables (omega (arith, h)) are.2)

rows_marked : (low number : ℕ) (marks : List Mark) (rows : List VRow) → AreMarked low marks rows → map (λ (v : Version). v.row) (newest_of number marks rows) ≡ rows
rows_marked low number [] [] h = refl
rows_marked low number [] (row ∷ rows) h = absurd h
rows_marked low number (mark ∷ marks) [] h = absurd h
rows_marked low number (mark ∷ marks) (row ∷ rows) h = ap (λ xs. row ∷ xs) (rows_marked (mark.number + 1) number marks rows h.1)

pub marked_numbered : (low number : ℕ) (marks : List Mark) (rows : List VRow) → AreMarked low marks rows → AreNumbered low (newest_of number marks rows)
marked_numbered low number [] [] h = tt
marked_numbered low number [] (row ∷ rows) h = absurd h
marked_numbered low number (mark ∷ marks) [] h = absurd h
marked_numbered low number (mark ∷ marks) (row ∷ rows) h = (h.0, marked_numbered (mark.number + 1) number marks rows h.1)

-- the tables from a number on, behind versions that are none of their newest
newest_from : (number : ℕ) (front : List Version) (marks : List (List Mark)) (tables : List TableRows) → AreTables number marks tables
    → ((n : ℕ) → number ≤ n → filter (is_newest n) front ≡ []) → tables ≡ newest_tables number (columns_of tables) (in_order (front ++ all_newest marks tables))
newest_from number front [] [] are none = refl
newest_from number front [] (table ∷ tables) are none = absurd are
newest_from number front (marks ∷ others) [] are none = absurd are
newest_from number front (marks ∷ others) (table ∷ tables) are none =
    let here : List Version = newest_of table.table marks table.rows.rows in
    let all : List Version = front ++ (here ++ all_newest others tables) in
    let mine : newest_of table.table marks table.rows.rows ≡ newest_of number marks table.rows.rows = ap (λ n. newest_of n marks table.rows.rows) are.0 in
    let found : filter (is_newest number) all ≡ newest_of number marks table.rows.rows =
    filter-append (is_newest number) front (here ++ all_newest others tables)
    ∙ ap₂ (λ xs ys. xs ++ ys) (none number (omega arith))
    (filter-append (is_newest number) here (all_newest others tables)
    ∙ ap₂ (λ xs ys. xs ++ ys) (ap (filter (is_newest number)) mine ∙ here_all number marks table.rows.rows) (later_none number (number + 1) others tables (omega arith) are.2)
    ∙ append-nil (newest_of number marks table.rows.rows))
    in
    let rows_are : table.rows.rows ≡ newest_rows number (in_order all) =
    sym (ap (map (λ (v : Version). v.row)) (filter_in_order (is_newest number) all ∙ ap in_order found ∙ already 0 (newest_of number marks table.rows.rows) (marked_numbered 0 number marks table.rows.rows are.1))
    ∙ rows_marked 0 number marks table.rows.rows are.1)
    in
    ap₂ (λ table tables. table ∷ tables)
    (ap₂ (λ n rows. table_with n table.rows.columns rows) are.0 rows_are)
    (newest_from (number + 1) (front ++ here) others tables are.2
    (λ n le. filter-append (is_newest n) front here ∙ ap₂ (λ xs ys. xs ++ ys) (none n (omega (arith, le))) (there_none n table.table marks table.rows.rows (ap (λ m. m == n) are.0 ∙ neq_up number n le)))
    ∙ ap (λ xs. newest_tables (number + 1) (columns_of tables) (in_order xs)) (append_assoc front here (all_newest others tables))) where
      neq_up : (m n : ℕ) → m + 1 ≤ n → (m == n) ≡ false
      neq_up m n h = grind (arith, nat_tests)

      table_with : ℕ → List VColumn → List VRow → TableRows
      table_with number columns rows = record { table = number; rows = record { columns = columns; rows = rows } }

pub newest_are : (ended : List EndedRow) (marks : List (List Mark)) (tables : List TableRows) (next applied : ℕ) → IsHolding ended marks tables next applied
    → tables ≡ newest_tables 0 (columns_of tables) (in_order (held ended marks tables))
newest_are ended marks tables next applied h = newest_from 0 (map ended_row ended) marks tables h.marked (λ n le. ended_none n ended)
