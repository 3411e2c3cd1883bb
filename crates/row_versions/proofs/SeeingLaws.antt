-- What a snapshot sees of a table is made from what is held.
use Rattle.std.proofs.Common.{◌≡◌, ℕ, suc, zero, ◌+◌, ◌<◌, ◌==◌, Bool, true, false, cond, ◌&&◌, if◌then◌else◌, List, [], ◌∷◌, ◌++◌, map, filter, Option, Some, None, slice_get, nat_le, refl, ◌∙◌, ap, ap₂, subst, append-nil, arith}
use Rattle.std.specs.List.{insert}
use Rattle.std.proofs.lemmas.Bool.Decides.{nat_tests}
use Rattle.std.proofs.lemmas.List.Elements.{filter-append}
use Rattle.plan_tables.specs.declared.rows.TableRows.{TableRows}
use Rattle.row_versions.proofs.HoldingLaws.{marked_numbered, numbered_filter}
use Rattle.row_versions.specs.Holdings.{AreMarked, AreTables, IsHolding, all_newest, ended_row, held, newest_of, newest_row}
use Rattle.row_versions.specs.Seeing.{place_in, put_all, put_ended, put_row, row_of, seen_newest, seen_table}
use Rattle.row_versions.specs.declared.ended.EndedRow.{EndedRow}
use Rattle.row_versions.specs.declared.mark.Mark.{Mark}
use Rattle.row_versions.specs.declared.seen.SeenRow.{SeenRow}
use Rattle.version_lists.proofs.BlockLaws.{already}
use Rattle.version_lists.proofs.OrderLaws.{filter_in_order}
use Rattle.version_lists.specs.Orders.{in_order, put}
use Rattle.version_lists.specs.Versions.{Version, rows_seen, sees_of}
use Rattle.vtable.specs.declared.table.VRow.{VRow}

-- a row is inserted at its place

inserted_by : (it other : SeenRow) (rows : List SeenRow) (b : Bool) → insert rows (place_in it.number rows) it ≡ put_row it rows
    → insert (other ∷ rows) (if b then 0 else suc (place_in it.number rows)) it ≡ (if b then it ∷ other ∷ rows else other ∷ put_row it rows)
inserted_by it other rows true on = refl
inserted_by it other rows false on = ap (λ xs. other ∷ xs) on

pub inserted : (it : SeenRow) (rows : List SeenRow) → insert rows (place_in it.number rows) it ≡ put_row it rows
inserted it [] = refl
inserted it (other ∷ rows) = inserted_by it other rows (nat_le it.number other.number) (inserted it rows)

-- the last one is put first

pub last_put : (s table : ℕ) (ended : List EndedRow) (last : EndedRow) (rows : List SeenRow) → put_all s table ended (put_ended s table last rows) ≡ put_all s table (ended ++ last ∷ []) rows
last_put s table [] last rows = refl
last_put s table (e ∷ ended) last rows = ap (put_ended s table e) (last_put s table ended last rows)

-- the ended rows may be held in two parts
pub both_put : (s table : ℕ) (front back all : List EndedRow) (rows : List SeenRow) → front ++ back ≡ all → put_all s table front (put_all s table back rows) ≡ put_all s table all rows
both_put s table front back all rows is = parts_put front ∙ ap (λ xs. put_all s table xs rows) is where
  parts_put : (front : List EndedRow) → put_all s table front (put_all s table back rows) ≡ put_all s table (front ++ back) rows
  parts_put [] = refl
  parts_put (e ∷ front) = ap (put_ended s table e) (parts_put front)

-- Versions, as the rows that are seen of them.

abbrev seen_row : Version → SeenRow
seen_row v = record { number = v.number; row = v.row }

put_by : (v other : Version) (versions : List Version) (b : Bool) → map seen_row (put v versions) ≡ put_row (seen_row v) (map seen_row versions)
    → map seen_row (if b then v ∷ other ∷ versions else other ∷ put v versions) ≡ (if b then seen_row v ∷ seen_row other ∷ map seen_row versions else seen_row other ∷ put_row (seen_row v) (map seen_row versions))
put_by v other versions true on = refl
put_by v other versions false on = ap (λ xs. seen_row other ∷ xs) on

put_seen : (v : Version) (versions : List Version) → map seen_row (put v versions) ≡ put_row (seen_row v) (map seen_row versions)
put_seen v [] = refl
put_seen v (other ∷ versions) = put_by v other versions (nat_le v.number other.number) (put_seen v versions)

ended_by : (s table : ℕ) (e : EndedRow) (versions others : List Version) (rows : List SeenRow) (b : Bool) → map seen_row (in_order (versions ++ others)) ≡ rows
    → map seen_row (in_order (cond b (ended_row e ∷ versions) versions ++ others)) ≡ (if b then put_row (record { number = e.number; row = e.row }) rows else rows)
ended_by s table e versions others rows true on = put_seen (ended_row e) (in_order (versions ++ others)) ∙ ap (put_row (seen_row (ended_row e))) on
ended_by s table e versions others rows false on = on

ended_seen : (s table : ℕ) (ended : List EndedRow) (others : List Version) → map seen_row (in_order (filter (sees_of s table) (map ended_row ended) ++ others)) ≡ put_all s table ended (map seen_row (in_order others))
ended_seen s table [] others = refl
ended_seen s table (e ∷ ended) others =
    ended_by s table e (filter (sees_of s table) (map ended_row ended)) others (put_all s table ended (map seen_row (in_order others))) (sees_of s table (ended_row e)) (ended_seen s table ended others)

-- the newest rows that are seen

eq_self : (n : ℕ) → (n == n) ≡ true
eq_self n = grind (arith, nat_tests)

and_true : (b : Bool) → (b && true) ≡ b
and_true true = refl
and_true false = refl

newest_step : (s table : ℕ) (mark : Mark) (row : VRow) (versions : List Version) (rows : List SeenRow) (b : Bool) → map seen_row versions ≡ rows
    → map seen_row (cond b (newest_row table mark row ∷ versions) versions) ≡ (if b then record { number = mark.number; row = row } ∷ [] else []) ++ rows
newest_step s table mark row versions rows true on = ap (λ xs. record { number = mark.number; row = row } ∷ xs) on
newest_step s table mark row versions rows false on = on

newest_seen : (s table : ℕ) (marks : List Mark) (rows : List VRow) → map seen_row (filter (sees_of s table) (newest_of table marks rows)) ≡ seen_newest s marks rows
newest_seen s table [] rows = refl
newest_seen s table (mark ∷ marks) [] = refl
newest_seen s table (mark ∷ marks) (row ∷ rows) =
    ap (λ b. map seen_row (cond b (newest_row table mark row ∷ filter (sees_of s table) (newest_of table marks rows)) (filter (sees_of s table) (newest_of table marks rows))))
    (ap₂ (λ a b. a && b) (eq_self table) (and_true (nat_le mark.begins s)))
    ∙ newest_step s table mark row (filter (sees_of s table) (newest_of table marks rows)) (seen_newest s marks rows) (nat_le mark.begins s) (newest_seen s table marks rows)

other_none : (s table number : ℕ) (marks : List Mark) (rows : List VRow) → (number == table) ≡ false → filter (sees_of s table) (newest_of number marks rows) ≡ []
other_none s table number [] rows h = refl
other_none s table number (mark ∷ marks) [] h = refl
other_none s table number (mark ∷ marks) (row ∷ rows) h =
    ap₂ (λ b xs. cond (b && (nat_le mark.begins s && true)) (newest_row number mark row ∷ xs) xs) h (other_none s table number marks rows h)

above : (m n : ℕ) → n < m → (m == n) ≡ false
above m n h = grind (arith, nat_tests)

below : (m n : ℕ) → m < n → (m == n) ≡ false
below m n h = grind (arith, nat_tests)

later_none : (s table first : ℕ) (marks : List (List Mark)) (tables : List TableRows) → table < first → AreTables first marks tables → filter (sees_of s table) (all_newest marks tables) ≡ []
later_none s table first [] tables h are = refl
later_none s table first (marks ∷ others) [] h are = refl
later_none s table first (marks ∷ others) (one ∷ tables) h are =
    filter-append (sees_of s table) (newest_of one.table marks one.rows.rows) (all_newest others tables)
    ∙ ap₂ (λ xs ys. xs ++ ys)
    (other_none s table one.table marks one.rows.rows (ap (λ n. n == table) are.0 ∙ above first table h))
    (later_none s table (first + 1) others tables (omega (arith, h)) are.2)

-- the versions of the newest rows of a table, where it is there
abbrev newest_in : ℕ → ℕ → Option (List Mark) → Option TableRows → List Version
newest_in s table None rows = []
newest_in s table (Some marks) None = []
newest_in s table (Some marks) (Some one) = filter (sees_of s table) (newest_of table marks one.rows.rows)

-- its rows have their marks
abbrev AreMarkedIn : Option (List Mark) → Option TableRows → Type 0
AreMarkedIn None rows = Unit {0}
AreMarkedIn (Some marks) None = Unit {0}
AreMarkedIn (Some marks) (Some one) = AreMarked 0 marks one.rows.rows

in_seen : (s table : ℕ) (marks : Option (List Mark)) (rows : Option TableRows) → map seen_row (newest_in s table marks rows) ≡ seen_table s marks rows
in_seen s table None rows = refl
in_seen s table (Some marks) None = refl
in_seen s table (Some marks) (Some one) = newest_seen s table marks one.rows.rows

at_place : (s first place : ℕ) (marks : List (List Mark)) (tables : List TableRows) → AreTables first marks tables
    → filter (sees_of s (first + place)) (all_newest marks tables) ≡ newest_in s (first + place) (slice_get marks place) (slice_get tables place)
at_place s first place [] [] are = refl
at_place s first place [] (one ∷ tables) are = absurd are
at_place s first place (marks ∷ others) [] are = absurd are
at_place s first zero (marks ∷ others) (one ∷ tables) are =
    filter-append (sees_of s (first + 0)) (newest_of one.table marks one.rows.rows) (all_newest others tables)
    ∙ ap₂ (λ xs ys. xs ++ ys)
    (ap (λ n. filter (sees_of s (first + 0)) (newest_of n marks one.rows.rows)) (are.0 ∙ omega arith))
    (later_none s (first + 0) (first + 1) others tables (omega arith) are.2)
    ∙ append-nil (filter (sees_of s (first + 0)) (newest_of (first + 0) marks one.rows.rows))
at_place s first (suc place) (marks ∷ others) (one ∷ tables) are =
    filter-append (sees_of s (first + suc place)) (newest_of one.table marks one.rows.rows) (all_newest others tables)
    ∙ ap₂ (λ xs ys. xs ++ ys)
    (other_none s (first + suc place) one.table marks one.rows.rows (ap (λ n. n == first + suc place) are.0 ∙ below first (first + suc place) (omega arith)))
    (subst (λ n. filter (sees_of s n) (all_newest others tables) ≡ newest_in s n (slice_get others place) (slice_get tables place)) (moved first place) (at_place s (first + 1) place others tables are.2)) where
      moved : (m n : ℕ) → m + 1 + n ≡ m + suc n
      moved m n = omega arith

found_at : (s table : ℕ) (marks : List (List Mark)) (tables : List TableRows) → AreTables 0 marks tables → filter (sees_of s table) (all_newest marks tables) ≡ newest_in s table (slice_get marks table) (slice_get tables table)
found_at s table marks tables are =
    subst (λ n. filter (sees_of s n) (all_newest marks tables) ≡ newest_in s n (slice_get marks table) (slice_get tables table)) (none_more table) (at_place s 0 table marks tables are) where
      none_more : (n : ℕ) → 0 + n ≡ n
      none_more n = omega arith

in_turn : (s table : ℕ) (marks : Option (List Mark)) (rows : Option TableRows) → AreMarkedIn marks rows → in_order (newest_in s table marks rows) ≡ newest_in s table marks rows
in_turn s table None rows h = refl
in_turn s table (Some marks) None h = refl
in_turn s table (Some marks) (Some one) h = already 0 (newest_in s table (Some marks) (Some one)) (numbered_filter (sees_of s table) 0 (newest_of table marks one.rows.rows) (marked_numbered 0 table marks one.rows.rows h))

marked_at : (first place : ℕ) (marks : List (List Mark)) (tables : List TableRows) → AreTables first marks tables → AreMarkedIn (slice_get marks place) (slice_get tables place)
marked_at first place [] [] are = tt
marked_at first place [] (one ∷ tables) are = absurd are
marked_at first place (marks ∷ others) [] are = absurd are
marked_at first zero (marks ∷ others) (one ∷ tables) are = are.1
marked_at first (suc place) (marks ∷ others) (one ∷ tables) are = marked_at (first + 1) place others tables are.2

rows_of_seen : (versions : List Version) → map (λ (v : Version). v.row) versions ≡ map row_of (map seen_row versions)
rows_of_seen [] = refl
rows_of_seen (v ∷ versions) = ap (λ xs. v.row ∷ xs) (rows_of_seen versions)

-- the rows that a snapshot sees of a table
pub seen_held : (s table : ℕ) (ended : List EndedRow) (marks : List (List Mark)) (tables : List TableRows) (next applied : ℕ) → IsHolding ended marks tables next applied
    → rows_seen s table (in_order (held ended marks tables)) ≡ map row_of (put_all s table ended (seen_table s (slice_get marks table) (slice_get tables table)))
seen_held s table ended marks tables next applied h =
    let here = newest_in s table (slice_get marks table) (slice_get tables table) in
    let newest_are : filter (sees_of s table) (all_newest marks tables) ≡ here = found_at s table marks tables h.marked in
    let found : filter (sees_of s table) (in_order (held ended marks tables)) ≡ in_order (filter (sees_of s table) (map ended_row ended) ++ here) =
    filter_in_order (sees_of s table) (held ended marks tables)
    ∙ ap in_order (filter-append (sees_of s table) (map ended_row ended) (all_newest marks tables) ∙ ap (λ xs. filter (sees_of s table) (map ended_row ended) ++ xs) newest_are)
    in
    ap (map (λ (v : Version). v.row)) found
    ∙ rows_of_seen (in_order (filter (sees_of s table) (map ended_row ended) ++ here))
    ∙ ap (map row_of)
    (ended_seen s table ended here
    ∙ ap (put_all s table ended) (ap (map seen_row) (in_turn s table (slice_get marks table) (slice_get tables table) (marked_at 0 table marks tables h.marked)) ∙ in_seen s table (slice_get marks table) (slice_get tables table)))
