-- How many versions are held: no more than numbers were given.
use Rattle.std.proofs.Common.{◌≡◌, ℕ, ◌+◌, ◌≤◌, Bool, true, false, if◌then◌else◌, List, [], ◌∷◌, length, map, nat_le, refl, sym, ◌∙◌, ap₂, subst, arith}
use Rattle.std.proofs.lemmas.List.{length-append, length-map}
use Rattle.plan_tables.specs.declared.rows.TableRows.{TableRows}
use Rattle.row_versions.specs.Holdings.{AreMarked, AreTables, IsHolding, all_newest, ended_row, held, newest_of}
use Rattle.row_versions.specs.Stored.{row_count}
use Rattle.row_versions.specs.declared.ended.EndedRow.{EndedRow}
use Rattle.row_versions.specs.declared.mark.Mark.{Mark}
use Rattle.version_lists.specs.Orders.{AreLower, in_order, put}
use Rattle.version_lists.specs.Versions.{AreNumbered, Version}
use Rattle.vtable.specs.declared.table.VRow.{VRow}

put_by : (v other : Version) (versions behind : List Version) (b : Bool) → length behind ≡ length versions + 1 → length (if b then v ∷ other ∷ versions else other ∷ behind) ≡ length versions + 2
put_by v other versions behind true h = omega arith
put_by v other versions behind false h = omega (arith, h)

put_one : (v : Version) (versions : List Version) → length (put v versions) ≡ length versions + 1
put_one v [] = refl
put_one v (other ∷ versions) = let h = put_by v other versions (put v versions) (nat_le v.number other.number) (put_one v versions) in omega (arith, h)

order_count : (versions : List Version) → length (in_order versions) ≡ length versions
order_count [] = refl
order_count (v ∷ versions) = let one = put_one v (in_order versions) in let rest = order_count versions in omega (arith, one, rest)

marked_count : (low table : ℕ) (marks : List Mark) (rows : List VRow) → AreMarked low marks rows → length (newest_of table marks rows) ≡ length rows
marked_count low table [] [] h = refl
marked_count low table [] (row ∷ rows) h = absurd h
marked_count low table (mark ∷ marks) [] h = absurd h
marked_count low table (mark ∷ marks) (row ∷ rows) h = let rest = marked_count (mark.number + 1) table marks rows h.1 in omega (arith, rest)

newest_count : (number : ℕ) (marks : List (List Mark)) (tables : List TableRows) → AreTables number marks tables → length (all_newest marks tables) ≡ row_count tables
newest_count number [] [] h = refl
newest_count number [] (table ∷ tables) h = absurd h
newest_count number (marks ∷ others) [] h = absurd h
newest_count number (marks ∷ others) (table ∷ tables) h =
    length-append (newest_of table.table marks table.rows.rows) (all_newest others tables)
    ∙ ap₂ (λ m n. m + n) (marked_count 0 table.table marks table.rows.rows h.1) (newest_count (number + 1) others tables h.2)

pub held_count : (ended : List EndedRow) (marks : List (List Mark)) (tables : List TableRows) (next applied : ℕ) → IsHolding ended marks tables next applied → length (in_order (held ended marks tables)) ≡ length ended + row_count tables
held_count ended marks tables next applied h =
    order_count (held ended marks tables)
    ∙ length-append (map ended_row ended) (all_newest marks tables)
    ∙ ap₂ (λ m n. m + n) (length-map ended ended_row) (newest_count 0 marks tables h.marked)

few : (low high : ℕ) (versions : List Version) → low ≤ high → AreNumbered low versions → AreLower high versions → low + length versions ≤ high
few low high [] h k l = omega (arith, h)
few low high (v ∷ versions) h k l =
    let a = k.0 in let b = l.0 in
    let rest = few (v.number + 1) high versions (omega (arith, b)) k.1 l.1 in
    omega (arith, a, rest)

within : (ended : List EndedRow) (marks : List (List Mark)) (tables : List TableRows) (next applied : ℕ) → IsHolding ended marks tables next applied → length ended + row_count tables ≤ next
within ended marks tables next applied h =
    let few = few 0 next (in_order (held ended marks tables)) (omega arith) h.kept.numbered h.kept.lower in
    let count = held_count ended marks tables next applied h in
    omega (arith, few, count)

pub within_held : (ended : List EndedRow) (marks : List (List Mark)) (tables counted : List TableRows) (next applied count : ℕ) → IsHolding ended marks tables next applied → count ≡ length ended → counted ≡ tables → count + row_count counted ≤ next
within_held ended marks tables counted next applied count h is same =
    subst (λ n. n + row_count counted ≤ next) (sym is) (subst (λ ts. length ended + row_count ts ≤ next) (sym same) (within ended marks tables next applied h))
