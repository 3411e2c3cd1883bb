-- A write on versions is the write on their newest rows; and what a snapshot past all begins and ends sees are those.
use Rattle.std.proofs.Common.{◌≡◌, ℕ, ◌+◌, ◌≤◌, ◌==◌, Bool, true, false, cond, not, ◌&&◌, if◌then◌else◌, List, [], ◌∷◌, ◌++◌, map, filter, flat_map, Option, Some, None, nat_le, MatchBool, refl, sym, ◌∙◌, ap, ap₂, subst, arith, rules}
use Rattle.std.specs.List.{AllByRecursion}
use Rattle.std.proofs.lemmas.Bool.Decides.{nat_tests}
use Rattle.std.proofs.lemmas.List.{map-append}
use Rattle.std.proofs.lemmas.List.Elements.{filter-append}
use Rattle.feature_expr.specs.declared.expr.Expr.{Expr}
use Rattle.write_meaning.specs.RowWrites.{IsFate, AreFates, staying, begun_by, begun, holding, inserted, IsRowWrite}
use Rattle.version_lists.specs.Versions.{Version, begun_versions, ended_version, sees, sees_of, ended_at, is_open, is_newest, newest_rows, rows_seen, seen_at, without_end, EndsBy, IsPlaced}
use Rattle.stored_versions.specs.VersionWrites.{Held, AreVersionFates, by_fate, ended_in, IsTableWrite}
use Rattle.vra_syntax.specs.declared.write.Write.{Write}
use Rattle.vschema.specs.declared.catalog.Table.{Table}
use Rattle.vtable.specs.declared.table.VRow.{VRow}
use Rattle.write_meaning.specs.declared.fate.Fate.{Fate}
use Rattle.write_meaning.specs.declared.fate.Fate.TheVariants.{Stays, Ends}

rows_append : (number : ℕ) (xs ys : List Version) → newest_rows number (xs ++ ys) ≡ newest_rows number xs ++ newest_rows number ys
rows_append number xs ys = ap (map (λ (v : Version). v.row)) (filter-append (is_newest number) xs ys) ∙ map-append (λ (v : Version). v.row) (filter (is_newest number) xs) (filter (is_newest number) ys)

abbrev row_by : Bool → VRow → List VRow
row_by b row = cond b (row ∷ []) []

one_newest : (b : Bool) (v : Version) → map (λ (v : Version). v.row) (cond b (v ∷ []) []) ≡ row_by b v.row
one_newest true v = refl
one_newest false v = refl

and_false : (a : Bool) → (a && false) ≡ false
and_false true = refl
and_false false = refl

-- a version that has ended is none of the newest
not_newest : (number k : ℕ) (v : Version) → newest_rows number (ended_version k v ∷ []) ≡ []
not_newest number k v = ap (λ b. map (λ (v : Version). v.row) (cond b (ended_version k v ∷ []) [])) (and_false (v.table == number))

ends_none : (number k : ℕ) (v : Version) (b : Bool) → newest_rows number (if b then [] else ended_version k v ∷ []) ≡ []
ends_none number k v true = refl
ends_none number k v false = not_newest number k v

-- the fates of the newest rows
abbrev fate_by : Bool → Fate → List Fate
fate_by true fate = fate ∷ []
fate_by false fate = []

abbrev fates_of : ℕ → List Version → List Fate → List Fate
fates_of number [] fates = []
fates_of number (v ∷ versions) [] = []
fates_of number (v ∷ versions) (fate ∷ fates) = fate_by (is_newest number v) fate ++ fates_of number versions fates

module _ (model : Expr) (number : ℕ) (table : Table) (w : Write) where
  fates_step : (b : Bool) (v : Version) (fate : Fate) (rows : List VRow) (fates : List Fate) → MatchBool b (IsFate model table w v.row fate) (fate ≡ Stays) → AreFates model table w rows fates
      → AreFates model table w (row_by b v.row ++ rows) (fate_by b fate ++ fates)
  fates_step true v fate rows fates is rest = (is, rest)
  fates_step false v fate rows fates is rest = rest

  newest_cons : (v : Version) (versions : List Version) → newest_rows number (v ∷ versions) ≡ row_by (is_newest number v) v.row ++ newest_rows number versions
  newest_cons v versions = rows_append number (v ∷ []) versions ∙ ap (λ xs. xs ++ newest_rows number versions) (one_newest (is_newest number v) v)

  are_fates : (versions : List Version) (fates : List Fate) → AreVersionFates model number table w versions fates → AreFates model table w (newest_rows number versions) (fates_of number versions fates)
  are_fates [] [] are = tt
  are_fates [] (fate ∷ fates) are = absurd are
  are_fates (v ∷ versions) [] are = absurd are
  are_fates (v ∷ versions) (fate ∷ fates) are =
      subst (λ rows. AreFates model table w rows (fates_of number (v ∷ versions) (fate ∷ fates))) (sym (newest_cons v versions))
      (fates_step (is_newest number v) v fate (newest_rows number versions) (fates_of number versions fates) are.0 (are_fates versions fates are.1))

  staying_step : (b : Bool) (v : Version) (fate : Fate) (rows : List VRow) (fates : List Fate) → MatchBool b (IsFate model table w v.row fate) (fate ≡ Stays)
      → row_by b v.row ≡ newest_rows number (v ∷ []) → (k : ℕ)
      → newest_rows number (by_fate k fate v) ++ staying rows fates ≡ staying (row_by b v.row ++ rows) (fate_by b fate ++ fates)
  staying_step true v Stays rows fates is one k = ap (λ xs. xs ++ staying rows fates) (sym one)
  staying_step true v (Ends begun) rows fates is one k = ap (λ xs. xs ++ staying rows fates) (ends_none number k v (v.begins == k))
  staying_step false v Stays rows fates is one k = ap (λ xs. xs ++ staying rows fates) (sym one)
  staying_step false v (Ends begun) rows fates is one k = ap (λ xs. xs ++ staying rows fates) (ends_none number k v (v.begins == k))

  stay : (k : ℕ) (versions : List Version) (fates : List Fate) → AreVersionFates model number table w versions fates
      → newest_rows number (ended_in k versions fates) ≡ staying (newest_rows number versions) (fates_of number versions fates)
  stay k [] [] are = refl
  stay k [] (fate ∷ fates) are = absurd are
  stay k (v ∷ versions) [] are = absurd are
  stay k (v ∷ versions) (fate ∷ fates) are =
      rows_append number (by_fate k fate v) (ended_in k versions fates)
      ∙ ap (λ xs. newest_rows number (by_fate k fate v) ++ xs) (stay k versions fates are.1)
      ∙ staying_step (is_newest number v) v fate (newest_rows number versions) (fates_of number versions fates) are.0 (sym (one_newest (is_newest number v) v)) k
      ∙ ap (λ rows. staying rows (fates_of number (v ∷ versions) (fate ∷ fates))) (sym (newest_cons v versions))

  begun_step : (b : Bool) (v : Version) (fate : Fate) (fates : List Fate) (rest : List VRow) → MatchBool b (IsFate model table w v.row fate) (fate ≡ Stays) → rest ≡ flat_map begun_by fates
      → begun_by fate ++ rest ≡ flat_map begun_by (fate_by b fate ++ fates)
  begun_step true v fate fates rest is same = ap (λ xs. begun_by fate ++ xs) same
  begun_step false v fate fates rest is same = ap (λ (f : Fate). begun_by f ++ rest) is ∙ same

  begun_same : (versions : List Version) (fates : List Fate) → AreVersionFates model number table w versions fates → flat_map begun_by fates ≡ flat_map begun_by (fates_of number versions fates)
  begun_same [] [] are = refl
  begun_same [] (fate ∷ fates) are = absurd are
  begun_same (v ∷ versions) [] are = absurd are
  begun_same (v ∷ versions) (fate ∷ fates) are =
      begun_step (is_newest number v) v fate (fates_of number versions fates) (flat_map begun_by fates) are.0 (begun_same versions fates are.1)

  eq_self : (n : ℕ) → (n == n) ≡ true
  eq_self n = grind (arith, nat_tests)

  newest_begun : (k next : ℕ) (rows : List VRow) → newest_rows number (begun_versions next k number rows) ≡ rows
  newest_begun k next [] = refl
  newest_begun k next (row ∷ rows) =
      newest_cons (record { number = next; table = number; begins = k; ends = None; row = row }) (begun_versions (next + 1) k number rows)
      ∙ ap₂ (λ b xs. row_by (b && true) row ++ xs) (eq_self number) (newest_begun k (next + 1) rows)

  -- A write on versions is the write on the newest rows of its table.
  pub newest_write : (k : ℕ) (old new : Held) → IsTableWrite model k number table w old new → IsRowWrite model table w (newest_rows number old.versions) (newest_rows number new.versions)
  newest_write k old new it = record {
    fates = fates_of number old.versions it.fates;
    are_fates = are_fates old.versions it.fates it.are_fates;
    new_are =
        ap (newest_rows number) it.versions
        ∙ rows_append number (ended_in k old.versions it.fates) (begun_versions old.next k number (begun model table w it.fates))
        ∙ ap₂ (λ xs ys. xs ++ ys) (stay k old.versions it.fates it.are_fates)
        (newest_begun k old.next (begun model table w it.fates) ∙ ap (λ xs. holding model table (inserted table w) ++ xs) (begun_same old.versions it.fates it.are_fates));
  }

-- The snapshot of all applied commits sees the newest rows.

begun_by_then : (s k : ℕ) → k ≤ s → nat_le k s ≡ true
begun_by_then s k h = grind (arith, nat_tests)

newest_seen : (s begins : ℕ) (ends : Option ℕ) → EndsBy s begins ends → (nat_le begins s && not (ended_at s ends)) ≡ is_open ends
newest_seen s begins None h = ap (λ b. b && true) (begun_by_then s begins h)
newest_seen s begins (Some k) h = ap (λ b. nat_le begins s && not b) (begun_by_then s k h.1) ∙ and_false (nat_le begins s)

rows_step : (a b : Bool) (v : Version) (seen newest : List Version) → a ≡ b → map (λ (v : Version). v.row) seen ≡ map (λ (v : Version). v.row) newest
    → map (λ (v : Version). v.row) (cond a (v ∷ seen) seen) ≡ map (λ (v : Version). v.row) (cond b (v ∷ newest) newest)
rows_step true true v seen newest is rest = ap (λ xs. v.row ∷ xs) rest
rows_step false false v seen newest is rest = rest
rows_step true false v seen newest is rest = search rules
rows_step false true v seen newest is rest = search rules

-- what the snapshot of all applied commits sees of a table are its newest rows, which can be lent
pub newest_are_seen : (applied number : ℕ) (versions : List Version) → AllByRecursion (IsPlaced applied) versions → rows_seen applied number versions ≡ newest_rows number versions
newest_are_seen applied number [] h = refl
newest_are_seen applied number (v ∷ versions) h =
    rows_step (sees_of applied number v) (is_newest number v) v (filter (sees_of applied number) versions) (filter (is_newest number) versions)
    (ap (λ b. (v.table == number) && b) (newest_seen applied v.begins v.ends h.0)) (newest_are_seen applied number versions h.1)

-- What a snapshot sees of a table follows from what it sees.

abbrev of_table : ℕ → Version → Bool
of_table number v = v.table == number

seen_step : (a b : Bool) (number : ℕ) (v : Version) (seen : List Version) (here : List Version) → (v.table == number) ≡ a → map (λ (v : Version). v.row) here ≡ map (λ (v : Version). v.row) (filter (of_table number) (map without_end seen))
    → map (λ (v : Version). v.row) (cond (a && b) (v ∷ here) here) ≡ map (λ (v : Version). v.row) (filter (of_table number) (map without_end (cond b (v ∷ seen) seen)))
seen_step true true number v seen here is rest =
    ap (λ xs. v.row ∷ xs) rest ∙ ap (λ b. map (λ (v : Version). v.row) (cond b (without_end v ∷ filter (of_table number) (map without_end seen)) (filter (of_table number) (map without_end seen)))) (sym is)
seen_step false true number v seen here is rest =
    rest ∙ ap (λ b. map (λ (v : Version). v.row) (cond b (without_end v ∷ filter (of_table number) (map without_end seen)) (filter (of_table number) (map without_end seen)))) (sym is)
seen_step true false number v seen here is rest = rest
seen_step false false number v seen here is rest = rest

pub rows_of_seen : (s number : ℕ) (versions : List Version) → rows_seen s number versions ≡ map (λ (v : Version). v.row) (filter (of_table number) (seen_at s versions))
rows_of_seen s number [] = refl
rows_of_seen s number (v ∷ versions) = seen_step (v.table == number) (sees s v) number v (filter (sees s) versions) (filter (sees_of s number) versions) refl (rows_of_seen s number versions)

-- So what two lists show alike, the tables show alike.
pub same_seen : (s number : ℕ) (one other : List Version) → seen_at s one ≡ seen_at s other → rows_seen s number one ≡ rows_seen s number other
same_seen s number one other same =
    rows_of_seen s number one ∙ ap (λ versions. map (λ (v : Version). v.row) (filter (of_table number) versions)) same ∙ sym (rows_of_seen s number other)
