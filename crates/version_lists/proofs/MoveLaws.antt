-- Versions held in another order. Where no number stands twice they are the same in order.
use Rattle.std.proofs.Common.{◌≡◌, ◌≢◌, ℕ, ◌+◌, ◌<◌, ◌≤◌, Bool, true, false, if◌then◌else◌, List, [], ◌∷◌, ◌++◌, map, append-nil, nat_le, refl, sym, ◌∙◌, ap, subst, arith, rules}
use Rattle.std.specs.List.{AllByRecursion}
use Rattle.std.proofs.lemmas.Bool.Decides.{nat_tests}
use Rattle.version_lists.proofs.BlockLaws.{HaveNone, none_below, swapped}
use Rattle.version_lists.specs.Orders.{AreApart, AreLower, NoNumber, in_order, put}
use Rattle.version_lists.specs.Versions.{AreNumbered, Version}

pub record Moves (one other : List Version) : Type 0 where
  pub none : (number : ℕ) → NoNumber number one → NoNumber number other
  pub apart : AreApart one → AreApart other
  pub same : AreApart one → in_order one ≡ in_order other

pub moves_none : (one : List Version) → Moves one one
moves_none one = record { none = λ number h. h; apart = λ h. h; same = λ h. refl }

pub moves_of : (one other : List Version) → one ≡ other → Moves one other
moves_of one other is = subst (Moves one) is (moves_none one)

pub moves_on : (one mid other : List Version) → Moves one mid → Moves mid other → Moves one other
moves_on one mid other h k = record { none = λ number a. k.none number (h.none number a); apart = λ a. k.apart (h.apart a); same = λ a. h.same a ∙ k.same (h.apart a) }

pub moves_cons : (v : Version) (one other : List Version) → Moves one other → Moves (v ∷ one) (v ∷ other)
moves_cons v one other h = record {
  none = λ number a. (a.0, h.none number a.1);
  apart = λ a. (h.none v.number a.0, h.apart a.1);
  same = λ a. ap (put v) (h.same a.1);
}

pub moves_behind : (front one other : List Version) → Moves one other → Moves (front ++ one) (front ++ other)
moves_behind [] one other h = h
moves_behind (v ∷ front) one other h = moves_cons v (front ++ one) (front ++ other) (moves_behind front one other h)

swap_two : (v w : Version) (versions : List Version) → Moves (v ∷ w ∷ versions) (w ∷ v ∷ versions)
swap_two v w versions = record {
  none = λ number a. (a.1.0, (a.0, a.1.1));
  apart = λ a. ((λ is. a.0.0 (sym is), a.1.0), (a.0.1, a.1.1));
  same = λ a. swapped v w (in_order versions) (λ is. a.0.0 (sym is));
}

pub moves_past : (v : Version) (front behind : List Version) → Moves (v ∷ (front ++ behind)) (front ++ v ∷ behind)
moves_past v [] behind = moves_none (v ∷ behind)
moves_past v (w ∷ front) behind =
    moves_on (v ∷ w ∷ (front ++ behind)) (w ∷ v ∷ (front ++ behind)) (w ∷ (front ++ v ∷ behind)) (swap_two v w (front ++ behind))
    (moves_cons w (v ∷ (front ++ behind)) (front ++ v ∷ behind) (moves_past v front behind))

-- two blocks change places
pub moves_crossed : (one other behind : List Version) → Moves (one ++ (other ++ behind)) (other ++ (one ++ behind))
moves_crossed [] other behind = moves_none (other ++ behind)
moves_crossed (v ∷ one) other behind =
    moves_on (v ∷ (one ++ (other ++ behind))) (v ∷ (other ++ (one ++ behind))) (other ++ v ∷ (one ++ behind))
    (moves_cons v (one ++ (other ++ behind)) (other ++ (one ++ behind)) (moves_crossed one other behind)) (moves_past v other (one ++ behind))

-- what is held behind stays there
pub moves_front : (one other behind : List Version) → Moves one other → Moves (one ++ behind) (other ++ behind)
moves_front one other behind h =
    moves_on (one ++ behind) (behind ++ one) (other ++ behind) (turned one behind)
    (moves_on (behind ++ one) (behind ++ other) (other ++ behind) (moves_behind behind one other h) (turned behind other)) where
      turned : (one other : List Version) → Moves (one ++ other) (other ++ one)
      turned one other =
          moves_on (one ++ other) (one ++ (other ++ [])) (other ++ one) (moves_of (one ++ other) (one ++ (other ++ [])) (ap (λ xs. one ++ xs) (sym (append-nil other))))
          (moves_on (one ++ (other ++ [])) (other ++ (one ++ [])) (other ++ one) (moves_crossed one other []) (moves_of (other ++ (one ++ [])) (other ++ one) (ap (λ xs. other ++ xs) (append-nil one))))

-- What is in order can be held as it was.

out_by : (v other : Version) (versions behind : List Version) (b : Bool) → Moves behind (v ∷ versions) → Moves (if b then v ∷ other ∷ versions else other ∷ behind) (v ∷ other ∷ versions)
out_by v other versions behind true h = moves_none (v ∷ other ∷ versions)
out_by v other versions behind false h =
    moves_on (other ∷ behind) (other ∷ v ∷ versions) (v ∷ other ∷ versions) (moves_cons other behind (v ∷ versions) h) (swap_two other v versions)

put_out : (v : Version) (versions : List Version) → Moves (put v versions) (v ∷ versions)
put_out v [] = moves_none (v ∷ [])
put_out v (other ∷ versions) = out_by v other versions (put v versions) (nat_le v.number other.number) (put_out v versions)

pub out_of_order : (versions : List Version) → Moves (in_order versions) versions
out_of_order [] = moves_none []
out_of_order (v ∷ versions) =
    moves_on (put v (in_order versions)) (v ∷ in_order versions) (v ∷ versions) (put_out v (in_order versions)) (moves_cons v (in_order versions) versions (out_of_order versions))

pub apart_numbered : (low : ℕ) (versions : List Version) → AreNumbered low versions → AreApart versions
apart_numbered low [] h = tt
apart_numbered low (v ∷ versions) h = (none_below v.number (v.number + 1) versions (omega arith) h.1, apart_numbered (v.number + 1) versions h.1)

-- Without a number twice, the list in order is numbered.

below : (m n : ℕ) → m ≢ n → nat_le m n ≡ true → m + 1 ≤ n
below m n apart h = grind (arith, nat_tests)

above : (m n : ℕ) → nat_le m n ≡ false → n + 1 ≤ m
above m n h = grind (arith, nat_tests)

numbered_by : (low : ℕ) (v other : Version) (versions behind : List Version) (b : Bool) → nat_le v.number other.number ≡ b → low ≤ v.number → other.number ≢ v.number → AreNumbered low (other ∷ versions)
    → (other.number + 1 ≤ v.number → AreNumbered (other.number + 1) behind) → AreNumbered low (if b then v ∷ other ∷ versions else other ∷ behind)
numbered_by low v other versions behind true is h apart k on = (h, (below v.number other.number (λ e. apart (sym e)) is, k.1))
numbered_by low v other versions behind false is h apart k on = (k.0, on (above v.number other.number is))

put_numbered : (low : ℕ) (v : Version) (versions : List Version) → low ≤ v.number → NoNumber v.number versions → AreNumbered low versions → AreNumbered low (put v versions)
put_numbered low v [] h none k = (h, tt)
put_numbered low v (other ∷ versions) h none k =
    numbered_by low v other versions (put v versions) (nat_le v.number other.number) refl h none.0 k (λ le. put_numbered (other.number + 1) v versions le none.1 k.1)

none_by : (number : ℕ) (v other : Version) (versions behind : List Version) (b : Bool) → v.number ≢ number → NoNumber number (other ∷ versions) → NoNumber number behind → NoNumber number (if b then v ∷ other ∷ versions else other ∷ behind)
none_by number v other versions behind true h k on = (h, k)
none_by number v other versions behind false h k on = (k.0, on)

put_none : (number : ℕ) (v : Version) (versions : List Version) → v.number ≢ number → NoNumber number versions → NoNumber number (put v versions)
put_none number v [] h k = (h, tt)
put_none number v (other ∷ versions) h k = none_by number v other versions (put v versions) (nat_le v.number other.number) h k (put_none number v versions h k.1)

order_none : (number : ℕ) (versions : List Version) → NoNumber number versions → NoNumber number (in_order versions)
order_none number [] h = tt
order_none number (v ∷ versions) h = put_none number v (in_order versions) h.0 (order_none number versions h.1)

pub numbered_of : (versions : List Version) → AreApart versions → AreNumbered 0 (in_order versions)
numbered_of [] h = tt
numbered_of (v ∷ versions) h = put_numbered 0 v (in_order versions) (omega arith) (order_none v.number versions h.0) (numbered_of versions h.1)

-- What is true of each version stays so in order, and the other way round.
module _ (P : Version → Type 0) where
  all_by : (v other : Version) (versions behind : List Version) (b : Bool) → P v → AllByRecursion P (other ∷ versions) → AllByRecursion P behind → AllByRecursion P (if b then v ∷ other ∷ versions else other ∷ behind)
  all_by v other versions behind true h k on = (h, k)
  all_by v other versions behind false h k on = (k.0, on)

  put_all : (v : Version) (versions : List Version) → P v → AllByRecursion P versions → AllByRecursion P (put v versions)
  put_all v [] h k = (h, tt)
  put_all v (other ∷ versions) h k = all_by v other versions (put v versions) (nat_le v.number other.number) h k (put_all v versions h k.1)

  pub all_in_order : (versions : List Version) → AllByRecursion P versions → AllByRecursion P (in_order versions)
  all_in_order [] h = tt
  all_in_order (v ∷ versions) h = put_all v (in_order versions) h.0 (all_in_order versions h.1)

  left_by : (v other : Version) (versions behind : List Version) (b : Bool) → (AllByRecursion P behind → P v × AllByRecursion P versions) → AllByRecursion P (if b then v ∷ other ∷ versions else other ∷ behind)
      → P v × AllByRecursion P (other ∷ versions)
  left_by v other versions behind true on h = h
  left_by v other versions behind false on h = let rest = on h.1 in (rest.0, (h.0, rest.1))

  out_all : (v : Version) (versions : List Version) → AllByRecursion P (put v versions) → P v × AllByRecursion P versions
  out_all v [] h = h
  out_all v (other ∷ versions) h = left_by v other versions (put v versions) (nat_le v.number other.number) (out_all v versions) h

  pub all_held : (versions : List Version) → AllByRecursion P (in_order versions) → AllByRecursion P versions
  all_held [] h = tt
  all_held (v ∷ versions) h = let rest = out_all v (in_order versions) h in (rest.0, all_held versions rest.1)

  pub all_append : (one other : List Version) → AllByRecursion P one → AllByRecursion P other → AllByRecursion P (one ++ other)
  all_append [] other h k = k
  all_append (v ∷ one) other h k = (h.0, all_append one other h.1 k)

-- all below a number, as a fact of each
pub lower_all : (high : ℕ) (versions : List Version) → AreLower high versions → AllByRecursion (λ (v : Version). v.number < high) versions
lower_all high [] h = tt
lower_all high (v ∷ versions) h = (h.0, lower_all high versions h.1)

pub all_lower : (high : ℕ) (versions : List Version) → AllByRecursion (λ (v : Version). v.number < high) versions → AreLower high versions
all_lower high [] h = tt
all_lower high (v ∷ versions) h = (h.0, all_lower high versions h.1)

-- Two lists of which no number stands twice, and that have none in common.

none_append : (number : ℕ) (one other : List Version) → NoNumber number one → NoNumber number other → NoNumber number (one ++ other)
none_append number [] other h k = k
none_append number (v ∷ one) other h k = (h.0, none_append number one other h.1 k)

pub apart_append : (one other : List Version) → AreApart one → AreApart other → HaveNone one other → AreApart (one ++ other)
apart_append [] other h k none = k
apart_append (v ∷ one) other h k none = (none_append v.number one other h.0 none.0, apart_append one other h.1 k none.1)

none_from : (number low : ℕ) (versions : List Version) → number < low → AllByRecursion (λ (v : Version). low ≤ v.number) versions → NoNumber number versions
none_from number low [] h k = tt
none_from number low (v ∷ versions) h k =
    let a = k.0 in
    (λ same. let e = same in let never : ⊥ = omega (arith, a, h, e) in never, none_from number low versions h k.1)

pub apart_from : (high : ℕ) (one other : List Version) → AreLower high one → AllByRecursion (λ (v : Version). high ≤ v.number) other → HaveNone one other
apart_from high [] other h k = tt
apart_from high (v ∷ one) other h k = (none_from v.number high other h.0 k, apart_from high one other h.1 k)

-- A change that leaves the numbers.
module _ (f : Version → Version) (same : (v : Version) → (f v).number ≡ v.number) where
  none_mapped : (number : ℕ) (versions : List Version) → NoNumber number versions → NoNumber number (map f versions)
  none_mapped number [] h = tt
  none_mapped number (v ∷ versions) h = (λ is. h.0 (sym (same v) ∙ is), none_mapped number versions h.1)

  pub apart_mapped : (versions : List Version) → AreApart versions → AreApart (map f versions)
  apart_mapped [] h = tt
  apart_mapped (v ∷ versions) h = (subst (λ n. NoNumber n (map f versions)) (sym (same v)) (none_mapped v.number versions h.0), apart_mapped versions h.1)

  pub lower_mapped : (high : ℕ) (versions : List Version) → AreLower high versions → AreLower high (map f versions)
  lower_mapped high [] h = tt
  lower_mapped high (v ∷ versions) h = (subst (λ n. n < high) (sym (same v)) h.0, lower_mapped high versions h.1)
