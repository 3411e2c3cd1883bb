-- Where no number stands twice, versions that are held in another order are the same in order.
use Rattle.std.proofs.Common.{◌≡◌, ◌≢◌, ℕ, ◌+◌, ◌<◌, ◌≤◌, Bool, true, false, if◌then◌else◌, List, [], ◌∷◌, ◌++◌, map, nat_le, refl, sym, ◌∙◌, ap, ap₂, arith, rules}
use Rattle.std.proofs.lemmas.Bool.Decides.{nat_tests}
use Rattle.version_lists.proofs.OrderLaws.{le_yes}
use Rattle.version_lists.specs.Orders.{AreApart, AreLower, NoNumber, in_order, put}
use Rattle.version_lists.specs.Versions.{AreNumbered, Version}

-- A change that leaves the numbers can be made before or behind the order.
module _ (f : Version → Version) (same : (v : Version) → (f v).number ≡ v.number) where
  put_by : (v other : Version) (versions : List Version) (b : Bool) → put (f v) (map f versions) ≡ map f (put v versions)
      → (if b then f v ∷ f other ∷ map f versions else f other ∷ put (f v) (map f versions)) ≡ map f (if b then v ∷ other ∷ versions else other ∷ put v versions)
  put_by v other versions true on = refl
  put_by v other versions false on = ap (λ xs. f other ∷ xs) on

  put_mapped : (v : Version) (versions : List Version) → put (f v) (map f versions) ≡ map f (put v versions)
  put_mapped v [] = refl
  put_mapped v (other ∷ versions) =
      ap₂ (λ m n. if nat_le m n then f v ∷ f other ∷ map f versions else f other ∷ put (f v) (map f versions)) (same v) (same other)
      ∙ put_by v other versions (nat_le v.number other.number) (put_mapped v versions)

  pub map_in_order : (versions : List Version) → map f (in_order versions) ≡ in_order (map f versions)
  map_in_order [] = refl
  map_in_order (v ∷ versions) = sym (put_mapped v (in_order versions)) ∙ ap (put (f v)) (map_in_order versions)

-- Two versions of different numbers are put in either order.

less : (m n : ℕ) → m ≢ n → nat_le m n ≡ true → nat_le n m ≡ false
less m n apart h = grind (arith, nat_tests)

more : (m n : ℕ) → nat_le m n ≡ false → nat_le n m ≡ true
more m n h = grind (arith, nat_tests)

through : (m n k : ℕ) → nat_le m k ≡ true → nat_le n k ≡ false → nat_le n m ≡ false
through m n k h i = grind (arith, nat_tests)

first : (v other : Version) (versions : List Version) → nat_le v.number other.number ≡ true → put v (other ∷ versions) ≡ v ∷ other ∷ versions
first v other versions h = ap (λ b. if b then v ∷ other ∷ versions else other ∷ put v versions) h

behind : (v other : Version) (versions : List Version) → nat_le v.number other.number ≡ false → put v (other ∷ versions) ≡ other ∷ put v versions
behind v other versions h = ap (λ b. if b then v ∷ other ∷ versions else other ∷ put v versions) h

none_by : (v other : Version) (b : Bool) → v.number ≢ other.number → nat_le v.number other.number ≡ b → put v (other ∷ []) ≡ put other (v ∷ [])
none_by v other true apart h = first v other [] h ∙ sym (behind other v [] (less v.number other.number apart h))
none_by v other false apart h = behind v other [] h ∙ sym (first other v [] (more v.number other.number h))

swap_by : (v other x : Version) (versions : List Version) (p q r : Bool) → v.number ≢ other.number → nat_le v.number x.number ≡ p → nat_le other.number x.number ≡ q → nat_le v.number other.number ≡ r
    → put v (put other versions) ≡ put other (put v versions) → put v (put other (x ∷ versions)) ≡ put other (put v (x ∷ versions))
swap_by v other x versions true true true apart h i j on =
    ap (put v) (first other x versions i) ∙ first v other (x ∷ versions) j
    ∙ sym (ap (put other) (first v x versions h) ∙ behind other v (x ∷ versions) (less v.number other.number apart j) ∙ ap (λ xs. v ∷ xs) (first other x versions i))
swap_by v other x versions true true false apart h i j on =
    ap (put v) (first other x versions i) ∙ behind v other (x ∷ versions) j ∙ ap (λ xs. other ∷ xs) (first v x versions h)
    ∙ sym (ap (put other) (first v x versions h) ∙ first other v (x ∷ versions) (more v.number other.number j))
swap_by v other x versions true false r apart h i j on =
    ap (put v) (behind other x versions i) ∙ first v x (put other versions) h
    ∙ sym (ap (put other) (first v x versions h) ∙ behind other v (x ∷ versions) (through v.number other.number x.number h i) ∙ ap (λ xs. v ∷ xs) (behind other x versions i))
swap_by v other x versions false true r apart h i j on =
    ap (put v) (first other x versions i) ∙ behind v other (x ∷ versions) (through other.number v.number x.number i h) ∙ ap (λ xs. other ∷ xs) (behind v x versions h)
    ∙ sym (ap (put other) (behind v x versions h) ∙ first other x (put v versions) i)
swap_by v other x versions false false r apart h i j on =
    ap (put v) (behind other x versions i) ∙ behind v x (put other versions) h ∙ ap (λ xs. x ∷ xs) on
    ∙ sym (ap (put other) (behind v x versions h) ∙ behind other x (put v versions) i)

pub swapped : (v other : Version) (versions : List Version) → v.number ≢ other.number → put v (put other versions) ≡ put other (put v versions)
swapped v other [] apart = none_by v other (nat_le v.number other.number) apart refl
swapped v other (x ∷ versions) apart =
    swap_by v other x versions (nat_le v.number x.number) (nat_le other.number x.number) (nat_le v.number other.number) apart refl refl refl (swapped v other versions apart)

-- a version comes to the front
pub to_front : (v : Version) (before behind : List Version) → NoNumber v.number before → in_order (before ++ v ∷ behind) ≡ in_order (v ∷ before ++ behind)
to_front v [] behind h = refl
to_front v (x ∷ before) behind h = ap (put x) (to_front v before behind h.1) ∙ swapped x v (in_order (before ++ behind)) h.0

-- what is held in front stays there
pub in_front_of : (front one other : List Version) → in_order one ≡ in_order other → in_order (front ++ one) ≡ in_order (front ++ other)
in_front_of [] one other same = same
in_front_of (v ∷ front) one other same = ap (put v) (in_front_of front one other same)

-- no number of the first ones is one of the second ones
abbrev pub HaveNone : List Version → List Version → Type 0
HaveNone [] others = Unit {0}
HaveNone (v ∷ versions) others = NoNumber v.number others × HaveNone versions others

-- two blocks change places
pub crossed : (one other behind : List Version) → HaveNone one other → in_order (one ++ (other ++ behind)) ≡ in_order (other ++ (one ++ behind))
crossed [] other behind h = refl
crossed (v ∷ one) other behind h = ap (put v) (crossed one other behind h.1) ∙ sym (to_front v other (one ++ behind) h.0)

-- What is in order without a number twice has no number twice.

within : (low high : ℕ) (versions : List Version) → low ≤ high → AreNumbered high versions → AreNumbered low versions
within low high [] h k = tt
within low high (v ∷ versions) h k = (let a = k.0 in omega (arith, a, h), k.1)

pub none_below : (number low : ℕ) (versions : List Version) → number < low → AreNumbered low versions → NoNumber number versions
none_below number low [] h k = tt
none_below number low (v ∷ versions) h k =
    let a = k.0 in
    (λ same. let e = same in let never : ⊥ = omega (arith, a, h, e) in never, none_below number (v.number + 1) versions (omega (arith, a, h)) k.1)

-- of a list that is numbered with a version put into it
pub record IsPutInto (low : ℕ) (v : Version) (versions : List Version) : Type 0 where
  pub none : NoNumber v.number versions
  pub rest : AreNumbered low versions
  pub low_is : low ≤ v.number

le_of : (a b : ℕ) → nat_le a b ≡ true → a ≤ b
le_of a b h = grind (arith, nat_tests)

less_of : (a b : ℕ) → nat_le a b ≡ false → b < a
less_of a b h = grind (arith, nat_tests)

put_into_by : (low : ℕ) (v other : Version) (versions behind : List Version) (b : Bool) → nat_le v.number other.number ≡ b → (AreNumbered (other.number + 1) behind → IsPutInto (other.number + 1) v versions)
    → AreNumbered low (if b then v ∷ other ∷ versions else other ∷ behind) → IsPutInto low v (other ∷ versions)
put_into_by low v other versions behind true is on h =
    let a = h.0 in let b = h.1.0 in
    record {
      none = (λ same. let e = same in let never : ⊥ = omega (arith, b, e) in never, none_below v.number (other.number + 1) versions (omega (arith, b)) h.1.1);
      rest = (omega (arith, a, b), h.1.1);
      low_is = a;
    }
put_into_by low v other versions behind false is on h =
    let rest = on h.1 in
    let a = h.0 in let b = rest.low_is in
    record {
      none = (λ same. let e = same in let never : ⊥ = omega (arith, b, e) in never, rest.none);
      rest = (a, rest.rest);
      low_is = omega (arith, a, b);
    }

put_into : (low : ℕ) (v : Version) (versions : List Version) → AreNumbered low (put v versions) → IsPutInto low v versions
put_into low v [] h = record { none = tt; rest = tt; low_is = h.0 }
put_into low v (other ∷ versions) h =
    put_into_by low v other versions (put v versions) (nat_le v.number other.number) refl (put_into (other.number + 1) v versions) h

none_put_by : (number : ℕ) (v other : Version) (versions behind : List Version) (b : Bool) → (NoNumber number behind → (v.number ≢ number) × NoNumber number versions)
    → NoNumber number (if b then v ∷ other ∷ versions else other ∷ behind) → (v.number ≢ number) × NoNumber number (other ∷ versions)
none_put_by number v other versions behind true on h = h
none_put_by number v other versions behind false on h = let rest = on h.1 in (rest.0, (h.0, rest.1))

none_put : (number : ℕ) (v : Version) (versions : List Version) → NoNumber number (put v versions) → (v.number ≢ number) × NoNumber number versions
none_put number v [] h = h
none_put number v (other ∷ versions) h = none_put_by number v other versions (put v versions) (nat_le v.number other.number) (none_put number v versions) h

none_held : (number : ℕ) (versions : List Version) → NoNumber number (in_order versions) → NoNumber number versions
none_held number [] h = tt
none_held number (v ∷ versions) h = let rest = none_put number v (in_order versions) h in (rest.0, none_held number versions rest.1)

pub apart_of : (low : ℕ) (versions : List Version) → AreNumbered low (in_order versions) → AreApart versions
apart_of low [] h = tt
apart_of low (v ∷ versions) h = let it = put_into low v (in_order versions) h in (none_held v.number versions it.none, apart_of low versions it.rest)

-- of two blocks of which no number stands twice, none stands in both

none_first : (number : ℕ) (one other : List Version) → NoNumber number (one ++ other) → NoNumber number one
none_first number [] other h = tt
none_first number (v ∷ one) other h = (h.0, none_first number one other h.1)

none_second : (number : ℕ) (one other : List Version) → NoNumber number (one ++ other) → NoNumber number other
none_second number [] other h = h
none_second number (v ∷ one) other h = none_second number one other h.1

pub apart_both : (one other : List Version) → AreApart (one ++ other) → HaveNone one other
apart_both [] other h = tt
apart_both (v ∷ one) other h = (none_second v.number one other h.0, apart_both one other h.1)

pub apart_first : (one other : List Version) → AreApart (one ++ other) → AreApart one
apart_first [] other h = tt
apart_first (v ∷ one) other h = (none_first v.number one other h.0, apart_first one other h.1)

pub apart_second : (one other : List Version) → AreApart (one ++ other) → AreApart other
apart_second [] other h = h
apart_second (v ∷ one) other h = apart_second one other h.1

-- Versions that ascend are in order already, and stay behind those of lower numbers.

pub already : (low : ℕ) (versions : List Version) → AreNumbered low versions → in_order versions ≡ versions
already low [] h = refl
already low (v ∷ versions) h = ap (put v) (already (v.number + 1) versions h.1) ∙ put_first v versions h.1 where
  put_first : (v : Version) (versions : List Version) → AreNumbered (v.number + 1) versions → put v versions ≡ v ∷ versions
  put_first v [] h = refl
  put_first v (other ∷ versions) h = let a = h.0 in first v other versions (le_yes v.number other.number (omega (arith, a)))

put_lower_by : (v other : Version) (versions behind : List Version) (b : Bool) → put v (versions ++ behind) ≡ put v versions ++ behind
    → (if b then v ∷ other ∷ (versions ++ behind) else other ∷ put v (versions ++ behind)) ≡ (if b then v ∷ other ∷ versions else other ∷ put v versions) ++ behind
put_lower_by v other versions behind true on = refl
put_lower_by v other versions behind false on = ap (λ xs. other ∷ xs) on

put_lower : (high : ℕ) (v : Version) (versions behind : List Version) → v.number < high → AreNumbered high behind → put v (versions ++ behind) ≡ put v versions ++ behind
put_lower high v [] [] h k = refl
put_lower high v [] (other ∷ behind) h k = let a = k.0 in first v other behind (le_yes v.number other.number (omega (arith, a, h)))
put_lower high v (other ∷ versions) behind h k = put_lower_by v other versions behind (nat_le v.number other.number) (put_lower high v versions behind h k)

pub stays_behind : (high : ℕ) (versions behind : List Version) → AreLower high versions → AreNumbered high behind → in_order (versions ++ behind) ≡ in_order versions ++ behind
stays_behind high [] behind h k = already high behind k
stays_behind high (v ∷ versions) behind h k = ap (put v) (stays_behind high versions behind h.1 k) ∙ put_lower high v (in_order versions) behind h.0 k

-- those held are below what those in order are below

lower_put_by : (high : ℕ) (v other : Version) (versions behind : List Version) (b : Bool) → (AreLower high behind → (v.number < high) × AreLower high versions)
    → AreLower high (if b then v ∷ other ∷ versions else other ∷ behind) → (v.number < high) × AreLower high (other ∷ versions)
lower_put_by high v other versions behind true on h = h
lower_put_by high v other versions behind false on h = let rest = on h.1 in (rest.0, (h.0, rest.1))

lower_put : (high : ℕ) (v : Version) (versions : List Version) → AreLower high (put v versions) → (v.number < high) × AreLower high versions
lower_put high v [] h = h
lower_put high v (other ∷ versions) h = lower_put_by high v other versions (put v versions) (nat_le v.number other.number) (lower_put high v versions) h

pub lower_held : (high : ℕ) (versions : List Version) → AreLower high (in_order versions) → AreLower high versions
lower_held high [] h = tt
lower_held high (v ∷ versions) h = let rest = lower_put high v (in_order versions) h in (rest.0, lower_held high versions rest.1)
