-- Looking at some of the versions goes before or behind their order.
use Rattle.std.proofs.Common.{◌≡◌, ℕ, ◌≤◌, Bool, true, false, cond, if◌then◌else◌, List, [], ◌∷◌, filter, nat_le, refl, sym, ◌∙◌, ap, arith}
use Rattle.std.proofs.lemmas.Bool.Decides.{nat_tests}
use Rattle.version_lists.specs.Orders.{put, in_order, Ascends}
use Rattle.version_lists.specs.Versions.{Version}

pub yes_le : (a b : ℕ) → nat_le a b ≡ true → a ≤ b
yes_le a b h = grind (arith, nat_tests)

pub no_le : (a b : ℕ) → nat_le a b ≡ false → b ≤ a
no_le a b h = grind (arith, nat_tests)

pub le_yes : (a b : ℕ) → a ≤ b → nat_le a b ≡ true
le_yes a b h = grind (arith, nat_tests)

pub lower : (low least : ℕ) (versions : List Version) → least ≤ low → Ascends low versions → Ascends least versions
lower low least [] h k = tt
lower low least (v ∷ versions) h k = (let a = k.0 in omega (arith, a, h), k.1)

put_by : (low : ℕ) (v other : Version) (versions behind : List Version) (b : Bool) → nat_le v.number other.number ≡ b → low ≤ v.number → Ascends low (other ∷ versions) → (other.number ≤ v.number → Ascends other.number behind)
    → Ascends low (if b then v ∷ other ∷ versions else other ∷ behind)
put_by low v other versions behind true is h k on = (h, (yes_le v.number other.number is, k.1))
put_by low v other versions behind false is h k on = (k.0, on (no_le v.number other.number is))

put_ascends : (low : ℕ) (v : Version) (versions : List Version) → low ≤ v.number → Ascends low versions → Ascends low (put v versions)
put_ascends low v [] h k = (h, tt)
put_ascends low v (other ∷ versions) h k =
    put_by low v other versions (put v versions) (nat_le v.number other.number) refl h k (λ le. put_ascends other.number v versions le k.1)

-- the list that contracts see is in order
pub ascends_in_order : (versions : List Version) → Ascends 0 (in_order versions)
ascends_in_order [] = tt
ascends_in_order (v ∷ versions) = put_ascends 0 v (in_order versions) (omega arith) (ascends_in_order versions)

module _ (p : Version → Bool) where
  gone_by : (v other : Version) (rest behind : List Version) (b : Bool) → p v ≡ false → filter p behind ≡ filter p rest
      → filter p (if b then v ∷ other ∷ rest else other ∷ behind) ≡ filter p (other ∷ rest)
  gone_by v other rest behind true is same = ap (λ b. cond b (v ∷ filter p (other ∷ rest)) (filter p (other ∷ rest))) is
  gone_by v other rest behind false is same = ap (λ xs. cond (p other) (other ∷ xs) xs) same

  gone : (v : Version) (versions : List Version) → p v ≡ false → filter p (put v versions) ≡ filter p versions
  gone v [] is = ap (λ b. cond b (v ∷ []) []) is
  gone v (other ∷ versions) is = gone_by v other versions (put v versions) (nat_le v.number other.number) is (gone v versions is)

  -- before versions with greater numbers it stays in front
  in_front_by : (v other : Version) (rest : List Version) → v.number ≤ other.number → put v (other ∷ rest) ≡ v ∷ other ∷ rest
  in_front_by v other rest h = ap (λ b. if b then v ∷ other ∷ rest else other ∷ put v rest) (le_yes v.number other.number h)

  front_by : (v other : Version) (rest : List Version) (b : Bool) → v.number ≤ other.number → put v rest ≡ v ∷ rest → put v (cond b (other ∷ rest) rest) ≡ v ∷ cond b (other ∷ rest) rest
  front_by v other rest true h same = in_front_by v other rest h
  front_by v other rest false h same = same

  pub in_front : (v : Version) (versions : List Version) → Ascends v.number versions → put v (filter p versions) ≡ v ∷ filter p versions
  in_front v [] h = refl
  in_front v (other ∷ versions) h = front_by v other (filter p versions) (p other) h.0 (in_front v versions (lower other.number v.number versions h.0 h.1))

  put_other : (v other : Version) (rest : List Version) (b : Bool) → nat_le v.number other.number ≡ false → cond b (other ∷ put v rest) (put v rest) ≡ put v (cond b (other ∷ rest) rest)
  put_other v other rest true is = sym (ap (λ b. if b then v ∷ other ∷ rest else other ∷ put v rest) is)
  put_other v other rest false is = refl

  stays_by : (v other : Version) (rest behind : List Version) (b : Bool) → p v ≡ true → nat_le v.number other.number ≡ b → Ascends other.number rest → filter p behind ≡ put v (filter p rest)
      → filter p (if b then v ∷ other ∷ rest else other ∷ behind) ≡ put v (filter p (other ∷ rest))
  stays_by v other rest behind true is le h same =
      ap (λ b. cond b (v ∷ filter p (other ∷ rest)) (filter p (other ∷ rest))) is
      ∙ sym (in_front v (other ∷ rest) (yes_le v.number other.number le, h))
  stays_by v other rest behind false is le h same =
      ap (λ xs. cond (p other) (other ∷ xs) xs) same ∙ put_other v other (filter p rest) (p other) le

  stays : (low : ℕ) (v : Version) (versions : List Version) → p v ≡ true → Ascends low versions → filter p (put v versions) ≡ put v (filter p versions)
  stays low v [] is h = ap (λ b. cond b (v ∷ []) []) is
  stays low v (other ∷ versions) is h = stays_by v other versions (put v versions) (nat_le v.number other.number) is refl h.1 (stays other.number v versions is h.1)

  order_by : (v : Version) (versions : List Version) (b : Bool) → p v ≡ b → Ascends 0 (in_order versions) → filter p (in_order versions) ≡ in_order (filter p versions)
      → filter p (put v (in_order versions)) ≡ in_order (cond b (v ∷ filter p versions) (filter p versions))
  order_by v versions true is h same = stays 0 v (in_order versions) is h ∙ ap (put v) same
  order_by v versions false is h same = gone v (in_order versions) is ∙ same

  -- So clean-up, and what a snapshot sees, can be taken on the two lists that are held.
  pub filter_in_order : (versions : List Version) → filter p (in_order versions) ≡ in_order (filter p versions)
  filter_in_order [] = refl
  filter_in_order (v ∷ versions) = order_by v versions (p v) refl (ascends_in_order versions) (filter_in_order versions)
