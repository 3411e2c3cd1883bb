-- Changes of versions, and their order.
use Rattle.std.proofs.Common.{◌≡◌, ℕ, ◌+◌, ◌<◌, ◌≤◌, Bool, true, false, true≢false, cond, if◌then◌else◌, List, [], ◌∷◌, filter, nat_le, refl, sym, ◌∙◌, ap, subst, arith}
use Rattle.std.proofs.lemmas.Bool.Decides.{nat_tests}
use Rattle.version_changes.proofs.NumberLaws.{here_number}
use Rattle.version_changes.specs.Changes.{ended_here, ends_behind, with_ends}
use Rattle.version_lists.proofs.BlockLaws.{already}
use Rattle.version_lists.proofs.OrderLaws.{filter_in_order}
use Rattle.version_lists.specs.Orders.{in_order, put}
use Rattle.version_lists.specs.Versions.{AreNumbered, Version, is_newest}

-- Ends are the same before and behind the order, where the newest rows of the table are held in the order of their numbers.

first : (v other : Version) (versions : List Version) → nat_le v.number other.number ≡ true → put v (other ∷ versions) ≡ v ∷ other ∷ versions
first v other versions h = ap (λ b. if b then v ∷ other ∷ versions else other ∷ put v versions) h

behind : (v other : Version) (versions : List Version) → nat_le v.number other.number ≡ false → put v (other ∷ versions) ≡ other ∷ put v versions
behind v other versions h = ap (λ b. if b then v ∷ other ∷ versions else other ∷ put v versions) h

-- a version that isn't counted
module _ (table k : ℕ) (v : Version) (none : is_newest table v ≡ false) where
  skipped : (place : ℕ) (ends : List ℕ) (versions : List Version) → with_ends table k place ends (v ∷ versions) ≡ v ∷ with_ends table k place ends versions
  skipped place ends versions =
      ap (λ b. if b then ended_here k place ends v ∷ with_ends table k (place + 1) (ends_behind place ends) versions else v ∷ with_ends table k place ends versions) none

  front_by : (place : ℕ) (ends : List ℕ) (x : Version) (one other : List Version) (b : Bool) → nat_le v.number x.number ≡ true
      → v ∷ (if b then ended_here k place ends x ∷ one else x ∷ other) ≡ put v (if b then ended_here k place ends x ∷ one else x ∷ other)
  front_by place ends x one other true h = sym (first v (ended_here k place ends x) one (subst (λ n. nat_le v.number n ≡ true) (sym (here_number k place ends x)) h))
  front_by place ends x one other false h = sym (first v x other h)

  later_by : (place : ℕ) (ends : List ℕ) (x : Version) (one other one_put other_put : List Version) (b : Bool) → nat_le v.number x.number ≡ false → one_put ≡ put v one → other_put ≡ put v other
      → (if b then ended_here k place ends x ∷ one_put else x ∷ other_put) ≡ put v (if b then ended_here k place ends x ∷ one else x ∷ other)
  later_by place ends x one other one_put other_put true h on off =
      ap (λ xs. ended_here k place ends x ∷ xs) on ∙ sym (behind v (ended_here k place ends x) one (subst (λ n. nat_le v.number n ≡ false) (sym (here_number k place ends x)) h))
  later_by place ends x one other one_put other_put false h on off = ap (λ xs. x ∷ xs) off ∙ sym (behind v x other h)

  put_by : (place : ℕ) (ends : List ℕ) (x : Version) (versions : List Version) (b : Bool) → nat_le v.number x.number ≡ b
      → ((place : ℕ) (ends : List ℕ) → with_ends table k place ends (put v versions) ≡ put v (with_ends table k place ends versions))
      → with_ends table k place ends (if b then v ∷ x ∷ versions else x ∷ put v versions) ≡ put v (with_ends table k place ends (x ∷ versions))
  put_by place ends x versions true h on =
      skipped place ends (x ∷ versions)
      ∙ front_by place ends x (with_ends table k (place + 1) (ends_behind place ends) versions) (with_ends table k place ends versions) (is_newest table x) h
  put_by place ends x versions false h on =
      later_by place ends x (with_ends table k (place + 1) (ends_behind place ends) versions) (with_ends table k place ends versions) (with_ends table k (place + 1) (ends_behind place ends) (put v versions))
      (with_ends table k place ends (put v versions)) (is_newest table x) h (on (place + 1) (ends_behind place ends)) (on place ends)

  put_skipped : (place : ℕ) (ends : List ℕ) (versions : List Version) → with_ends table k place ends (put v versions) ≡ put v (with_ends table k place ends versions)
  put_skipped place ends [] = skipped place ends []
  put_skipped place ends (x ∷ versions) = put_by place ends x versions (nat_le v.number x.number) refl (λ place ends. put_skipped place ends versions)

-- a version that is counted, in front of all others that are
less : (m n : ℕ) → nat_le m n ≡ false → n < m
less m n h = grind (arith, nat_tests)

numbered_low : (least low : ℕ) (versions : List Version) → least ≤ low → AreNumbered low versions → AreNumbered least versions
numbered_low least low [] h k = tt
numbered_low least low (v ∷ versions) h k = (let a = k.0 in omega (arith, a, h), k.1)

lower_not : (low : ℕ) (x : Version) (versions : List Version) (b : Bool) → x.number < low → AreNumbered low (cond b (x ∷ versions) versions) → (b ≡ false) × AreNumbered low versions
lower_not low x versions true less h = (let a = h.0 in let never : ⊥ = omega (arith, a, less) in absurd never, let a = h.0 in numbered_low low (x.number + 1) versions (omega (arith, a)) h.1)
lower_not low x versions false less h = (refl, h)

module _ (table k : ℕ) (v : Version) (is : is_newest table v ≡ true) where
  counted : (place : ℕ) (ends : List ℕ) (versions : List Version) → with_ends table k place ends (v ∷ versions) ≡ ended_here k place ends v ∷ with_ends table k (place + 1) (ends_behind place ends) versions
  counted place ends versions =
      ap (λ b. if b then ended_here k place ends v ∷ with_ends table k (place + 1) (ends_behind place ends) versions else v ∷ with_ends table k place ends versions) is

  ahead_by : (w : Version) (place : ℕ) (ends : List ℕ) (x : Version) (one other : List Version) (b : Bool) → nat_le w.number x.number ≡ true
      → w ∷ (if b then ended_here k place ends x ∷ one else x ∷ other) ≡ put w (if b then ended_here k place ends x ∷ one else x ∷ other)
  ahead_by w place ends x one other true h = sym (first w (ended_here k place ends x) one (subst (λ n. nat_le w.number n ≡ true) (sym (here_number k place ends x)) h))
  ahead_by w place ends x one other false h = sym (first w x other h)

  count_by : (place : ℕ) (ends : List ℕ) (x : Version) (versions : List Version) (b : Bool) → nat_le v.number x.number ≡ b
      → (b ≡ false → (is_newest table x ≡ false) × (with_ends table k place ends (put v versions) ≡ put (ended_here k place ends v) (with_ends table k (place + 1) (ends_behind place ends) versions)))
      → with_ends table k place ends (if b then v ∷ x ∷ versions else x ∷ put v versions) ≡ put (ended_here k place ends v) (with_ends table k (place + 1) (ends_behind place ends) (x ∷ versions))
  count_by place ends x versions true h on =
      counted place ends (x ∷ versions)
      ∙ ahead_by (ended_here k place ends v) (place + 1) (ends_behind place ends) x (with_ends table k (place + 1 + 1) (ends_behind (place + 1) (ends_behind place ends)) versions)
      (with_ends table k (place + 1) (ends_behind place ends) versions) (is_newest table x) (subst (λ n. nat_le n x.number ≡ true) (sym (here_number k place ends v)) h)
  count_by place ends x versions false h on =
      let rest = on refl in
      skipped table k x rest.0 place ends (put v versions)
      ∙ ap (λ xs. x ∷ xs) rest.1
      ∙ sym (behind (ended_here k place ends v) x (with_ends table k (place + 1) (ends_behind place ends) versions) (subst (λ n. nat_le n x.number ≡ false) (sym (here_number k place ends v)) h))
      ∙ ap (put (ended_here k place ends v)) (sym (skipped table k x rest.0 (place + 1) (ends_behind place ends) versions))

  put_counted : (place : ℕ) (ends : List ℕ) (versions : List Version) → AreNumbered (v.number + 1) (filter (is_newest table) versions)
      → with_ends table k place ends (put v versions) ≡ put (ended_here k place ends v) (with_ends table k (place + 1) (ends_behind place ends) versions)
  put_counted place ends [] h = counted place ends []
  put_counted place ends (x ∷ versions) h =
      count_by place ends x versions (nat_le v.number x.number) refl
      (λ no. let low = less v.number x.number no in
      let rest = lower_not (v.number + 1) x (filter (is_newest table) versions) (is_newest table x) (omega (arith, low)) h in
      (rest.0, put_counted place ends versions rest.1))

-- the newest rows, taken out of the order
taken_out : (low table : ℕ) (versions : List Version) → AreNumbered low (filter (is_newest table) versions) → AreNumbered low (filter (is_newest table) (in_order versions))
taken_out low table versions h =
    subst (AreNumbered low) (sym (filter_in_order (is_newest table) versions ∙ already low (filter (is_newest table) versions) h)) h

numbered_behind : (low : ℕ) (v : Version) (versions : List Version) (b : Bool) → AreNumbered low (cond b (v ∷ versions) versions) → ((b ≡ true → AreNumbered (v.number + 1) versions) × AreNumbered 0 versions)
numbered_behind low v versions true h = (λ is. h.1, numbered_low 0 (v.number + 1) versions (omega arith) h.1)
numbered_behind low v versions false h = (λ is. never_true is, numbered_low 0 low versions (omega arith) h) where
  never_true : false ≡ true → AreNumbered (v.number + 1) versions
  never_true is = absurd (true≢false (sym is))

order_by : (table k place : ℕ) (ends : List ℕ) (v : Version) (versions : List Version) (b : Bool) → is_newest table v ≡ b → (b ≡ true → AreNumbered (v.number + 1) (filter (is_newest table) versions))
    → ((place : ℕ) (ends : List ℕ) → with_ends table k place ends (in_order versions) ≡ in_order (with_ends table k place ends versions))
    → with_ends table k place ends (put v (in_order versions)) ≡ in_order (if b then ended_here k place ends v ∷ with_ends table k (place + 1) (ends_behind place ends) versions else v ∷ with_ends table k place ends versions)
order_by table k place ends v versions true is h on =
    put_counted table k v is place ends (in_order versions) (taken_out (v.number + 1) table versions (h refl)) ∙ ap (put (ended_here k place ends v)) (on (place + 1) (ends_behind place ends))
order_by table k place ends v versions false is h on = put_skipped table k v is place ends (in_order versions) ∙ ap (put v) (on place ends)

pub ends_in_order : (low table k place : ℕ) (ends : List ℕ) (versions : List Version) → AreNumbered low (filter (is_newest table) versions)
    → with_ends table k place ends (in_order versions) ≡ in_order (with_ends table k place ends versions)
ends_in_order low table k place ends [] h = refl
ends_in_order low table k place ends (v ∷ versions) h =
    let rest = numbered_behind low v (filter (is_newest table) versions) (is_newest table v) h in
    order_by table k place ends v versions (is_newest table v) refl rest.0 (λ place ends. ends_in_order 0 table k place ends versions rest.1)
