-- The number of the oldest live snapshot.
use Rattle.std.proofs.Common.{◌≡◌, ℕ, ◌≤◌, ◌==◌, Bool, true, false, cond, not, List, [], ◌∷◌, Option, Some, None, min, nat_le, refl, ◌∙◌, ap, subst, arith, rules, ◌⊎◌, inl, inr}
use Rattle.std.proofs.lemmas.Bool.Decides.{nat_tests}
use Rattle.live_snapshots.specs.Snapshots.{IsLive, IsReached, IsUpTo, Seen, least, lesser, lesser_of, oldest, without}

-- one number more
pub one_less : (so_far later : Option ℕ) (number : ℕ) → lesser_of (Some (lesser so_far number)) later ≡ lesser_of so_far (least number later)
one_less None None number = refl
one_less None (Some other) number = refl
one_less (Some s) None number = refl
one_less (Some s) (Some other) number = ap Some (omega arith)

up_to_least : (s : ℕ) (it : Option ℕ) → IsUpTo (least s it) (Some s)
up_to_least s None = omega arith
up_to_least s (Some other) = omega arith

up_to_more : (s n : ℕ) (it : Option ℕ) → IsUpTo it (Some n) → IsUpTo (least s it) (Some n)
up_to_more s n None h = absurd h
up_to_more s n (Some other) h = let k = h in omega (arith, k)

-- no live snapshot sees fewer commits
pub least_seen : (live : List Seen) (snap : Seen) → IsLive live snap → IsUpTo (oldest live) (Some snap.1)
least_seen [] snap h = absurd h
least_seen (one ∷ live) snap (inl same) = subst (λ (s : Seen). IsUpTo (least one.1 (oldest live)) (Some s.1)) same (up_to_least one.1 (oldest live))
least_seen (one ∷ live) snap (inr h) = up_to_more one.1 snap.1 (oldest live) (least_seen live snap h)

some_is : (a b : ℕ) → Some a ≡ Some b → a ≡ b
some_is a b h = search rules

reached_by : (one : Seen) (live : List Seen) (s other : ℕ) → oldest live ≡ Some other → ((n : ℕ) → oldest live ≡ Some n → IsReached live n) → min one.1 other ≡ s → (one.1 ≤ other) ⊎ (other ≤ one.1) → IsReached (one ∷ live) s
reached_by one live s other is on same (inl le) = record { snap = one; is_live = inl refl; sees = let e = same in omega (arith, e, le) }
reached_by one live s other is on same (inr le) =
    let found = on other is in
    record { snap = found.snap; is_live = inr found.is_live; sees = found.sees ∙ (let e = same in omega (arith, e, le)) }

yes_le : (a b : ℕ) → nat_le a b ≡ true → a ≤ b
yes_le a b h = grind (arith, nat_tests)

no_le : (a b : ℕ) → nat_le a b ≡ false → b ≤ a
no_le a b h = grind (arith, nat_tests)

either_by : (a b : ℕ) (c : Bool) → nat_le a b ≡ c → (a ≤ b) ⊎ (b ≤ a)
either_by a b true h = inl (yes_le a b h)
either_by a b false h = inr (no_le a b h)

either_le : (a b : ℕ) → (a ≤ b) ⊎ (b ≤ a)
either_le a b = either_by a b (nat_le a b) refl

reached_in : (one : Seen) (live : List Seen) (s : ℕ) (it : Option ℕ) → oldest live ≡ it → ((n : ℕ) → oldest live ≡ Some n → IsReached live n) → least one.1 it ≡ Some s → IsReached (one ∷ live) s
reached_in one live s None is on h = record { snap = one; is_live = inl refl; sees = some_is one.1 s h }
reached_in one live s (Some other) is on h = reached_by one live s other is on (some_is (min one.1 other) s h) (either_le one.1 other)

-- some live snapshot sees as many as the oldest
pub reached : (live : List Seen) (s : ℕ) → oldest live ≡ Some s → IsReached live s
reached [] s h = search rules
reached (one ∷ live) s h = reached_in one live s (oldest live) refl (reached live) h

rises_least : (s : ℕ) (it later : Option ℕ) → IsUpTo it later → IsUpTo (least s it) (least s later)
rises_least s None None h = omega arith
rises_least s None (Some other) h = absurd h
rises_least s (Some n) None h = omega arith
rises_least s (Some n) (Some other) h = let k = h in omega (arith, k)

rises_past : (s : ℕ) (it later : Option ℕ) → IsUpTo it later → IsUpTo (least s it) later
rises_past s None None h = tt
rises_past s None (Some other) h = absurd h
rises_past s (Some n) None h = tt
rises_past s (Some n) (Some other) h = let k = h in omega (arith, k)

rises_by : (one : Seen) (live rest : List Seen) (b : Bool) → IsUpTo (oldest live) (oldest rest) → IsUpTo (oldest (one ∷ live)) (oldest (cond b (one ∷ rest) rest))
rises_by one live rest true h = rises_least one.1 (oldest live) (oldest rest) h
rises_by one live rest false h = rises_past one.1 (oldest live) (oldest rest) h

-- without a snapshot the oldest is no older
pub rises : (live : List Seen) (snap : Seen) → IsUpTo (oldest live) (oldest (without snap live))
rises [] snap = tt
rises (one ∷ live) snap = rises_by one live (without snap live) (not (one.0 == snap.0)) (rises live snap)
