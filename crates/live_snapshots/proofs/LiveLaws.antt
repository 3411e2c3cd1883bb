-- The marks of live snapshots ascend below the next one.
use Rattle.std.proofs.Common.{◌≡◌, ◌≢◌, ℕ, ◌+◌, ◌<◌, ◌≤◌, ◌==◌, Bool, true, false, cond, not, List, [], ◌∷◌, ◌++◌, filter, refl, sym, ◌∙◌, ap, subst, arith, rules, ◌⊎◌, inl, inr}
use Rattle.std.proofs.lemmas.Bool.Decides.{nat_tests}
use Rattle.live_snapshots.specs.Snapshots.{AreBelow, AreMarks, IsLive, NoMark, Seen, without, without_mark}

-- from a lower one on, too
lower : (low least next : ℕ) (live : List Seen) → least ≤ low → AreBelow low next live → AreBelow least next live
lower low least next [] h k = let k' = k in omega (arith, h, k')
lower low least next (snap ∷ live) h k = (let a = k.0 in omega (arith, a, h), k.1)

next_within : (low next : ℕ) (live : List Seen) → AreBelow low next live → low ≤ next
next_within low next [] h = h
next_within low next (snap ∷ live) h = let rest = next_within (snap.0 + 1) next live h.1 in let a = h.0 in omega (arith, rest, a)

-- a snapshot of the next mark comes behind them
pub one_more : (low next number : ℕ) (live : List Seen) → AreBelow low next live → AreBelow low (next + 1) (live ++ (next, number) ∷ [])
one_more low next number [] h = (h, omega arith)
one_more low next number (snap ∷ live) h = (h.0, one_more (snap.0 + 1) next number live h.1)

-- it has none of their marks
pub none_next : (low next : ℕ) (live : List Seen) → AreBelow low next live → NoMark next live
none_next low next [] h = tt
none_next low next (snap ∷ live) h =
    let within = next_within (snap.0 + 1) next live h.1 in
    (λ same. let e = same in let never : ⊥ = omega (arith, within, e) in never, none_next (snap.0 + 1) next live h.1)

no_lower : (mark low next : ℕ) (live : List Seen) → mark < low → AreBelow low next live → NoMark mark live
no_lower mark low next [] h k = tt
no_lower mark low next (snap ∷ live) h k =
    let a = k.0 in
    (λ same. let e = same in let never : ⊥ = omega (arith, a, h, e) in never, no_lower mark (snap.0 + 1) next live (omega (arith, a, h)) k.1)

-- no two have one mark
pub marks_of : (low next : ℕ) (live : List Seen) → AreBelow low next live → AreMarks live
marks_of low next [] h = tt
marks_of low next (snap ∷ live) h = (no_lower snap.0 (snap.0 + 1) next live (omega arith) h.1, marks_of (snap.0 + 1) next live h.1)

below_by : (low next : ℕ) (snap : Seen) (live : List Seen) (b : Bool) → low ≤ snap.0 → AreBelow (snap.0 + 1) next live → AreBelow low next (cond b (snap ∷ live) live)
below_by low next snap live true h k = (h, k)
below_by low next snap live false h k = lower (snap.0 + 1) low next live (omega (arith, h)) k

-- with some of them gone, they still do
pub still_below : (p : Seen → Bool) (low next : ℕ) (live : List Seen) → AreBelow low next live → AreBelow low next (filter p live)
still_below p low next [] h = h
still_below p low next (snap ∷ live) h = below_by low next snap (filter p live) (p snap) h.0 (still_below p (snap.0 + 1) next live h.1)

pub still_below_without : (mark low next : ℕ) (live new : List Seen) → new ≡ without_mark mark live → AreBelow low next live → AreBelow low next new
still_below_without mark low next live new is h = subst (AreBelow low next) (sym is) (still_below (λ (other : Seen). not (other.0 == mark)) low next live h)

-- What becomes of live snapshots.

self_eq : (mark : ℕ) → (mark == mark) ≡ true
self_eq mark = grind (arith, nat_tests)

other_eq : (one other : ℕ) → (one ≡ other → ⊥) → (other == one) ≡ false
other_eq one other h = grind (arith, nat_tests, h)

gone_by : (snap other : Seen) (live : List Seen) (b : Bool) → (other.0 == snap.0) ≡ b → (IsLive live snap → ⊥) → IsLive (cond (not b) (other ∷ live) live) snap → ⊥
gone_by snap other live true is on h = on h
gone_by snap other live false is on (inl same) = let e : (other.0 == snap.0) ≡ true = subst (λ (s : Seen). (other.0 == s.0) ≡ true) same (self_eq other.0) in search rules
gone_by snap other live false is on (inr h) = on h

pub gone : (live : List Seen) (snap : Seen) → IsLive (without snap live) snap → ⊥
gone [] snap h = h
gone (other ∷ live) snap h = gone_by snap other (without snap live) (other.0 == snap.0) refl (gone live snap) h

kept_by : (snap one other : Seen) (live : List Seen) (b : Bool) → (one.0 == snap.0) ≡ b → (one ≡ other → b ≡ false) → (one ≡ other) ⊎ IsLive live other → IsLive (cond (not b) (one ∷ live) live) other
kept_by snap one other live false is apart h = h
kept_by snap one other live true is apart (inl same) = let e = apart same in search rules
kept_by snap one other live true is apart (inr h) = h

later : (snap one other : Seen) (live rest : List Seen) → (one ≡ other) ⊎ IsLive live other → (IsLive live other → IsLive rest other) → (one ≡ other) ⊎ IsLive rest other
later snap one other live rest (inl same) on = inl same
later snap one other live rest (inr h) on = inr (on h)

pub others : (live : List Seen) (snap other : Seen) → snap.0 ≢ other.0 → IsLive live other → IsLive (without snap live) other
others [] snap other apart h = h
others (one ∷ live) snap other apart h =
    kept_by snap one other (without snap live) (one.0 == snap.0) refl
    (λ same. other_eq snap.0 one.0 (λ is. apart (is ∙ ap (λ (s : Seen). s.0) same)))
    (later snap one other live (without snap live) h (others live snap other apart))
