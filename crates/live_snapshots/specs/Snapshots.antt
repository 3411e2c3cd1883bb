-- The snapshots of a store that are live, each with its mark and the number of commits that it sees.
use Rattle.std.specs.Prelude.{ℕ, ◌+◌, ◌==◌, ◌≡◌, ◌≢◌, ◌≤◌, ◌⊎◌, not, List, [], ◌∷◌, filter, Option, Some, None, min}

abbrev pub Seen : Type 0
Seen = ℕ × ℕ

abbrev pub IsLive : List Seen → Seen → Type 0
IsLive [] snap = ⊥
IsLive (other ∷ live) snap = (other ≡ snap) ⊎ IsLive live snap

-- no snapshot has this mark
abbrev pub NoMark : ℕ → List Seen → Type 0
NoMark mark [] = Unit {0}
NoMark mark (snap ∷ live) = (snap.0 ≢ mark) × NoMark mark live

-- no mark stands twice
abbrev pub AreMarks : List Seen → Type 0
AreMarks [] = Unit {0}
AreMarks (snap ∷ live) = NoMark snap.0 live × AreMarks live

-- the marks ascend, from low on and below the next one
abbrev pub AreBelow : ℕ → ℕ → List Seen → Type 0
AreBelow low next [] = low ≤ next
AreBelow low next (snap ∷ live) = (low ≤ snap.0) × AreBelow (snap.0 + 1) next live

abbrev pub without_mark : ℕ → List Seen → List Seen
without_mark mark live = filter (λ (other : Seen). not (other.0 == mark)) live

-- without the snapshot of this mark
abbrev pub without : Seen → List Seen → List Seen
without snap live = without_mark snap.0 live

abbrev pub least : ℕ → Option ℕ → Option ℕ
least s None = Some s
least s (Some other) = Some (min s other)

-- the number of the oldest live snapshot
abbrev pub oldest : List Seen → Option ℕ
oldest [] = None
oldest (snap ∷ live) = least snap.1 (oldest live)

-- the least of the numbers so far, with one number more
abbrev pub lesser : Option ℕ → ℕ → ℕ
lesser None number = number
lesser (Some other) number = min other number

-- the lesser of two, where there are any
abbrev pub lesser_of : Option ℕ → Option ℕ → Option ℕ
lesser_of None later = later
lesser_of (Some s) later = least s later

-- a live snapshot sees so many commits
pub record IsReached (live : List Seen) (s : ℕ) : Type 0 where
  pub snap : Seen
  pub is_live : IsLive live snap
  pub sees : snap.1 ≡ s

-- the first number, if there is one, is no greater than the other one, if there is one
abbrev pub IsUpTo : Option ℕ → Option ℕ → Type 0
IsUpTo s None = Unit {0}
IsUpTo None (Some other) = ⊥
IsUpTo (Some s) (Some other) = s ≤ other
