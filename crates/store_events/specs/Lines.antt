-- What clients are told of places and snapshots, one behind another.
use Rattle.std.specs.Prelude.{◌≡◌, ℕ, ◌<◌, ◌≤◌, List, [], ◌∷◌, ◌++◌}
use Rattle.store_events.specs.Events.{Event, Event as event, others_first, places}

-- each above the one before it, all above a number
abbrev pub Ascends : ℕ → List ℕ → Type 0
Ascends low [] = Unit {0}
Ascends low (place ∷ others) = (low < place) × Ascends place others

abbrev pub UpTo : ℕ → List ℕ → Type 0
UpTo most [] = Unit {0}
UpTo most (place ∷ others) = (place ≤ most) × UpTo most others

-- Each snapshot holds every commit that was told before it; no own place is told twice, and no place at which another's
-- commit came first.
pub record IsFresh (low : ℕ) (events : List Event) : Type 0 where
  pub fresh : (earlier : List Event) (snapshot : ℕ) (later : List Event) → events ≡ earlier ++ event.Begun snapshot ∷ later → UpTo snapshot (places earlier)
  pub own_once : Ascends low (places events)
  pub others_once : Ascends low (others_first events)
