-- From which number on versions say what snapshots see.
use Rattle.std.proofs.Common.{◌≡◌, ℕ, ◌≤◌, List, [], ◌∷◌, ◌++◌, Option, Some, None, subst, sym, arith}
use Rattle.std.specs.List.{AllByRecursion}
use Rattle.live_snapshots.specs.Snapshots.{IsUpTo, Seen, least, oldest}
use Rattle.store_states.specs.Stored.{number_or}
use Rattle.store_states.specs.Views.{SeesAtMost}

least_within : (applied s : ℕ) (it : Option ℕ) → s ≤ applied → number_or applied (least s it) ≤ applied
least_within applied s None h = h
least_within applied s (Some other) h = omega (arith, h)

-- it is no greater than the number of commits that were applied
pub from_within : (applied : ℕ) (live : List Seen) → AllByRecursion (SeesAtMost applied) live → number_or applied (oldest live) ≤ applied
from_within applied [] h = omega arith
from_within applied (snap ∷ live) h = least_within applied snap.1 (oldest live) h.0

-- it rises with the oldest live snapshot
pub from_rises : (applied : ℕ) (it later : Option ℕ) → number_or applied it ≤ applied → IsUpTo it later → number_or applied it ≤ number_or applied later
from_rises applied None None within h = omega arith
from_rises applied None (Some other) within h = absurd h
from_rises applied (Some s) None within h = within
from_rises applied (Some s) (Some other) within h = h

-- and with the number of commits that were applied
pub from_later : (applied after : ℕ) (it : Option ℕ) → applied ≤ after → number_or applied it ≤ number_or after it
from_later applied after None h = h
from_later applied after (Some s) h = omega arith

least_on : (applied s : ℕ) (it later : Option ℕ) → s ≤ applied → number_or applied it ≤ number_or applied later → number_or applied (least s it) ≤ number_or applied (least s later)
least_on applied s None None h k = omega arith
least_on applied s None (Some n) h k = let m = k in omega (arith, h, m)
least_on applied s (Some n) None h k = omega arith
least_on applied s (Some n) (Some m) h k = let le = k in omega (arith, le)

-- A snapshot more of all applied commits leaves it.
pub from_begun : (applied : ℕ) (live : List Seen) (snap : Seen) → snap.1 ≡ applied → AllByRecursion (SeesAtMost applied) live → number_or applied (oldest live) ≤ number_or applied (oldest (live ++ snap ∷ []))
from_begun applied [] snap is h = let e = is in omega (arith, e)
from_begun applied (one ∷ live) snap is h = least_on applied one.1 (oldest live) (oldest (live ++ snap ∷ [])) h.0 (from_begun applied live snap is h.1)

pub all_begun : (applied : ℕ) (live : List Seen) (snap : Seen) → snap.1 ≡ applied → AllByRecursion (SeesAtMost applied) live → AllByRecursion (SeesAtMost applied) (live ++ snap ∷ [])
all_begun applied [] snap is h = ((let e = is in omega (arith, e)), tt)
all_begun applied (one ∷ live) snap is h = (h.0, all_begun applied live snap is h.1)

pub all_later : (applied after : ℕ) (live : List Seen) → applied ≤ after → AllByRecursion (SeesAtMost applied) live → AllByRecursion (SeesAtMost after) live
all_later applied after [] h k = tt
all_later applied after (one ∷ live) h k = ((let m = k.0 in omega (arith, h, m)), all_later applied after live h k.1)

oldest_least : (s : ℕ) (it later : Option ℕ) → IsUpTo later it → IsUpTo (least s later) (least s it)
oldest_least s None None h = omega arith
oldest_least s None (Some m) h = omega arith
oldest_least s (Some n) None h = absurd h
oldest_least s (Some n) (Some m) h = let k = h in omega (arith, k)

-- with a snapshot more the oldest is no newer
pub begun_oldest : (live : List Seen) (snap : Seen) → IsUpTo (oldest (live ++ snap ∷ [])) (oldest live)
begun_oldest [] snap = tt
begun_oldest (one ∷ live) snap = oldest_least one.1 (oldest live) (oldest (live ++ snap ∷ [])) (begun_oldest live snap)
