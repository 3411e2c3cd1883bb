-- What clean-up leaves.
use Rattle.std.proofs.Common.{◌≡◌, ◌∙◌, ℕ, ◌≤◌, ◌<◌, Bool, true, false, cond, ◌&&◌, List, [], ◌∷◌, filter, Option, Some, None, nat_lt, refl, sym, ap, subst, arith, rules, true≢false}
use Rattle.std.proofs.lemmas.Bool.Decides.{nat_tests}
use Rattle.std.specs.List.{AllByRecursion, list_all}
use Rattle.live_snapshots.specs.Snapshots.{IsUpTo}
use Rattle.store_states.specs.Stored.{number_or}
use Rattle.stored_versions.proofs.SeenLaws.{cleaned_none_seen, cleaned_seen}
use Rattle.version_lists.specs.Versions.{IsPlaced, Version, cleaned, may_stay, may_stay_by, seen_at}

all_by : (o : Option ℕ) (v : Version) (versions : List Version) (b : Bool) → may_stay o v ≡ b → list_all (may_stay o) versions ≡ true → list_all (may_stay o) (cond b (v ∷ versions) versions) ≡ true
all_by o v versions true is rest = rw is rest
all_by o v versions false is rest = rest

-- nothing that may go stays
pub cleaned_clean : (o : Option ℕ) (versions : List Version) → list_all (may_stay o) (cleaned o versions) ≡ true
cleaned_clean o [] = refl
cleaned_clean o (v ∷ versions) = all_by o v (cleaned o versions) (may_stay o v) refl (cleaned_clean o versions)

less_through : (s other k : ℕ) → s ≤ other → nat_lt other k ≡ true → nat_lt s k ≡ true
less_through s other k h is = grind (arith, nat_tests)

stay_by : (it later ends : Option ℕ) → IsUpTo it later → may_stay_by later ends ≡ true → may_stay_by it ends ≡ true
stay_by it later None h is = refl
stay_by it None (Some k) h is = absurd (true≢false (sym is))
stay_by None (Some other) (Some k) h is = absurd h
stay_by (Some s) (Some other) (Some k) h is = less_through s other k h is

both_true : (a b : Bool) → (a && b) ≡ true → (a ≡ true) × (b ≡ true)
both_true true b is = (refl, is)
both_true false b is = absurd (true≢false (sym is))

both_of : (a b : Bool) → a ≡ true → b ≡ true → (a && b) ≡ true
both_of a b h k = rw (h, k) refl

-- what may stay for a snapshot may stay for an older one
pub clean_older : (it later : Option ℕ) (versions : List Version) → IsUpTo it later → list_all (may_stay later) versions ≡ true → list_all (may_stay it) versions ≡ true
clean_older it later [] h all = refl
clean_older it later (v ∷ versions) h all =
    let parts = both_true (may_stay later v) (list_all (may_stay later) versions) all in
    both_of (may_stay it v) (list_all (may_stay it) versions) (stay_by it later v.ends h parts.0) (clean_older it later versions h parts.1)

-- clean-up leaves what each snapshot sees from the oldest live one on
pub clean_seen : (o : Option ℕ) (applied s : ℕ) (versions : List Version) → AllByRecursion (IsPlaced applied) versions → number_or applied o ≤ s → s ≤ applied → seen_at s (cleaned o versions) ≡ seen_at s versions
clean_seen None applied s versions placed from to =
    let same : applied ≡ s = omega (arith, from, to) in
    cleaned_none_seen s versions (subst (λ n. AllByRecursion (IsPlaced n) versions) same placed)
clean_seen (Some least) applied s versions placed from to = cleaned_seen least s versions from
