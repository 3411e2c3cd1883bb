-- What follows of one line of numbers.
use Rattle.std.proofs.Common.{◌≡◌, ℕ, ◌≤◌, ◌<◌, List, [], ◌∷◌, ◌++◌, subst, arith}
use Rattle.store_events.specs.Events.{Event, Event as event, others_first, places}
use Rattle.store_events.specs.Lines.{Ascends, IsFresh, UpTo}
use Rattle.store_events.specs.Ties.{Rising}

ascends_low : (low mid : ℕ) (xs : List ℕ) → low ≤ mid → Ascends mid xs → Ascends low xs
ascends_low low mid [] h a = tt
ascends_low low mid (x ∷ xs) h a = (omega (arith, h, a.0), a.1)

-- own places
own_once : (low high : ℕ) (es : List Event) → Rising low es high → Ascends low (places es)
own_once low high [] r = tt
own_once low high (event.Committed base w p l s ∷ es) r = (r.0, own_once p high es r.1)
own_once low high (event.Begun s ∷ es) r = ascends_low low s (places es) r.0 (own_once s high es r.1)
own_once low high (event.CameFirst p ∷ es) r = ascends_low low p (places es) (omega (arith, r.0)) (own_once p high es r.1)
own_once low high (event.Viewed v ∷ es) r = own_once low high es r
own_once low high (event.Conflicted base w t p ∷ es) r = own_once low high es r
own_once low high (event.KeeperFailed ∷ es) r = own_once low high es r
own_once low high (event.LogFull k ∷ es) r = own_once low high es r

others_once : (low high : ℕ) (es : List Event) → Rising low es high → Ascends low (others_first es)
others_once low high [] r = tt
others_once low high (event.CameFirst p ∷ es) r = (r.0, others_once p high es r.1)
others_once low high (event.Committed base w p l s ∷ es) r = ascends_low low p (others_first es) (omega (arith, r.0)) (others_once p high es r.1)
others_once low high (event.Begun s ∷ es) r = ascends_low low s (others_first es) r.0 (others_once s high es r.1)
others_once low high (event.Viewed v ∷ es) r = others_once low high es r
others_once low high (event.Conflicted base w t p ∷ es) r = others_once low high es r
others_once low high (event.KeeperFailed ∷ es) r = others_once low high es r
others_once low high (event.LogFull k ∷ es) r = others_once low high es r

-- a snapshot is no lower than where the line began
no_lower : (low high n : ℕ) (earlier later : List Event) → Rising low (earlier ++ event.Begun n ∷ later) high → low ≤ n
no_lower low high n [] later r = r.0
no_lower low high n (event.Begun s ∷ es) later r = omega (arith, r.0, no_lower s high n es later r.1)
no_lower low high n (event.Committed base w p l s ∷ es) later r = omega (arith, r.0, no_lower p high n es later r.1)
no_lower low high n (event.CameFirst p ∷ es) later r = omega (arith, r.0, no_lower p high n es later r.1)
no_lower low high n (event.Viewed v ∷ es) later r = no_lower low high n es later r
no_lower low high n (event.Conflicted base w t p ∷ es) later r = no_lower low high n es later r
no_lower low high n (event.KeeperFailed ∷ es) later r = no_lower low high n es later r
no_lower low high n (event.LogFull k ∷ es) later r = no_lower low high n es later r

holds_all : (low high n : ℕ) (earlier later : List Event) → Rising low (earlier ++ event.Begun n ∷ later) high → UpTo n (places earlier)
holds_all low high n [] later r = tt
holds_all low high n (event.Committed base w p l s ∷ es) later r = (no_lower p high n es later r.1, holds_all p high n es later r.1)
holds_all low high n (event.Begun s ∷ es) later r = holds_all s high n es later r.1
holds_all low high n (event.CameFirst p ∷ es) later r = holds_all p high n es later r.1
holds_all low high n (event.Viewed v ∷ es) later r = holds_all low high n es later r
holds_all low high n (event.Conflicted base w t p ∷ es) later r = holds_all low high n es later r
holds_all low high n (event.KeeperFailed ∷ es) later r = holds_all low high n es later r
holds_all low high n (event.LogFull k ∷ es) later r = holds_all low high n es later r

-- events in one line are fresh
pub fresh_line : (low high : ℕ) (events : List Event) → Rising low events high → IsFresh low events
fresh_line low high events r = record {
  fresh = λ earlier n later e. holds_all low high n earlier later (subst (λ xs. Rising low xs high) e r);
  own_once = own_once low high events r;
  others_once = others_once low high events r;
}
