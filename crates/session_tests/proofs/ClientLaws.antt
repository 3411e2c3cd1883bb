-- Sessions beside one another over one store.
use Rattle.std.proofs.Common.{◌≡◌, Option, Some, None, sym, refl, subst}
use Rattle.live_snapshots.specs.Snapshots.{Seen}
use Rattle.session_transactions.proofs.GoingLaws.{goes_beside}
use Rattle.session_transactions.specs.Goings.{AreApart, FitsStore, Goes, IsBeside}
use Rattle.session_transactions.specs.Transactions.{snap_of}
use Rattle.session_transactions.specs.declared.transaction.Transaction.{Transaction}
use Rattle.session_transactions.specs.declared.transaction.Transaction.TheVariants as held
use Rattle.store_events.specs.Events.{Event}
use Rattle.store_states.specs.Stored.{Stored}

apart_swapped : (one other : Option Seen) → AreApart one other → AreApart other one
apart_swapped None None is = tt
apart_swapped None (Some other) is = tt
apart_swapped (Some one) None is = tt
apart_swapped (Some one) (Some other) is = λ e. is (sym e)

-- the other way about
pub beside_swapped : (one other : Transaction) (store : Stored) → FitsStore one store → IsBeside one other store → IsBeside other one store
beside_swapped one other store fits is = record { fits = fits; apart = apart_swapped (snap_of one) (snap_of other) is.apart }

-- where none is open yet
pub idle_beside : (one other : Transaction) (store : Stored) → one ≡ held.Idle → other ≡ held.Idle → FitsStore other store → IsBeside one other store
idle_beside one other store is_one is_other fits = record { fits = fits; apart = subst (λ t. AreApart (snap_of one) (snap_of t)) (sym is_other) tt }

pub fits_same : (one other : Transaction) (store : Stored) → other ≡ one → FitsStore one store → FitsStore other store
fits_same one other store is fits = subst (λ t. FitsStore t store) (sym is) fits

-- where none is open there is nothing that could not fit
pub fits_idle : (one : Transaction) (store : Stored) → one ≡ held.Idle → FitsStore one store
fits_idle one store is = subst (λ t. FitsStore t store) (sym is) (record { held = tt; taken = refl })
