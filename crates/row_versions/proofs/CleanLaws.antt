-- Clean-up of the rows that have ended, at the front.
use Rattle.std.proofs.Common.{◌≡◌, ℕ, ◌<◌, ◌≤◌, true, false, cond, List, [], ◌∷◌, ◌++◌, Option, Some, None, nat_le, nat_lt, refl, sym, ◌∙◌, ap, subst, arith}
use Rattle.std.specs.Option.{option_to_list}
use Rattle.std.proofs.lemmas.Bool.Decides.{nat_tests}
use Rattle.row_versions.specs.Cleaning.{is_first_gone, still_ended}
use Rattle.row_versions.specs.Holdings.{AreEnded}
use Rattle.row_versions.specs.declared.ended.EndedRow.{EndedRow}

-- where no snapshot lives, none is kept
pub none_still : (ended : List EndedRow) → [] ≡ still_ended None ended
none_still [] = refl
none_still (e ∷ ended) = none_still ended

lower : (low least : ℕ) (ended : List EndedRow) → least ≤ low → AreEnded low ended → AreEnded least ended
lower low least [] h k = tt
lower low least (e ∷ ended) h k = (let a = k.0 in omega (arith, a, h), k.1)

past : (oldest ends : ℕ) → nat_le ends oldest ≡ true → nat_lt oldest ends ≡ false
past oldest ends h = grind (arith, nat_tests)

not_past : (oldest ends : ℕ) → nat_le ends oldest ≡ false → oldest < ends
not_past oldest ends h = grind (arith, nat_tests)

later : (oldest ends : ℕ) → oldest < ends → nat_lt oldest ends ≡ true
later oldest ends h = grind (arith, nat_tests)

dropped : (oldest : ℕ) (e : EndedRow) (ended : List EndedRow) → nat_le e.ends oldest ≡ true → still_ended (Some oldest) (e ∷ ended) ≡ still_ended (Some oldest) ended
dropped oldest e ended h = ap (λ b. cond b (e ∷ still_ended (Some oldest) ended) (still_ended (Some oldest) ended)) (past oldest e.ends h)

pub popped : (oldest : ℕ) (old new : List EndedRow) (x : Option EndedRow) → old ≡ option_to_list x ++ new → is_first_gone oldest old ≡ true → still_ended (Some oldest) new ≡ still_ended (Some oldest) old
popped oldest old new None is gone = ap (still_ended (Some oldest)) (sym is)
popped oldest old new (Some e) is gone = sym (dropped oldest e new (ap (is_first_gone oldest) (sym is) ∙ gone)) ∙ ap (still_ended (Some oldest)) (sym is)

ended_behind : (old new : List EndedRow) (e : EndedRow) → e ∷ new ≡ old → AreEnded 0 (e ∷ new) → AreEnded 0 new
ended_behind old new e is h = lower e.ends 0 new (omega arith) h.1

pub popped_ended : (old new : List EndedRow) (x : Option EndedRow) → old ≡ option_to_list x ++ new → AreEnded 0 old → AreEnded 0 new
popped_ended old new None is h = subst (AreEnded 0) is h
popped_ended old new (Some e) is h = ended_behind old new e (sym is) (subst (AreEnded 0) is h)

all_past : (oldest low : ℕ) (ended : List EndedRow) → oldest < low → AreEnded low ended → still_ended (Some oldest) ended ≡ ended
all_past oldest low [] h k = refl
all_past oldest low (e ∷ ended) h k =
    let a = k.0 in
    ap (λ b. cond b (e ∷ still_ended (Some oldest) ended) (still_ended (Some oldest) ended)) (later oldest e.ends (omega (arith, a, h)))
    ∙ ap (λ xs. e ∷ xs) (all_past oldest e.ends ended (omega (arith, a, h)) k.1)

-- where the first one is past the oldest live snapshot, all are
pub all_still : (oldest : ℕ) (ended all : List EndedRow) → AreEnded 0 ended → is_first_gone oldest ended ≡ false → still_ended (Some oldest) ended ≡ still_ended (Some oldest) all → ended ≡ still_ended (Some oldest) all
all_still oldest [] all h first same = same
all_still oldest (e ∷ ended) all h first same =
    let n = not_past oldest e.ends first in
    sym (ap (λ b. cond b (e ∷ still_ended (Some oldest) ended) (still_ended (Some oldest) ended)) (later oldest e.ends n)
    ∙ ap (λ xs. e ∷ xs) (all_past oldest e.ends ended n h.1))
    ∙ same
