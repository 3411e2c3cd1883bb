-- White space and comments, a step at a time.
use Rattle.std.proofs.Common.{◌≡◌, ℕ, zero, suc, ◌+◌, ◌==◌, ◌&&◌, true, false, List, [], ◌∷◌, ◌⊎◌, inl, inr, ◌<◌, ◌≢◌, length, drop, get_or, refl, arith, add-one}
use Rattle.std.proofs.lemmas.Bool.Decides.{nat_tests}
use Rattle.word_tokens.specs.Tokens.{is_white, is_comment_part, blanks, comment_at, blank_end, comment_end}

white_from : (t : List ℕ) (at : ℕ) → is_white (get_or t at 0) ≡ true → blanks false (drop at t) ≡ 1 + blanks false (drop (suc at) t)
white_from [] zero h = cc
white_from [] (suc at) h = cc
white_from (x ∷ t) zero h = rw h
white_from (x ∷ t) (suc at) h = white_from t at h

dashes_from : (t : List ℕ) (at : ℕ) → get_or t at 0 ≡ 45 → get_or t (suc at) 0 ≡ 45 → blanks false (drop at t) ≡ 2 + blanks true (drop (suc (suc at)) t)
dashes_from [] zero first next = absurd (omega arith)
dashes_from [] (suc at) first next = absurd (omega arith)
dashes_from (x ∷ []) zero first next = absurd (omega arith)
dashes_from (x ∷ y ∷ t) zero first next = rw (first, next) (omega arith)
dashes_from (x ∷ t) (suc at) first next = dashes_from t at first next

stop_from : (t : List ℕ) (at : ℕ) → is_white (get_or t at 0) ≡ false → (get_or t at 0 == 45 && get_or t (suc at) 0 == 45) ≡ false → blanks false (drop at t) ≡ 0
stop_from [] zero white dashes = refl
stop_from [] (suc at) white dashes = refl
stop_from (x ∷ t) zero white dashes = rw (white, dashes)
stop_from (x ∷ t) (suc at) white dashes = stop_from t at white dashes

comment_from : (t : List ℕ) (at : ℕ) → is_comment_part (get_or t at 0) ≡ true → blanks true (drop at t) ≡ 1 + blanks true (drop (suc at) t)
comment_from [] zero h = cc
comment_from [] (suc at) h = cc
comment_from (x ∷ t) zero h = rw h
comment_from (x ∷ t) (suc at) h = comment_from t at h

ten_or_zero : (x : ℕ) → is_comment_part x ≡ false → (x ≡ 10) ⊎ (x ≡ 0)
ten_or_zero x h = grind (arith, nat_tests)

comment_off_at : (x : ℕ) (t : List ℕ) → (x ≡ 10) ⊎ (x ≡ 0) → blanks true (x ∷ t) ≡ blanks false (x ∷ t)
comment_off_at x t (inl ten) = rw ten
comment_off_at x t (inr none) = rw none

comment_off_from : (t : List ℕ) (at : ℕ) → is_comment_part (get_or t at 0) ≡ false → blanks true (drop at t) ≡ blanks false (drop at t)
comment_off_from [] zero h = refl
comment_off_from [] (suc at) h = refl
comment_off_from (x ∷ t) zero h = comment_off_at x t (ten_or_zero x h)
comment_off_from (x ∷ t) (suc at) h = comment_off_from t at h

pub blank_white : (t : List ℕ) (at : ℕ) → is_white (get_or t at 0) ≡ true → blank_end t at ≡ blank_end t (at + 1)
unfolding blank_end
blank_white t at h = rw add-one (omega (arith, white_from t at h))

pub blank_comment : (t : List ℕ) (at : ℕ) → comment_at t at ≡ true → blank_end t at ≡ comment_end t (at + 2)
unfolding blank_end comment_end
blank_comment t at h =
    let order : at + 2 ≡ suc (suc at) = omega arith in
    let first : get_or t at 0 ≡ 45 = grind (arith, nat_tests) in
    let next : get_or t (suc at) 0 ≡ 45 = grind (arith, nat_tests, add-one) in
    rw order (omega (arith, dashes_from t at first next))

pub blank_stop : (t : List ℕ) (at : ℕ) → is_white (get_or t at 0) ≡ false → comment_at t at ≡ false → blank_end t at ≡ at
unfolding blank_end
blank_stop t at white dashes = omega (arith, stop_from t at white (rw add-one at dashes))

pub comment_on : (t : List ℕ) (at : ℕ) → is_comment_part (get_or t at 0) ≡ true → comment_end t at ≡ comment_end t (at + 1)
unfolding comment_end
comment_on t at h = rw add-one (omega (arith, comment_from t at h))

pub comment_off : (t : List ℕ) (at : ℕ) → is_comment_part (get_or t at 0) ≡ false → comment_end t at ≡ blank_end t at
unfolding blank_end comment_end
comment_off t at h = omega (arith, comment_off_from t at h)

pub some_within : (t : List ℕ) (at : ℕ) → get_or t at 0 ≢ 0 → at < length t
some_within [] zero some = absurd (some refl)
some_within [] (suc at) some = absurd (some refl)
some_within (x ∷ t) zero some = omega arith
some_within (x ∷ t) (suc at) some = omega (arith, some_within t at some)

pub white_within : (t : List ℕ) (at : ℕ) → is_white (get_or t at 0) ≡ true → at < length t
white_within t at h = some_within t at (λ e. let h' = rw e at h in cc)

pub comment_part_within : (t : List ℕ) (at : ℕ) → is_comment_part (get_or t at 0) ≡ true → at < length t
comment_part_within t at h = some_within t at (λ e. let h' = rw e at h in cc)

pub comment_within : (t : List ℕ) (at : ℕ) → comment_at t at ≡ true → at + 1 < length t
comment_within t at h = some_within t (at + 1) (grind (arith, nat_tests))
