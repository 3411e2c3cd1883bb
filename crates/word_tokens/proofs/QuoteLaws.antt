-- A text in quotes, a character at a time.
use Rattle.std.proofs.Common.{◌≡◌, ◌≢◌, ◌∙◌, ap, sym, ℕ, zero, suc, ◌+◌, ◌==◌, false, List, [], ◌∷◌, ◌++◌, append_assoc, Some, None, ◌<◌, length, drop, get_or, refl, arith, add-one}
use Rattle.std.proofs.lemmas.Bool.Decides.{nat_tests}
use Rattle.word_tokens.specs.Tokens.{closing_from, closing_at, unquoted}

not_equal : (x y : ℕ) → x ≢ y → (x == y) ≡ false
not_equal x y h = grind (arith, nat_tests)

plain_from : (n : ℕ) (t : List ℕ) (at : ℕ) → get_or t at 0 ≢ 0 → get_or t at 0 ≢ 39 → closing_from n (drop at t) ≡ closing_from (n + 1) (drop (suc at) t)
plain_from n [] zero some other = absurd (some refl)
plain_from n [] (suc at) some other = absurd (some refl)
plain_from n (x ∷ []) zero some other = rw (not_equal x 39 other)
plain_from n (x ∷ y ∷ t) zero some other = rw (not_equal x 0 some, not_equal x 39 other)
plain_from n (x ∷ t) (suc at) some other = plain_from n t at some other

pair_from : (n : ℕ) (t : List ℕ) (at : ℕ) → get_or t at 0 ≡ 39 → get_or t (suc at) 0 ≡ 39 → closing_from n (drop at t) ≡ closing_from (n + 2) (drop (suc (suc at)) t)
pair_from n [] zero first next = absurd (omega arith)
pair_from n [] (suc at) first next = absurd (omega arith)
pair_from n (x ∷ []) zero first next = absurd (omega arith)
pair_from n (x ∷ y ∷ t) zero first next = rw (first, next)
pair_from n (x ∷ t) (suc at) first next = pair_from n t at first next

last_from : (n : ℕ) (t : List ℕ) (at : ℕ) → get_or t at 0 ≡ 39 → get_or t (suc at) 0 ≢ 39 → closing_from n (drop at t) ≡ Some (n + 1)
last_from n [] zero first next = absurd (omega arith)
last_from n [] (suc at) first next = absurd (omega arith)
last_from n (x ∷ []) zero first next = rw first
last_from n (x ∷ y ∷ t) zero first next = rw (first, not_equal y 39 next)
last_from n (x ∷ t) (suc at) first next = last_from n t at first next

none_from : (n : ℕ) (t : List ℕ) (at : ℕ) → get_or t at 0 ≡ 0 → closing_from n (drop at t) ≡ None
none_from n [] zero none = refl
none_from n [] (suc at) none = refl
none_from n (x ∷ []) zero none = rw none
none_from n (x ∷ y ∷ t) zero none = rw none
none_from n (x ∷ t) (suc at) none = none_from n t at none

pub closing_plain : (t : List ℕ) (at : ℕ) → get_or t at 0 ≢ 0 → get_or t at 0 ≢ 39 → closing_at t at ≡ closing_at t (at + 1)
unfolding closing_at
closing_plain t at some other = let order : at + 1 ≡ suc at = omega arith in plain_from at t at some other ∙ ap (λ (k : ℕ). closing_from (at + 1) (drop k t)) (sym order)

pub closing_pair : (t : List ℕ) (at : ℕ) → get_or t at 0 ≡ 39 → get_or t (at + 1) 0 ≡ 39 → closing_at t at ≡ closing_at t (at + 2)
unfolding closing_at
closing_pair t at first next = let order : at + 2 ≡ suc (suc at) = omega arith in pair_from at t at first (rw add-one at next) ∙ ap (λ (k : ℕ). closing_from (at + 2) (drop k t)) (sym order)

pub closing_last : (t : List ℕ) (at : ℕ) → get_or t at 0 ≡ 39 → get_or t (at + 1) 0 ≢ 39 → closing_at t at ≡ Some (at + 1)
unfolding closing_at
closing_last t at first next = last_from at t at first (λ e. next (rw add-one e))

pub closing_none : (t : List ℕ) (at : ℕ) → get_or t at 0 ≡ 0 → closing_at t at ≡ None
unfolding closing_at
closing_none t at none = none_from at t at none

quote_from : (t : List ℕ) (at : ℕ) → at < length t → get_or t at 0 ≡ 39 → unquoted (drop at t) ≡ 39 ∷ unquoted (drop (suc (suc at)) t)
quote_from [] at within quote = absurd (omega arith)
quote_from (x ∷ []) zero within quote = rw quote
quote_from (x ∷ y ∷ t) zero within quote = rw quote
quote_from (x ∷ t) (suc at) within quote = quote_from t at (omega arith) quote

other_from : (t : List ℕ) (at : ℕ) → at < length t → get_or t at 0 ≢ 39 → unquoted (drop at t) ≡ get_or t at 0 ∷ unquoted (drop (suc at) t)
other_from [] at within other = absurd (omega arith)
other_from (x ∷ []) zero within other = refl
other_from (x ∷ y ∷ t) zero within other = rw (not_equal x 39 other)
other_from (x ∷ t) (suc at) within other = other_from t at (omega arith) other

pub unquoted_quote : (t : List ℕ) (at : ℕ) → at < length t → get_or t at 0 ≡ 39 → unquoted (drop at t) ≡ get_or t at 0 ∷ unquoted (drop (at + 2) t)
unquoted_quote t at within quote = let order : at + 2 ≡ suc (suc at) = omega arith in rw (order, quote) (quote_from t at within quote)

pub unquoted_other : (t : List ℕ) (at : ℕ) → at < length t → get_or t at 0 ≢ 39 → unquoted (drop at t) ≡ get_or t at 0 ∷ unquoted (drop (at + 1) t)
unquoted_other t at within other = rw add-one (other_from t at within other)

-- one character more
pub unquoted_step : (t plain plain' whole : List ℕ) (at next byte : ℕ) → plain' ≡ plain ++ byte ∷ [] → unquoted (drop at t) ≡ byte ∷ unquoted (drop next t) → plain ++ unquoted (drop at t) ≡ whole → plain' ++ unquoted (drop next t) ≡ whole
unquoted_step t plain plain' whole at next byte pushed step h =
    let h' = rw step at h in
    rw (pushed, append_assoc) h'
