-- Lengths that are told at most as the greatest u64.
use Rattle.std.proofs.Common.{◌≡◌, ℕ, ◌-◌, ◌^◌, ◌<◌, ◌≤◌, Bool, true, false, ltb, Option, Some, None, refl, inl, inr, arith}
use Rattle.std.proofs.lemmas.Bool.{cases_Bool, ltb-false}
use Rattle.std.proofs.lemmas.Bool.Decides.{nat_tests}
use Rattle.pg_messages.specs.declared.encode_refused.EncodeRefused.{EncodeRefused}
use Rattle.pg_messages.specs.declared.encode_refused.EncodeRefused.TheVariants as refused
use Rattle.pg_messages.specs.Spelling.{capped, refusal_of}

pub refusal_told : (has_spelling : Bool) (length most : ℕ) → most < 2 ^ 64 - 1 → refusal_of has_spelling (capped length) most ≡ refusal_of has_spelling length most
refusal_told false length most lt = refl
refusal_told true length most lt = grind (arith, nat_tests)

abbrev refused_at : ℕ → Option EncodeRefused
refused_at length = Some (refused.TooLong (capped length))

pub refusal_none : (has_spelling : Bool) (length most : ℕ) → refusal_of has_spelling length most ≡ None → (has_spelling ≡ true) × (length ≤ most)
refusal_none false length most h = absurd cc
refusal_none true length most h =
    elim (cases_Bool (ltb most length)) [
      | inl long ↦ (let no : refused_at length ≡ None = rw long at h in absurd cc)
      | inr fits ↦ (refl, ltb-false most length fits)
    ]

pub refusal_small : (has_spelling : Bool) (length most : ℕ) → refusal_of has_spelling length most ≡ None → length ≤ most
refusal_small has_spelling length most h = (refusal_none has_spelling length most h).1

pub capped_small : (n most : ℕ) → n ≤ most → most < 2 ^ 32 → capped n ≡ n
capped_small n most le lt = omega (arith, le, lt)

pub capped_passed : (n skip : ℕ) → skip ≡ 2 ^ 64 - 1 - n → 2 ^ 64 - 1 - skip ≡ capped n
capped_passed n skip h = omega (arith, h)
