-- Laws of the bits that a configuration is kept in.
use Rattle.std.specs.Prelude.{◌≡◌, ℕ, zero, suc, ◌+◌, ◌*◌, ◌%◌, ◌^◌, ◌<◌, ◌==◌, if◌then◌else◌, List, [], ◌∷◌, ◌++◌}
use Rattle.std.specs.Int.{bit_at}
use Rattle.std.proofs.Common.{◌∙◌, ap, arith}
use Rattle.std.proofs.lemmas.Nat.{mod-pow-add}
use Rattle.std.proofs.Math.Nat.{mod-eq_of_lt}
use Rattle.std.proofs.lemmas.Nat.Bits.{bit_at-lt}
use Rattle.feature_expr.specs.declared.config.Config.TheInside.{Inside}
use Rattle.feature_expr.specs.Config.{ones_below, bits_of}

bits_of-append : (xs ys : List ℕ) → bits_of (xs ++ ys) ≡ bits_of xs + bits_of ys
bits_of-append [] ys = omega arith
bits_of-append (x ∷ xs) ys = omega (arith, bits_of-append xs ys)

bits_of_one : (k bit : ℕ) → bit < 2 → bits_of (if bit == 1 then k ∷ [] else []) ≡ bit * 2 ^ k
bits_of_one k zero within = omega arith
bits_of_one k (suc zero) within = omega arith
bits_of_one k (suc (suc bit)) within = absurd (omega arith)

bits_of-ones_below : (k n : ℕ) → bits_of (ones_below k n) ≡ n % 2 ^ k
unfolding ones_below
bits_of-ones_below zero n = omega arith
bits_of-ones_below (suc k) n =
    let front = bits_of-append (ones_below k n) (if bit_at n k == 1 then k ∷ [] else []) in
    let last = bits_of_one k (bit_at n k) (bit_at-lt n k) in
    let so_far = bits_of-ones_below k n in
    let order : 1 + k ≡ suc k = omega arith in
    let whole = rw order at (mod-pow-add n 1 k) in
    front ∙ omega (arith, last, so_far, whole)

pub bits_of-ones_below_64 : (c : Inside) → c.bits < 2 ^ 64 → record { bits = bits_of (ones_below 64 c.bits) } ≡ c
bits_of-ones_below_64 c below = ap (λ (b : ℕ). let inside : Inside = record { bits = b } in inside) (bits_of-ones_below 64 c.bits ∙ mod-eq_of_lt below)
