-- Loops that read values one behind the other: what was read, before what reading the rest gives, is what reading all
-- gives.
use Rattle.std.proofs.Common.{◌≡◌, ℕ, suc, ◌+◌, ◌-◌, ◌<◌, ◌≤◌, Bool, true, false, List, [], ◌∷◌, ◌++◌, length, Option, Some, None, Result, Ok, Err, refl, sym, ap, ◌∙◌, append_assoc, arith}
use Rattle.std.proofs.lemmas.List.{append-nil}
use Rattle.message_shapes.specs.declared.fields.Fault.{Fault}
use Rattle.message_shapes.specs.declared.fields.Fault.TheVariants as fault
use Rattle.message_shapes.specs.Fields.{◌>>=◌, Fails, behind, behind_next, continued, times, until_end}

abbrev pub joined : {X : Type 0} → List X → Result (List X × List ℕ) ℕ → Result (List X × List ℕ) ℕ
joined front read = read >>= λ x. Ok (front ++ x.0, x.1)

abbrev listed : {X : Type 0} → List ℕ → List X → Result (List X × List ℕ) ℕ
listed rest xs = Ok (xs, rest)

joined-push : {X : Type 0} (front : List X) (x : X) (others : Result (List X × List ℕ) ℕ) → joined front (others >>= λ y. Ok (x ∷ y.0, y.1)) ≡ joined (front ++ x ∷ []) others
joined-push front x (Ok y) = ap (listed y.1) (sym (append_assoc front (x ∷ []) y.0))
joined-push front x (Err left) = refl

-- ---- up to an end

pub until_fault : {X : Type 0} (next : List ℕ → Result (Option X × List ℕ) ℕ) (front : List X) (n i : ℕ) (bytes : List ℕ) (all : Result (List X × List ℕ) ℕ) (e : Fault) → i < n → Fails e (next bytes) → joined front (until_end next (n - i) bytes) ≡ all → Fails e all
unfolding until_end
until_fault next front n i bytes all fault.Memory lt h so_far = tt
until_fault next front n i bytes all (fault.Before left) lt h so_far =
    let k : n - i ≡ suc (n - (i + 1)) = omega arith in
    let one : joined front (until_end next (n - i) bytes) ≡ Err left = rw (k, h) refl in
    sym so_far ∙ one

pub until_none : {X : Type 0} (next : List ℕ → Result (Option X × List ℕ) ℕ) (front : List X) (n i : ℕ) (bytes after : List ℕ) (all : Result (List X × List ℕ) ℕ) (found : Option X) → i < n → next bytes ≡ Ok (found, after) → found ≡ None → joined front (until_end next (n - i) bytes) ≡ all → all ≡ Ok (front, after)
unfolding until_end
until_none next front n i bytes after all found lt h none so_far =
    let k : n - i ≡ suc (n - (i + 1)) = omega arith in
    let one : joined front (until_end next (n - i) bytes) ≡ Ok (front ++ [], after) = rw (k, h, none) refl in
    sym so_far ∙ one ∙ ap (listed after) (append-nil front)

pub until_some : {X : Type 0} (next : List ℕ → Result (Option X × List ℕ) ℕ) (front : List X) (n i : ℕ) (bytes : List ℕ) (all : Result (List X × List ℕ) ℕ) (x : X) (after : List ℕ) → i < n → next bytes ≡ Ok (Some x, after) → joined front (until_end next (n - i) bytes) ≡ all → joined (front ++ x ∷ []) (until_end next (n - (i + 1)) after) ≡ all
unfolding until_end
until_some next front n i bytes all x after lt h so_far =
    let k : n - i ≡ suc (n - (i + 1)) = omega arith in
    let one : joined front (until_end next (n - i) bytes) ≡ joined front (until_end next (n - (i + 1)) after >>= λ y. Ok (x ∷ y.0, y.1)) = rw (k, h) refl in
    sym (joined-push front x (until_end next (n - (i + 1)) after)) ∙ sym one ∙ so_far

pub until_out : {X : Type 0} (next : List ℕ → Result (Option X × List ℕ) ℕ) (front : List X) (n i : ℕ) (bytes : List ℕ) (all : Result (List X × List ℕ) ℕ) → n ≤ i → joined front (until_end next (n - i) bytes) ≡ all → all ≡ Err (length bytes)
unfolding until_end
until_out next front n i bytes all le so_far =
    let k : n - i ≡ 0 = omega arith in
    let one : joined front (until_end next (n - i) bytes) ≡ Err (length bytes) = rw k refl in
    sym so_far ∙ one

-- ---- up to an end, passed over

behind-cons : {X : Type 0} (x : X) (others : Result (List X × List ℕ) ℕ) → behind (others >>= λ y. Ok (x ∷ y.0, y.1)) ≡ behind others
behind-cons x (Ok y) = refl
behind-cons x (Err left) = refl

no_more : {X : Type 0} (read : Result (List X × List ℕ) ℕ) (left : ℕ) → behind read ≡ Err left → read ≡ Err left
no_more (Ok x) left h = absurd cc
no_more (Err n) left h = cc

abbrev told : Bool × List ℕ → Result (Bool × List ℕ) ℕ
told x = Ok x

told_is : (x y : Bool × List ℕ) → told x ≡ told y → x ≡ y
told_is x y e = cc

not_both : true ≡ false → ⊥
not_both e = cc

behind_more : {X : Type 0} (read : Result (Option X × List ℕ) ℕ) (others : List ℕ → Result (List X × List ℕ) ℕ) (after : List ℕ) → behind_next read ≡ Ok (false, after) → behind (read >>= continued others) ≡ behind (others after)
behind_more (Ok (None, rest)) others after h = absurd (not_both (ap (λ (x : Bool × List ℕ). x.0) (told_is (true, rest) (false, after) h)))
behind_more (Ok (Some x, rest)) others after h = (let same : rest ≡ after = ap (λ (x : Bool × List ℕ). x.1) (told_is (false, rest) (false, after) h) in rw same (behind-cons x (others after)))
behind_more (Err left) others after h = absurd cc

behind_last : {X : Type 0} (read : Result (Option X × List ℕ) ℕ) (others : List ℕ → Result (List X × List ℕ) ℕ) (after : List ℕ) → behind_next read ≡ Ok (true, after) → behind (read >>= continued others) ≡ Ok after
behind_last (Ok (None, rest)) others after h = (let same : rest ≡ after = ap (λ (x : Bool × List ℕ). x.1) (told_is (true, rest) (true, after) h) in rw same refl)
behind_last (Ok (Some x, rest)) others after h = absurd (not_both (sym (ap (λ (x : Bool × List ℕ). x.0) (told_is (false, rest) (true, after) h))))
behind_last (Err left) others after h = absurd cc

pub passed_fault : {X : Type 0} (next : List ℕ → Result (Option X × List ℕ) ℕ) (n i : ℕ) (bytes : List ℕ) (all : Result (List X × List ℕ) ℕ) (left : ℕ) → i < n → next bytes ≡ Err left → behind (until_end next (n - i) bytes) ≡ behind all → all ≡ Err left
unfolding until_end
passed_fault next n i bytes all left lt h so_far =
    let k : n - i ≡ suc (n - (i + 1)) = omega arith in
    let one : behind (until_end next (n - i) bytes) ≡ Err left = rw (k, h) refl in
    no_more all left (sym so_far ∙ one)

pub passed_last : {X : Type 0} (next : List ℕ → Result (Option X × List ℕ) ℕ) (n i : ℕ) (bytes after : List ℕ) (is_last : Bool) (all : Result (List X × List ℕ) ℕ) → i < n → behind_next (next bytes) ≡ Ok (is_last, after) → is_last ≡ true → behind (until_end next (n - i) bytes) ≡ behind all → behind all ≡ Ok after
unfolding until_end
passed_last next n i bytes after is_last all lt h last so_far =
    let k : n - i ≡ suc (n - (i + 1)) = omega arith in
    let one : behind (until_end next (n - i) bytes) ≡ Ok after = rw k (behind_last (next bytes) (until_end next (n - (i + 1))) after (rw last at h)) in
    sym so_far ∙ one

pub passed_more : {X : Type 0} (next : List ℕ → Result (Option X × List ℕ) ℕ) (n i : ℕ) (bytes after : List ℕ) (is_last : Bool) (all : Result (List X × List ℕ) ℕ) → i < n → behind_next (next bytes) ≡ Ok (is_last, after) → is_last ≡ false → behind (until_end next (n - i) bytes) ≡ behind all → behind (until_end next (n - (i + 1)) after) ≡ behind all
unfolding until_end
passed_more next n i bytes after is_last all lt h more so_far =
    let k : n - i ≡ suc (n - (i + 1)) = omega arith in
    let one : behind (until_end next (n - i) bytes) ≡ behind (until_end next (n - (i + 1)) after) = rw k (behind_more (next bytes) (until_end next (n - (i + 1))) after (rw more at h)) in
    sym one ∙ so_far

pub passed_out : {X : Type 0} (next : List ℕ → Result (Option X × List ℕ) ℕ) (n i : ℕ) (bytes : List ℕ) (all : Result (List X × List ℕ) ℕ) → n ≤ i → behind (until_end next (n - i) bytes) ≡ behind all → all ≡ Err (length bytes)
unfolding until_end
passed_out next n i bytes all le so_far =
    let k : n - i ≡ 0 = omega arith in
    let one : behind (until_end next (n - i) bytes) ≡ Err (length bytes) = rw k refl in
    no_more all (length bytes) (sym so_far ∙ one)

-- ---- so many

pub times_fault : {X : Type 0} (read : List ℕ → Result (X × List ℕ) ℕ) (front : List X) (n i : ℕ) (bytes : List ℕ) (all : Result (List X × List ℕ) ℕ) (e : Fault) → i < n → Fails e (read bytes) → joined front (times read (n - i) bytes) ≡ all → Fails e all
unfolding times
times_fault read front n i bytes all fault.Memory lt h so_far = tt
times_fault read front n i bytes all (fault.Before left) lt h so_far =
    let k : n - i ≡ suc (n - (i + 1)) = omega arith in
    let one : joined front (times read (n - i) bytes) ≡ Err left = rw (k, h) refl in
    sym so_far ∙ one

pub times_one : {X : Type 0} (read : List ℕ → Result (X × List ℕ) ℕ) (front : List X) (n i : ℕ) (bytes : List ℕ) (all : Result (List X × List ℕ) ℕ) (x : X) (after : List ℕ) → i < n → read bytes ≡ Ok (x, after) → joined front (times read (n - i) bytes) ≡ all → joined (front ++ x ∷ []) (times read (n - (i + 1)) after) ≡ all
unfolding times
times_one read front n i bytes all x after lt h so_far =
    let k : n - i ≡ suc (n - (i + 1)) = omega arith in
    let one : joined front (times read (n - i) bytes) ≡ joined front (times read (n - (i + 1)) after >>= λ y. Ok (x ∷ y.0, y.1)) = rw (k, h) refl in
    sym (joined-push front x (times read (n - (i + 1)) after)) ∙ sym one ∙ so_far

pub times_out : {X : Type 0} (read : List ℕ → Result (X × List ℕ) ℕ) (front : List X) (n i : ℕ) (bytes : List ℕ) (all : Result (List X × List ℕ) ℕ) → n ≤ i → joined front (times read (n - i) bytes) ≡ all → all ≡ Ok (front, bytes)
unfolding times
times_out read front n i bytes all le so_far =
    let k : n - i ≡ 0 = omega arith in
    let one : joined front (times read (n - i) bytes) ≡ Ok (front ++ [], bytes) = rw k refl in
    sym so_far ∙ one ∙ ap (listed bytes) (append-nil front)

-- ---- so many, passed over

behind_times : {X : Type 0} (first : Result (X × List ℕ) ℕ) (read : List ℕ → Result (X × List ℕ) ℕ) (n : ℕ) (after : List ℕ) → behind first ≡ Ok after → behind (first >>= λ x. times read n x.1 >>= λ others. Ok (x.0 ∷ others.0, others.1)) ≡ behind (times read n after)
behind_times (Ok x) read n after h = (let same : x.1 ≡ after = cc in rw same (behind-cons x.0 (times read n after)))
behind_times (Err left) read n after h = absurd cc

pub counted_fault : {X : Type 0} (read : List ℕ → Result (X × List ℕ) ℕ) (n i : ℕ) (bytes : List ℕ) (all : Result (List X × List ℕ) ℕ) (left : ℕ) → i < n → read bytes ≡ Err left → behind (times read (n - i) bytes) ≡ behind all → all ≡ Err left
unfolding times
counted_fault read n i bytes all left lt h so_far =
    let k : n - i ≡ suc (n - (i + 1)) = omega arith in
    let one : behind (times read (n - i) bytes) ≡ Err left = rw (k, h) refl in
    no_more all left (sym so_far ∙ one)

pub counted_one : {X : Type 0} (read : List ℕ → Result (X × List ℕ) ℕ) (n i : ℕ) (bytes after : List ℕ) (all : Result (List X × List ℕ) ℕ) → i < n → behind (read bytes) ≡ Ok after → behind (times read (n - i) bytes) ≡ behind all → behind (times read (n - (i + 1)) after) ≡ behind all
unfolding times
counted_one read n i bytes after all lt h so_far =
    let k : n - i ≡ suc (n - (i + 1)) = omega arith in
    let one : behind (times read (n - i) bytes) ≡ behind (times read (n - (i + 1)) after) = rw k (behind_times (read bytes) read (n - (i + 1)) after h) in
    sym one ∙ so_far

pub counted_out : {X : Type 0} (read : List ℕ → Result (X × List ℕ) ℕ) (n i : ℕ) (bytes : List ℕ) (all : Result (List X × List ℕ) ℕ) → n ≤ i → behind (times read (n - i) bytes) ≡ behind all → behind all ≡ Ok bytes
unfolding times
counted_out read n i bytes all le so_far =
    let k : n - i ≡ 0 = omega arith in
    let one : behind (times read (n - i) bytes) ≡ Ok bytes = rw k refl in
    sym so_far ∙ one
