-- A field that is read is the field that was written, and what was written is read again, whatever follows it.
use Rattle.std.proofs.Common.{◌≡◌, ℕ, zero, suc, ◌+◌, ◌^◌, ◌<◌, ◌≤◌, Bool, true, false, not, cond, ltb, eqb, List, [], ◌∷◌, ◌++◌, length, take, drop, None, Result, Ok, Err, refl, sym, ap, ap₂, subst, ◌∙◌, append_assoc, arith, inl, inr}
use Rattle.std.specs.Prelude.{◌⊎◌, ◌==◌}
use Rattle.std.specs.Int.{Width, w16, w32, byte_len, from_be_bytes, to_be_bytes}
use Rattle.std.specs.List.{position_or_len}
use Rattle.std.proofs.lemmas.Bool.{and_parts, and_from, ne_eqb, cases_lt, eqb-true, ltb-false, le-ltb, lt-ltb}
use Rattle.std.proofs.lemmas.List.{take_at, drop_at, take-append-drop, length-append, length-take, get_or-drop, get_or-take, get_or_past, nil_from_length}
use Rattle.std.proofs.lemmas.Nat.{be_bytes_2, be_bytes_4, from_be_bytes-to_be_bytes_2, from_be_bytes-to_be_bytes_4}
use Rattle.message_shapes.specs.Fields.{◌>>=◌, ended, is_zero, number_at, byte_at, cut_at, string_at}
use Rattle.message_shapes.specs.Spelling.{IsBytes, is_string, string}

pub IsBytes-drop : (n : ℕ) (bytes : List ℕ) → IsBytes bytes → IsBytes (drop n bytes)
IsBytes-drop n bytes h i = rw get_or-drop (h (n + i))

pub IsBytes-take : (n : ℕ) (bytes : List ℕ) → IsBytes bytes → IsBytes (take n bytes)
IsBytes-take n bytes h i =
    elim (cases_lt i n) [
      | inl lt ↦ rw (get_or-take n bytes i 0 lt) (h i)
      | inr le ↦ rw (get_or_past (take n bytes) i 0 (omega (arith, length-take n bytes))) (omega arith)
    ]

-- ---- steps

-- the value of a step that did not fail
pub bind_ok : {A B : Type 0} (r : Result A ℕ) (f : A → Result B ℕ) (y : B) → (r >>= f) ≡ Ok y → (x : A) × (r ≡ Ok x) × (f x ≡ Ok y)
bind_ok (Ok x) f y e = (x, refl, e)
bind_ok (Err d) f y e = absurd cc

-- which way a test went
pub chosen : {A : Type 0} (b : Bool) (x y z : Result A ℕ) → cond b x y ≡ z → ((b ≡ true) × (x ≡ z)) ⊎ ((b ≡ false) × (y ≡ z))
chosen true x y z e = inl (refl, e)
chosen false x y z e = inr (refl, e)

abbrev pub done : {A : Type 0} → A → Result A ℕ
done x = Ok x

pub ok_is : {A : Type 0} (x y : A) → done x ≡ done y → x ≡ y
ok_is x y e = cc

pub guard_ok : {A : Type 0} (b : Bool) (d : ℕ) (x y : A) → cond b (Err d) (Ok x) ≡ Ok y → (b ≡ false) × (x ≡ y)
guard_ok true d x y e = absurd cc
guard_ok false d x y e = (refl, cc)

pub guarded_ok : {A : Type 0} (b : Bool) (d : ℕ) (x y : A) → cond b (Ok x) (Err d) ≡ Ok y → (b ≡ true) × (x ≡ y)
guarded_ok true d x y e = (refl, cc)
guarded_ok false d x y e = absurd cc

-- what a reader took from the front
pub record Takes (bytes text rest : List ℕ) : Type 0 where
  pub parts : bytes ≡ text ++ rest
  pub rest_fits : IsBytes rest

pub Takes-then : (a x b y c : List ℕ) → Takes a x b → Takes b y c → Takes a (x ++ y) c
Takes-then a x b y c p q = record { parts = p.parts ∙ ap (λ (t : List ℕ). x ++ t) q.parts ∙ sym (append_assoc x y c); rest_fits = q.rest_fits }

-- ---- numbers

pub record IsWide (w : Width) (limit : ℕ) : Type 0 where
  pub len : (n : ℕ) → length (to_be_bytes w n) ≡ byte_len w
  pub back : (bytes : List ℕ) → length bytes ≡ byte_len w → IsBytes bytes → to_be_bytes w (from_be_bytes w bytes) ≡ bytes
  pub again : (n : ℕ) → n < limit → from_be_bytes w (to_be_bytes w n) ≡ n
  pub below : (bytes : List ℕ) → IsBytes bytes → from_be_bytes w bytes < limit

pub wide16 : IsWide w16 (2 ^ 16)
wide16 = record {
  len = λ n. refl;
  back = λ bytes len fits. be_bytes_2 bytes _ len fits refl;
  again = λ n lt. from_be_bytes-to_be_bytes_2 n lt;
  below = λ bytes fits. omega (arith, fits 0, fits 1);
}

pub wide32 : IsWide w32 (2 ^ 32)
wide32 = record {
  len = λ n. refl;
  back = λ bytes len fits. be_bytes_4 bytes _ len fits refl;
  again = λ n lt. from_be_bytes-to_be_bytes_4 n lt;
  below = λ bytes fits. omega (arith, fits 0, fits 1, fits 2, fits 3);
}

pub number_takes : (w : Width) (limit : ℕ) (wide : IsWide w limit) (bytes : List ℕ) (n : ℕ) (rest : List ℕ) → IsBytes bytes → number_at w bytes ≡ Ok (n, rest) → Takes bytes (to_be_bytes w n) rest × (n < limit)
number_takes w limit wide bytes n rest fits e =
    let g = guard_ok (ltb (length bytes) (byte_len w)) (length bytes) (from_be_bytes w (take (byte_len w) bytes), drop (byte_len w) bytes) (n, rest) e in
    let long : byte_len w ≤ length bytes = ltb-false _ _ g.0 in
    let n-is : from_be_bytes w (take (byte_len w) bytes) ≡ n = ap (λ (p : ℕ × List ℕ). p.0) g.1 in
    let rest-is : drop (byte_len w) bytes ≡ rest = ap (λ (p : ℕ × List ℕ). p.1) g.1 in
    let front : to_be_bytes w n ≡ take (byte_len w) bytes = rw (← n-is) (wide.back (take (byte_len w) bytes) (omega (arith, length-take (byte_len w) bytes)) (IsBytes-take (byte_len w) bytes fits)) in
    (record { parts = rw (front, ← rest-is) (sym (take-append-drop (byte_len w) bytes)); rest_fits = rw (← rest-is) (IsBytes-drop (byte_len w) bytes fits) }, rw (← n-is) (wide.below (take (byte_len w) bytes) (IsBytes-take (byte_len w) bytes fits)))

pub number_again : (w : Width) (limit : ℕ) (wide : IsWide w limit) (n : ℕ) (rest : List ℕ) → n < limit → number_at w (to_be_bytes w n ++ rest) ≡ Ok (n, rest)
number_again w limit wide n rest lt =
    let len = wide.len n in
    let long : ltb (length (to_be_bytes w n ++ rest)) (byte_len w) ≡ false = le-ltb _ _ (omega (arith, length-append (to_be_bytes w n) rest)) in
    rw (long, take_at (to_be_bytes w n) rest (byte_len w) len, drop_at (to_be_bytes w n) rest (byte_len w) len, wide.again n lt) refl

pub byte_takes : (bytes : List ℕ) (byte : ℕ) (rest : List ℕ) → IsBytes bytes → byte_at bytes ≡ Ok (byte, rest) → Takes bytes (byte ∷ []) rest
byte_takes [] byte rest fits e = absurd cc
byte_takes (b ∷ bytes) byte rest fits e =
    subst (λ (x : ℕ × List ℕ). Takes (b ∷ bytes) (x.0 ∷ []) x.1) (ok_is (b, bytes) (byte, rest) e) (record { parts = refl; rest_fits = λ i. fits (suc i) })

-- ---- strings

not_zero : (b : ℕ) → not (suc b == 0) ≡ true
not_zero b = ap not (ne_eqb (suc b) 0 (λ e. absurd (omega arith)))

first_zero : (s rest : List ℕ) → is_string s ≡ true → position_or_len is_zero (s ++ 0 ∷ rest) ≡ length s
first_zero [] rest h = refl
first_zero (zero ∷ s) rest h = absurd cc
first_zero (suc b ∷ s) rest h =
    let tail : is_string s ≡ true = (and_parts (not (suc b == 0)) (is_string s) h).1 in
    rw (not_zero b) (omega (arith, first_zero s rest tail))

pub string_again : (s rest : List ℕ) → is_string s ≡ true → string_at (string s ++ rest) ≡ Ok (s, rest)
unfolding string_at
string_again s rest h =
    let regrouped : string s ++ rest ≡ s ++ 0 ∷ rest = append_assoc s (0 ∷ []) rest in
    let place = first_zero s rest h in
    let within : ltb (length s) (length (s ++ 0 ∷ rest)) ≡ true = lt-ltb _ _ (omega (arith, length-append s (0 ∷ rest))) in
    ap string_at regrouped ∙ rw (place, within, take_at s (0 ∷ rest) (length s) refl, drop_at s (0 ∷ rest) (length s) refl) refl

-- the front up to the first zero byte
pub record IsCut (bytes : List ℕ) (k : ℕ) : Type 0 where
  pub parts : bytes ≡ take k bytes ++ 0 ∷ drop 1 (drop k bytes)
  pub no_zero : is_string (take k bytes) ≡ true

IsCut-more : (b : ℕ) (bytes : List ℕ) (k n : ℕ) → n ≡ suc k → IsCut bytes k → IsCut (suc b ∷ bytes) n
IsCut-more b bytes k n is cut = rw is (record { parts = ap (λ (t : List ℕ). suc b ∷ t) cut.parts; no_zero = and_from (not (suc b == 0)) (is_string (take k bytes)) (not_zero b) cut.no_zero })

is_cut : (bytes : List ℕ) → position_or_len is_zero bytes < length bytes → IsCut bytes (position_or_len is_zero bytes)
is_cut [] lt = absurd (omega arith)
is_cut (zero ∷ bytes) lt = record { parts = refl; no_zero = refl }
is_cut (suc b ∷ bytes) lt =
    let place : position_or_len is_zero (suc b ∷ bytes) ≡ suc (position_or_len is_zero bytes) = rw (not_zero b) (omega arith) in
    IsCut-more b bytes (position_or_len is_zero bytes) _ place (is_cut bytes (omega (arith, place)))

pub string_takes : (bytes s rest : List ℕ) → IsBytes bytes → string_at bytes ≡ Ok (s, rest) → Takes bytes (string s) rest × (is_string s ≡ true)
unfolding string_at
string_takes bytes s rest fits e =
    elim (cases_lt (position_or_len is_zero bytes) (length bytes)) [
      | inl lt ↦
          let k = position_or_len is_zero bytes in
          let within : ltb (position_or_len is_zero bytes) (length bytes) ≡ true = lt-ltb _ _ lt in
          let found : done (take k bytes, drop 1 (drop k bytes)) ≡ Ok (s, rest) = rw within at e in
          let cut = is_cut bytes lt in
          let whole : Takes bytes (string (take k bytes)) (drop 1 (drop k bytes)) = record { parts = cut.parts ∙ sym (append_assoc (take k bytes) (0 ∷ []) (drop 1 (drop k bytes))); rest_fits = IsBytes-drop 1 (drop k bytes) (IsBytes-drop k bytes fits) } in
          subst (λ (x : List ℕ × List ℕ). Takes bytes (string x.0) x.1 × (is_string x.0 ≡ true)) (ok_is (take k bytes, drop 1 (drop k bytes)) (s, rest) found) (whole, cut.no_zero)
      | inr le ↦
          let without : ltb (position_or_len is_zero bytes) (length bytes) ≡ false = le-ltb _ _ le in
          let none : cut_at bytes None ≡ Ok (s, rest) = rw without at e in
          absurd cc
    ]

-- ---- the end of a body

pub ended_ok : {X : Type 0} (r : Result (X × List ℕ) ℕ) (x : X) → (r >>= ended) ≡ Ok x → r ≡ Ok (x, [])
ended_ok {X = X} r x e =
    let a = bind_ok r ended x e in
    let g = guarded_ok (eqb (length a.0.1) 0) (length a.0.1) a.0.0 x a.2 in
    let nothing : a.0.1 ≡ [] = nil_from_length a.0.1 (eqb-true (length a.0.1) 0 g.0) in
    let paired : X → List ℕ → Result (X × List ℕ) ℕ = λ u rest. Ok (u, rest) in
    a.1 ∙ ap₂ paired g.1 nothing

pub ended_again : {X : Type 0} (r : Result (X × List ℕ) ℕ) (x : X) → r ≡ Ok (x, []) → (r >>= ended) ≡ Ok x
ended_again r x e = rw e refl
