-- What is spelled is read, what is read is spelled so, and what is written is spelled: of each shape once.
use Rattle.std.proofs.Common.{◌≡◌, ℕ, zero, suc, ◌^◌, ◌<◌, ◌≤◌, Bool, true, false, not, cond, ltb, List, [], ◌∷◌, ◌++◌, length, take, drop, Option, Some, None, Result, Ok, Err, refl, sym, ap, subst, ◌∙◌, append_assoc, arith, inl, inr, lit<}
use Rattle.std.specs.Prelude.{◌==◌, ◌||◌, ◌⊎◌, nat_le, ℤ, pos, negsuc, ◌&&◌}
use Rattle.std.specs.Int.{Width, w16, w32, to_be_bytes, from_be_bytes, byte_len, cast_signed, cast_unsigned}
use mir.Val.{bits}
use Rattle.std.specs.List.{position}
use Rattle.std.proofs.lemmas.Bool.{cases_Bool, eqb-true, eq-eqb, ne_eqb, ltb-false, ltb-true, lt-ltb, le-ltb, le-leb, leb-true, and_parts, and_from}
use Rattle.std.proofs.lemmas.List.{take_at, drop_at, take-append-drop, length-append, length-take}
use Rattle.std.proofs.lemmas.Int.{to_z-of_z}
use Rattle.message_shapes.specs.Fields.{◌>>=◌, number_at, byte_at, cut_at, string_at, is_zero}
use Rattle.message_shapes.specs.Shapes.{Shape, IsWritten, BeginsNone, minus_one, size_limit, exact, string_bytes, number_bytes, one_byte, string, number, low_at, low, dropped_at, IsDropped, dropped, fixed_at, fixed, told_by, choice_at, choice, is_size, size_at, size, bytes_as, sized_at, sized_bytes, IsSizedText, BreaksSized, sized, nothing_at, nothing, made_at, mark_at, mark, IsSigned, signed, fits_signed, word_at, word}
use Rattle.message_shapes.specs.Spelling.{IsBytes, is_string}
use Rattle.message_shapes.specs.Spelling.{string as string_text}
use Rattle.message_shapes.proofs.FieldLaws.{bind_ok, ok_is, guard_ok, guarded_ok, Takes, Takes-then, IsWide, wide16, wide32, number_takes, number_again, byte_takes, string_again, string_takes, IsBytes-drop, done}

-- what of a shape the laws say
pub record IsShape {X : Type 0} (s : Shape X) : Type 0 where
  pub takes : (bytes : List ℕ) (x : X) (rest : List ℕ) → IsBytes bytes → s.read bytes ≡ Ok (x, rest) → (text : List ℕ) × s.Spells x text × Takes bytes text rest
  pub again : (x : X) (text rest : List ℕ) → s.Spells x text → s.read (text ++ rest) ≡ Ok (x, rest)
  pub written : (x : X) → s.good x ≡ true → length (s.write x) ≤ size_limit → s.Spells x (s.write x)
  -- the reader finds the first bad field, where there is one
  pub broken : (bytes : List ℕ) (left : ℕ) → IsBytes bytes → s.read bytes ≡ Err left → s.Breaks bytes left
  pub breaks : (bytes : List ℕ) (left : ℕ) → IsBytes bytes → s.Breaks bytes left → s.read bytes ≡ Err left

-- ---- where a single field breaks

abbrev fault : {X : Type 0} → ℕ → Result (X × List ℕ) ℕ
fault left = Err left

no_fault : {X : Type 0} (x : X × List ℕ) (left : ℕ) → fault left ≡ Ok x → ⊥
no_fault x left e = cc

fault_is : {X : Type 0} (m n : ℕ) → fault {X = X} m ≡ fault {X = X} n → m ≡ n
fault_is m n e = cc

abbrev pub Again : {X : Type 0} → (List ℕ → Result (X × List ℕ) ℕ) → (X → List ℕ → Type 0) → Type 0
Again {X = X} read S = (x : X) (text rest : List ℕ) → S x text → read (text ++ rest) ≡ Ok (x, rest)

abbrev pub TakesText : {X : Type 0} → (List ℕ → Result (X × List ℕ) ℕ) → (X → List ℕ → Type 0) → Type 0
TakesText {X = X} read S = (bytes : List ℕ) (x : X) (rest : List ℕ) → IsBytes bytes → read bytes ≡ Ok (x, rest) → (text : List ℕ) × S x text × Takes bytes text rest

-- a fault of a single field is at its first byte
abbrev pub AtFirst : {X : Type 0} → (List ℕ → Result (X × List ℕ) ℕ) → Type 0
AtFirst read = (bytes : List ℕ) (left : ℕ) → read bytes ≡ Err left → left ≡ length bytes

none_begins : {X : Type 0} (read : List ℕ → Result (X × List ℕ) ℕ) (S : X → List ℕ → Type 0) → Again read S → AtFirst read → (bytes : List ℕ) (left : ℕ) → read bytes ≡ Err left → BeginsNone S bytes left
none_begins read S again at bytes left e = (at bytes left e, λ x text rest h is. no_fault (x, rest) left (sym e ∙ ap read is ∙ again x text rest h))

begins_fault : {X : Type 0} (read : List ℕ → Result (X × List ℕ) ℕ) (S : X → List ℕ → Type 0) → TakesText read S → AtFirst read → (bytes : List ℕ) (left : ℕ) → IsBytes bytes → BeginsNone S bytes left → (found : Result (X × List ℕ) ℕ) → read bytes ≡ found → read bytes ≡ Err left
begins_fault read S takes at bytes left fits none (Ok x) e = (let t = takes bytes x.0 x.1 fits e in absurd (none.1 x.0 t.0 x.1 t.1 t.2.parts))
begins_fault read S takes at bytes left fits none (Err n) e = e ∙ ap fault (at bytes n e ∙ sym none.0)

-- ---- single fields

exact_is : {X : Type 0} (read : List ℕ → Result (X × List ℕ) ℕ) (write : X → List ℕ) (good : X → Bool)
    → ((bytes : List ℕ) (x : X) (rest : List ℕ) → IsBytes bytes → read bytes ≡ Ok (x, rest) → Takes bytes (write x) rest × (good x ≡ true))
    → ((x : X) (rest : List ℕ) → good x ≡ true → read (write x ++ rest) ≡ Ok (x, rest))
    → AtFirst read → IsShape (exact read write good)
exact_is {X = X} read write good takes again at =
    let all : TakesText read (IsWritten write good) = λ bytes x rest fits e. (write x, ((takes bytes x rest fits e).1, refl), (takes bytes x rest fits e).0) in
    let back : Again read (IsWritten write good) = λ x text rest h. ap (λ (t : List ℕ). read (t ++ rest)) h.1 ∙ again x rest h.0 in
    record {
      takes = all;
      again = back;
      written = λ x h small. (h, refl);
      broken = λ bytes left fits e. none_begins read (IsWritten write good) back at bytes left e;
      breaks = λ bytes left fits h. begins_fault read (IsWritten write good) all at bytes left fits h (read bytes) refl;
    }

-- ---- faults at the first byte

fault_then : {A B : Type 0} (r : Result A ℕ) (f : A → Result B ℕ) (left n : ℕ) → ((m : ℕ) → r ≡ Err m → m ≡ n) → ((x : A) (m : ℕ) → f x ≡ Err m → m ≡ n) → (r >>= f) ≡ Err left → left ≡ n
fault_then (Ok x) f left n first second e = second x left e
fault_then (Err m) f left n first second e = (let same : left ≡ m = cc in same ∙ first m refl)

no_value : {X : Type 0} (x : X) (left : ℕ) → done x ≡ Err left → ⊥
no_value x left e = cc

guard_at : {X : Type 0} (b : Bool) (x : X) (n m : ℕ) → cond b (Err n) (Ok x) ≡ Err m → m ≡ n
guard_at true x n m e = cc
guard_at false x n m e = absurd cc

number_first : (w : Width) (bytes : List ℕ) (left : ℕ) → number_at w bytes ≡ Err left → left ≡ length bytes
number_first w bytes left e = guard_at (ltb (length bytes) (byte_len w)) (from_be_bytes w (take (byte_len w) bytes), drop (byte_len w) bytes) (length bytes) left e

byte_first : (bytes : List ℕ) (left : ℕ) → byte_at bytes ≡ Err left → left ≡ length bytes
byte_first [] left e = cc
byte_first (byte ∷ bytes) left e = absurd cc

cut_first : (bytes : List ℕ) (place : Option ℕ) (left : ℕ) → cut_at bytes place ≡ Err left → left ≡ length bytes
cut_first bytes None left e = cc
cut_first bytes (Some place) left e = absurd cc

string_first : (bytes : List ℕ) (left : ℕ) → string_at bytes ≡ Err left → left ≡ length bytes
unfolding string_at
string_first bytes left e = cut_first bytes (position is_zero bytes) left e

low_first : (w : Width) (most : ℕ) (bytes : List ℕ) (left : ℕ) → low_at w most bytes ≡ Err left → left ≡ length bytes
low_first w most bytes left e =
    fault_then (number_at w bytes) (λ number. cond (ltb most number.0) (Err (length bytes)) (Ok number)) left (length bytes) (number_first w bytes) (λ x m h. guard_at (ltb most x.0) x (length bytes) m h) e

pub string_is : IsShape string
unfolding string_bytes
string_is = exact_is string_at string_bytes is_string string_takes string_again string_first

-- ---- strings that aren't empty

not_false : (b : Bool) → not b ≡ true → b ≡ false
not_false true h = absurd cc
not_false false h = refl

word_takes : (bytes s rest : List ℕ) → IsBytes bytes → word_at bytes ≡ Ok (s, rest) → Takes bytes (string_text s) rest × ((not (length s == 0) && is_string s) ≡ true)
word_takes bytes s rest fits e =
    let a = bind_ok (string_at bytes) (λ t. cond (length t.0 == 0) (Err (length bytes)) (Ok t)) (s, rest) e in
    let g = guard_ok (length a.0.0 == 0) (length bytes) a.0 (s, rest) a.2 in
    let t = string_takes bytes a.0.0 a.0.1 fits a.1 in
    subst (λ (x : List ℕ × List ℕ). Takes bytes (string_text x.0) x.1 × ((not (length x.0 == 0) && is_string x.0) ≡ true)) g.1 (t.0, and_from (not (length a.0.0 == 0)) (is_string a.0.0) (ap not g.0) t.1)

word_from : (s bytes rest : List ℕ) → (length s == 0) ≡ false → string_at bytes ≡ Ok (s, rest) → word_at bytes ≡ Ok (s, rest)
word_from s bytes rest some h = ap (λ r. r >>= λ t. cond (length t.0 == 0) (Err (length bytes)) (Ok t)) h ∙ rw some refl

pub word_is : IsShape word
unfolding string_bytes
word_is = exact_is word_at string_bytes (λ s. not (length s == 0) && is_string s) word_takes
    (λ s rest h. let parts = and_parts (not (length s == 0)) (is_string s) h in word_from s (string_text s ++ rest) rest (not_false (length s == 0) parts.0) (string_again s rest parts.1))
    (λ bytes left e. fault_then (string_at bytes) (λ t. cond (length t.0 == 0) (Err (length bytes)) (Ok t)) left (length bytes) (string_first bytes) (λ x m h. guard_at (length x.0 == 0) x (length bytes) m h) e)

number_is : (w : Width) (wide : IsWide w (2 ^ bits w)) → IsShape (number w)
unfolding number_bytes
number_is w wide = exact_is (number_at w) (number_bytes w) (λ n. ltb n (2 ^ bits w))
    (λ bytes n rest fits e. ((number_takes w (2 ^ bits w) wide bytes n rest fits e).0, lt-ltb _ _ (number_takes w (2 ^ bits w) wide bytes n rest fits e).1))
    (λ n rest h. number_again w (2 ^ bits w) wide n rest (ltb-true n (2 ^ bits w) h))
    (number_first w)

pub number16_is : IsShape (number w16)
number16_is = number_is w16 wide16

pub number32_is : IsShape (number w32)
number32_is = number_is w32 wide32

low_takes : (w : Width) (wide : IsWide w (2 ^ bits w)) (most : ℕ) (bytes : List ℕ) (n : ℕ) (rest : List ℕ) → IsBytes bytes → low_at w most bytes ≡ Ok (n, rest) → Takes bytes (to_be_bytes w n) rest × (nat_le n most ≡ true)
low_takes w wide most bytes n rest fits e =
    let a = bind_ok (number_at w bytes) (λ number. cond (ltb most number.0) (Err (length bytes)) (Ok number)) (n, rest) e in
    let g = guard_ok (ltb most a.0.0) (length bytes) a.0 (n, rest) a.2 in
    let t = number_takes w (2 ^ bits w) wide bytes a.0.0 a.0.1 fits a.1 in
    subst (λ (x : ℕ × List ℕ). Takes bytes (to_be_bytes w x.0) x.1 × (nat_le x.0 most ≡ true)) g.1 (t.0, le-leb a.0.0 most (ltb-false most a.0.0 g.0))

low_from : (w : Width) (most n : ℕ) (bytes rest : List ℕ) → ltb most n ≡ false → number_at w bytes ≡ Ok (n, rest) → low_at w most bytes ≡ Ok (n, rest)
low_from w most n bytes rest low h = ap (λ r. r >>= λ number. cond (ltb most number.0) (Err (length bytes)) (Ok number)) h ∙ rw low refl

low_is : (w : Width) (wide : IsWide w (2 ^ bits w)) (most : ℕ) → most < 2 ^ bits w → IsShape (low w most)
unfolding number_bytes
low_is w wide most lt = exact_is (low_at w most) (number_bytes w) (λ n. nat_le n most) (low_takes w wide most)
    (λ n rest h. let le : n ≤ most = leb-true n most h in low_from w most n (to_be_bytes w n ++ rest) rest (le-ltb most n le) (number_again w (2 ^ bits w) wide n rest (omega (arith, le, lt))))
    (low_first w most)

pub low16_is : (most : ℕ) → most < 2 ^ 16 → IsShape (low w16 most)
low16_is most lt = low_is w16 wide16 most lt

pub low32_is : (most : ℕ) → most < 2 ^ 32 → IsShape (low w32 most)
low32_is most lt = low_is w32 wide32 most lt

dropped_takes : (w : Width) (wide : IsWide w (2 ^ bits w)) (n : ℕ) (bytes : List ℕ) (x : Unit {0}) (rest : List ℕ) → IsBytes bytes → dropped_at w bytes ≡ Ok (x, rest) → (text : List ℕ) × (dropped w n).Spells x text × Takes bytes text rest
unfolding number_bytes
dropped_takes w wide n bytes x rest fits e =
    let a = bind_ok (number_at w bytes) (λ m. Ok (tt, m.1)) (x, rest) e in
    let t = number_takes w (2 ^ bits w) wide bytes a.0.0 a.0.1 fits a.1 in
    let same : a.0.1 ≡ rest = ap (λ (y : Unit {0} × List ℕ). y.1) (ok_is (tt, a.0.1) (x, rest) a.2) in
    (to_be_bytes w a.0.0, (a.0.0, lt-ltb _ _ t.1, refl), subst (λ (r : List ℕ). Takes bytes (to_be_bytes w a.0.0) r) same t.0)

dropped_again : (w : Width) (wide : IsWide w (2 ^ bits w)) → Again (dropped_at w) (IsDropped w)
unfolding number_bytes
dropped_again w wide x text rest h = ap (λ (t : List ℕ). dropped_at w (t ++ rest)) h.2 ∙ ap (λ r. r >>= λ m. Ok (tt, m.1)) (number_again w (2 ^ bits w) wide h.0 rest (ltb-true _ _ h.1))

dropped_first : (w : Width) → AtFirst (dropped_at w)
dropped_first w bytes left e = fault_then (number_at w bytes) (λ m. Ok (tt, m.1)) left (length bytes) (number_first w bytes) (λ x m h. absurd (no_value (tt, x.1) m h)) e

dropped_is : (w : Width) (wide : IsWide w (2 ^ bits w)) (n : ℕ) → IsShape (dropped w n)
unfolding number_bytes
dropped_is w wide n = record {
  takes = dropped_takes w wide n;
  again = dropped_again w wide;
  written = λ x h small. (n, h, refl);
  broken = λ bytes left fits e. none_begins (dropped_at w) (IsDropped w) (dropped_again w wide) (dropped_first w) bytes left e;
  breaks = λ bytes left fits h. begins_fault (dropped_at w) (IsDropped w) (dropped_takes w wide n) (dropped_first w) bytes left fits h (dropped_at w bytes) refl;
}

pub dropped16_is : (n : ℕ) → IsShape (dropped w16 n)
dropped16_is n = dropped_is w16 wide16 n

pub dropped32_is : (n : ℕ) → IsShape (dropped w32 n)
dropped32_is n = dropped_is w32 wide32 n

fixed_takes : (w : Width) (wide : IsWide w (2 ^ bits w)) (n : ℕ) → ltb n (2 ^ bits w) ≡ true → (bytes : List ℕ) (x : Unit {0}) (rest : List ℕ) → IsBytes bytes → fixed_at w n bytes ≡ Ok (x, rest) → Takes bytes (to_be_bytes w n) rest × (ltb n (2 ^ bits w) ≡ true)
fixed_takes w wide n lt bytes x rest fits e =
    let a = bind_ok (number_at w bytes) (λ m. cond (m.0 == n) (Ok (tt, m.1)) (Err (length bytes))) (x, rest) e in
    let g = guarded_ok (a.0.0 == n) (length bytes) (tt, a.0.1) (x, rest) a.2 in
    let t = number_takes w (2 ^ bits w) wide bytes a.0.0 a.0.1 fits a.1 in
    let same : a.0.1 ≡ rest = ap (λ (y : Unit {0} × List ℕ). y.1) g.1 in
    (subst (λ (r : List ℕ). Takes bytes (to_be_bytes w n) r) same (subst (λ (k : ℕ). Takes bytes (to_be_bytes w k) a.0.1) (eqb-true a.0.0 n g.0) t.0), lt)

same_number : (n : ℕ) → (n == n) ≡ true
same_number n = eq-eqb n n refl

fixed_from : (w : Width) (n : ℕ) (bytes rest : List ℕ) → number_at w bytes ≡ Ok (n, rest) → fixed_at w n bytes ≡ Ok (tt, rest)
fixed_from w n bytes rest h = ap (λ r. r >>= λ m. cond (m.0 == n) (Ok (tt, m.1)) (Err (length bytes))) h ∙ rw (same_number n) refl

guarded_at : {X : Type 0} (b : Bool) (x : X) (n m : ℕ) → cond b (Ok x) (Err n) ≡ Err m → m ≡ n
guarded_at true x n m e = absurd cc
guarded_at false x n m e = cc

pub fixed_is : (w : Width) (wide : IsWide w (2 ^ bits w)) (n : ℕ) → ltb n (2 ^ bits w) ≡ true → IsShape (fixed w n)
unfolding number_bytes
fixed_is w wide n lt = exact_is (fixed_at w n) (λ x. number_bytes w n) (λ x. ltb n (2 ^ bits w)) (fixed_takes w wide n lt)
    (λ x rest h. fixed_from w n (to_be_bytes w n ++ rest) rest (number_again w (2 ^ bits w) wide n rest (ltb-true _ _ lt)))
    (λ bytes left e. fault_then (number_at w bytes) (λ m. cond (m.0 == n) (Ok (tt, m.1)) (Err (length bytes))) left (length bytes) (number_first w bytes) (λ x m h. guarded_at (x.0 == n) (tt, x.1) (length bytes) m h) e)

pub fixed32_is : (n : ℕ) → ltb n (2 ^ 32) ≡ true → IsShape (fixed w32 n)
fixed32_is n lt = fixed_is w32 wide32 n lt

-- the table of a choice, both ways
pub record IsChoice {X : Type 0} (value : ℕ → Option X) (byte : X → ℕ) : Type 0 where
  pub back : (x : X) → value (byte x) ≡ Some x
  pub only : (b : ℕ) (x : X) → value b ≡ Some x → b ≡ byte x

told_ok : {X : Type 0} (bytes rest : List ℕ) (o : Option X) (x : X) (after : List ℕ) → told_by bytes rest o ≡ Ok (x, after) → (o ≡ Some x) × (rest ≡ after)
told_ok bytes rest None x after e = absurd cc
told_ok {X = X} bytes rest (Some y) x after e =
    let same : ◌≡◌ {A = X × List ℕ} (y, rest) (x, after) = ok_is (y, rest) (x, after) e in
    let some : X → Option X = λ z. Some z in
    (ap (λ (z : X × List ℕ). some z.0) same, ap (λ (z : X × List ℕ). z.1) same)

told_first : {X : Type 0} (bytes rest : List ℕ) (o : Option X) (left : ℕ) → told_by bytes rest o ≡ Err left → left ≡ length bytes
told_first bytes rest None left e = cc
told_first bytes rest (Some x) left e = absurd cc

choice_takes : {X : Type 0} (value : ℕ → Option X) (byte : X → ℕ) → IsChoice value byte → (bytes : List ℕ) (x : X) (rest : List ℕ) → IsBytes bytes → choice_at value bytes ≡ Ok (x, rest) → Takes bytes (byte x ∷ []) rest × (true ≡ true)
choice_takes value byte is bytes x rest fits e =
    let a = bind_ok (byte_at bytes) (λ b. told_by bytes b.1 (value b.0)) (x, rest) e in
    let t = told_ok bytes a.0.1 (value a.0.0) x rest a.2 in
    (subst (λ (r : List ℕ). Takes bytes (byte x ∷ []) r) t.1 (subst (λ (k : ℕ). Takes bytes (k ∷ []) a.0.1) (is.only a.0.0 x t.0) (byte_takes bytes a.0.0 a.0.1 fits a.1)), refl)

pub choice_is : {X : Type 0} (value : ℕ → Option X) (byte : X → ℕ) → IsChoice value byte → IsShape (choice value byte)
unfolding one_byte
choice_is value byte is = exact_is (choice_at value) (λ x. one_byte (byte x)) (λ x. true) (choice_takes value byte is)
    (λ x rest h. ap (told_by (byte x ∷ rest) rest) (is.back x))
    (λ bytes left e. fault_then (byte_at bytes) (λ b. told_by bytes b.1 (value b.0)) left (length bytes) (byte_first bytes) (λ x m h. told_first bytes x.1 (value x.0) m h) e)

mark_takes : (bytes : List ℕ) (byte : ℕ) (rest : List ℕ) → IsBytes bytes → mark_at bytes ≡ Ok (byte, rest) → Takes bytes (byte ∷ []) rest × (not (byte == 0) ≡ true)
mark_takes bytes byte rest fits e =
    let a = bind_ok (byte_at bytes) (λ b. cond (b.0 == 0) (Err (length bytes)) (Ok b)) (byte, rest) e in
    let g = guard_ok (a.0.0 == 0) (length bytes) a.0 (byte, rest) a.2 in
    let t = byte_takes bytes a.0.0 a.0.1 fits a.1 in
    subst (λ (x : ℕ × List ℕ). Takes bytes (x.0 ∷ []) x.1 × (not (x.0 == 0) ≡ true)) g.1 (t, ap not g.0)

mark_again : (byte : ℕ) (rest : List ℕ) → not (byte == 0) ≡ true → mark_at (byte ∷ rest) ≡ Ok (byte, rest)
mark_again zero rest h = absurd cc
mark_again (suc b) rest h = let other : (suc b == 0) ≡ false = ne_eqb (suc b) 0 (λ e. absurd (omega arith)) in rw other refl

pub mark_is : IsShape mark
unfolding one_byte
mark_is = exact_is mark_at one_byte (λ byte. not (byte == 0)) mark_takes mark_again
    (λ bytes left e. fault_then (byte_at bytes) (λ b. cond (b.0 == 0) (Err (length bytes)) (Ok b)) left (length bytes) (byte_first bytes) (λ x m h. guard_at (x.0 == 0) x (length bytes) m h) e)

pub nothing_is : IsShape nothing
nothing_is = exact_is nothing_at (λ x. []) (λ x. true)
    (λ bytes x rest fits e. (subst (λ (r : List ℕ). Takes bytes [] r) (ap (λ (y : Unit {0} × List ℕ). y.1) (ok_is (tt, bytes) (x, rest) e)) (record { parts = refl; rest_fits = fits }), refl))
    (λ x rest h. refl)
    (λ bytes left e. absurd (no_value (tt, bytes) left e))

-- ---- sized bytes

or_right : (b : Bool) → (b || true) ≡ true
or_right true = refl
or_right false = refl

size_low : (n : ℕ) → n ≤ size_limit → is_size n ≡ true
size_low n le = (let small : nat_le n size_limit ≡ true = le-leb n size_limit le in rw small (or_right (n == minus_one)))

size_small : (n : ℕ) → is_size n ≡ true → (n ≡ minus_one) ⊎ (n ≤ size_limit)
size_small n h =
    elim (cases_Bool (n == minus_one)) [
      | inl null ↦ inl (eqb-true n minus_one null)
      | inr other ↦ inr (leb-true n size_limit (rw other at h))
    ]

size_fits : (n : ℕ) → is_size n ≡ true → n < 2 ^ 32
size_fits n h =
    elim (size_small n h) [
      | inl null ↦ omega (arith, null)
      | inr low ↦ omega (arith, low)
    ]

size_takes : (bytes : List ℕ) (n : ℕ) (rest : List ℕ) → IsBytes bytes → size_at bytes ≡ Ok (n, rest) → Takes bytes (to_be_bytes w32 n) rest × (is_size n ≡ true)
size_takes bytes n rest fits e =
    let a = bind_ok (number_at w32 bytes) (λ m. cond (is_size m.0) (Ok m) (Err (length bytes))) (n, rest) e in
    let g = guarded_ok (is_size a.0.0) (length bytes) a.0 (n, rest) a.2 in
    let t = number_takes w32 (2 ^ 32) wide32 bytes a.0.0 a.0.1 fits a.1 in
    subst (λ (x : ℕ × List ℕ). Takes bytes (to_be_bytes w32 x.0) x.1 × (is_size x.0 ≡ true)) g.1 (t.0, g.0)

size_from : (n : ℕ) (bytes rest : List ℕ) → is_size n ≡ true → number_at w32 bytes ≡ Ok (n, rest) → size_at bytes ≡ Ok (n, rest)
size_from n bytes rest is h = ap (λ r. r >>= λ m. cond (is_size m.0) (Ok m) (Err (length bytes))) h ∙ rw is refl

size_again : (n : ℕ) (rest : List ℕ) → is_size n ≡ true → size_at (to_be_bytes w32 n ++ rest) ≡ Ok (n, rest)
size_again n rest is = size_from n (to_be_bytes w32 n ++ rest) rest is (number_again w32 (2 ^ 32) wide32 n rest (size_fits n is))

size_is : IsShape size
unfolding number_bytes
size_is = exact_is size_at (number_bytes w32) is_size size_takes size_again
    (λ bytes left e. fault_then (number_at w32 bytes) (λ m. cond (is_size m.0) (Ok m) (Err (length bytes))) left (length bytes) (number_first w32 bytes) (λ x m h. guarded_at (is_size x.0) x (length bytes) m h) e)

again_null : (rest : List ℕ) → sized_at (to_be_bytes w32 minus_one ++ rest) ≡ Ok (None, rest)
unfolding sized_at
again_null rest = ap (λ r. r >>= λ n. bytes_as n.0 n.1) (size_again minus_one rest refl)

again_some : (bytes rest : List ℕ) → length bytes ≤ size_limit → sized_at ((to_be_bytes w32 (length bytes) ++ bytes) ++ rest) ≡ Ok (Some bytes, rest)
unfolding sized_at
again_some bytes rest le =
    let n = length bytes in
    let text = to_be_bytes w32 n in
    let regrouped : (text ++ bytes) ++ rest ≡ text ++ (bytes ++ rest) = append_assoc text bytes rest in
    let other : (n == minus_one) ≡ false = ne_eqb n minus_one (λ e. absurd (omega (arith, e))) in
    let there : ltb (length (bytes ++ rest)) n ≡ false = le-ltb _ _ (omega (arith, length-append bytes rest)) in
    ap sized_at regrouped ∙ ap (λ r. r >>= λ n. bytes_as n.0 n.1) (size_again n (bytes ++ rest) (size_low n le))
    ∙ rw (other, there, take_at bytes rest n refl, drop_at bytes rest n refl) refl

sized_again : (x : Option (List ℕ)) (text rest : List ℕ) → IsSizedText x text → sized_at (text ++ rest) ≡ Ok (x, rest)
unfolding sized_bytes
sized_again None text rest h = ap (λ (t : List ℕ). sized_at (t ++ rest)) h ∙ again_null rest
sized_again (Some bytes) text rest h = ap (λ (t : List ℕ). sized_at (t ++ rest)) h.1 ∙ again_some bytes rest h.0

bytes_take : (bytes : List ℕ) (n : ℕ) (after : List ℕ) (x : Option (List ℕ)) (rest : List ℕ) → Takes bytes (to_be_bytes w32 n) after → is_size n ≡ true → bytes_as n after ≡ Ok (x, rest) → (text : List ℕ) × IsSizedText x text × Takes bytes text rest
unfolding sized_bytes
bytes_take bytes n after x rest t is e =
    elim (cases_Bool (n == minus_one)) [
      | inl null ↦
          let same = ok_is (None, after) (x, rest) (rw null at e) in
          let all : (text : List ℕ) × IsSizedText None text × Takes bytes text after = (to_be_bytes w32 minus_one, refl, subst (λ (k : ℕ). Takes bytes (to_be_bytes w32 k) after) (eqb-true n minus_one null) t) in
          subst (λ (y : Option (List ℕ) × List ℕ). (text : List ℕ) × IsSizedText y.0 text × Takes bytes text y.1) same all
      | inr other ↦ elim (cases_Bool (ltb (length after) n)) [
        | inl missing ↦ (let no : fault (length after) ≡ Ok (x, rest) = rw (other, missing) at e in absurd cc)
        | inr there ↦
            let same = ok_is (Some (take n after), drop n after) (x, rest) (rw (other, there) at e) in
            let low : n ≤ size_limit = leb-true n size_limit (rw other at is) in
            let len : length (take n after) ≡ n = omega (arith, length-take n after, ltb-false (length after) n there) in
            let le : length (take n after) ≤ size_limit = omega (arith, len, low) in
            let one : Takes bytes (to_be_bytes w32 (length (take n after))) after = subst (λ (k : ℕ). Takes bytes (to_be_bytes w32 k) after) (sym len) t in
            let two : Takes after (take n after) (drop n after) = record { parts = sym (take-append-drop n after); rest_fits = IsBytes-drop n after t.rest_fits } in
            let all : (text : List ℕ) × IsSizedText (Some (take n after)) text × Takes bytes text (drop n after) = (to_be_bytes w32 (length (take n after)) ++ take n after, (le, refl), Takes-then bytes (to_be_bytes w32 (length (take n after))) after (take n after) (drop n after) one two) in
            subst (λ (y : Option (List ℕ) × List ℕ). (text : List ℕ) × IsSizedText y.0 text × Takes bytes text y.1) same all
      ]
    ]

sized_takes : (bytes : List ℕ) (x : Option (List ℕ)) (rest : List ℕ) → IsBytes bytes → sized_at bytes ≡ Ok (x, rest) → (text : List ℕ) × IsSizedText x text × Takes bytes text rest
unfolding sized_at
sized_takes bytes x rest fits e =
    let a = bind_ok (size_at bytes) (λ n. bytes_as n.0 n.1) (x, rest) e in
    let t = size_takes bytes a.0.0 a.0.1 fits a.1 in
    bytes_take bytes a.0.0 a.0.1 x rest t.0 t.1 a.2

sized_written : (x : Option (List ℕ)) → true ≡ true → length (sized_bytes x) ≤ size_limit → IsSizedText x (sized_bytes x)
unfolding sized_bytes
sized_written None h small = refl
sized_written (Some bytes) h small = (omega (arith, small, length-append (to_be_bytes w32 (length bytes)) bytes), refl)

-- ---- where sized bytes break

bytes_fault : (n : ℕ) (after : List ℕ) (left : ℕ) → is_size n ≡ true → bytes_as n after ≡ Err left → (n ≤ size_limit) × (length after < n) × (left ≡ length after)
bytes_fault n after left is e =
    elim (cases_Bool (n == minus_one)) [
      | inl null ↦ (let no : done (None, after) ≡ Err left = rw null at e in absurd cc)
      | inr other ↦ elim (cases_Bool (ltb (length after) n)) [
        | inl missing ↦ (let same : fault (length after) ≡ Err left = rw (other, missing) at e in (leb-true n size_limit (rw other at is), ltb-true (length after) n missing, sym (fault_is (length after) left same)))
        | inr there ↦ (let no : done (Some (take n after), drop n after) ≡ Err left = rw (other, there) at e in absurd cc)
      ]
    ]

other_fault : {X Y : Type 0} (m n : ℕ) → fault {X = X} m ≡ fault {X = X} n → fault {X = Y} m ≡ fault {X = Y} n
other_fault m n e = cc

sized_found : (bytes : List ℕ) (left : ℕ) → IsBytes bytes → (found : Result (ℕ × List ℕ) ℕ) → size_at bytes ≡ found → (found >>= λ n. bytes_as n.0 n.1) ≡ Err left → BreaksSized bytes left
unfolding number_bytes
sized_found bytes left fits (Err m) is e = inl (size_is.broken bytes left fits (is ∙ other_fault m left e))
sized_found bytes left fits (Ok n) is e =
    let t = size_takes bytes n.0 n.1 fits is in
    let f = bytes_fault n.0 n.1 left t.1 e in
    inr (n.0, n.1, t.0.parts, f.0, f.1, f.2)

sized_broken : (bytes : List ℕ) (left : ℕ) → IsBytes bytes → sized_at bytes ≡ Err left → BreaksSized bytes left
unfolding sized_at
sized_broken bytes left fits e = sized_found bytes left fits (size_at bytes) refl e

sized_breaks : (bytes : List ℕ) (left : ℕ) → IsBytes bytes → BreaksSized bytes left → sized_at bytes ≡ Err left
unfolding sized_at number_bytes
sized_breaks bytes left fits (inl none) = ap (λ r. r >>= λ n. bytes_as n.0 n.1) (size_is.breaks bytes left fits none)
sized_breaks bytes left fits (inr (n, rest, is, low, lt, same)) =
    let other : (n == minus_one) ≡ false = ne_eqb n minus_one (λ e. absurd (omega (arith, e, low))) in
    let missing : ltb (length rest) n ≡ true = lt-ltb (length rest) n lt in
    ap (λ r. r >>= λ m. bytes_as m.0 m.1) (ap size_at is ∙ size_again n rest (size_low n low)) ∙ rw (other, missing) (ap fault (sym same))

pub sized_is : IsShape sized
sized_is = record { takes = sized_takes; again = sized_again; written = sized_written; broken = sized_broken; breaks = sized_breaks }

-- ---- numbers made of others

pub via_ok : {X Y : Type 0} (made : X → Y) (read : List ℕ → Result (X × List ℕ) ℕ) (bytes rest : List ℕ) (x : X) (y : Y) → read bytes ≡ Ok (x, rest) → made x ≡ y → made_at made read bytes ≡ Ok (y, rest)
via_ok made read bytes rest x y p q = rw (p, q) refl

-- ---- signed numbers

signed_takes : (w : Width) (wide : IsWide w (2 ^ bits w)) (bytes : List ℕ) (z : ℤ) (rest : List ℕ) → IsBytes bytes → made_at (cast_signed w) (number_at w) bytes ≡ Ok (z, rest) → (text : List ℕ) × (signed w).Spells z text × Takes bytes text rest
unfolding number_bytes
signed_takes w wide bytes z rest fits e =
    let a = bind_ok (number_at w bytes) (λ n. Ok (cast_signed w n.0, n.1)) (z, rest) e in
    let t = number_takes w (2 ^ bits w) wide bytes a.0.0 a.0.1 fits a.1 in
    let same : ◌≡◌ {A = ℤ × List ℕ} (cast_signed w a.0.0, a.0.1) (z, rest) = ok_is (cast_signed w a.0.0, a.0.1) (z, rest) a.2 in
    (to_be_bytes w a.0.0, (a.0.0, lt-ltb _ _ t.1, ap (λ (y : ℤ × List ℕ). y.0) same, refl), subst (λ (r : List ℕ). Takes bytes (to_be_bytes w a.0.0) r) (ap (λ (y : ℤ × List ℕ). y.1) same) t.0)

signed_again : (w : Width) (wide : IsWide w (2 ^ bits w)) → Again (made_at (cast_signed w) (number_at w)) (IsSigned w)
unfolding number_bytes
signed_again w wide z text rest h = ap (λ (t : List ℕ). made_at (cast_signed w) (number_at w) (t ++ rest)) h.3 ∙ via_ok (cast_signed w) (number_at w) (to_be_bytes w h.0 ++ rest) rest h.0 z (number_again w (2 ^ bits w) wide h.0 rest (ltb-true _ _ h.1)) h.2

signed_first : (w : Width) → AtFirst (made_at (cast_signed w) (number_at w))
signed_first w bytes left e = fault_then (number_at w bytes) (λ n. Ok (cast_signed w n.0, n.1)) left (length bytes) (number_first w bytes) (λ x m h. absurd (no_value (cast_signed w x.0, x.1) m h)) e

pub signed_is : (w : Width) (wide : IsWide w (2 ^ bits w)) → ((z : ℤ) → fits_signed w z ≡ true → (ltb (cast_unsigned w z) (2 ^ bits w) ≡ true) × (cast_signed w (cast_unsigned w z) ≡ z)) → IsShape (signed w)
unfolding number_bytes
signed_is w wide back = record {
  takes = signed_takes w wide;
  again = signed_again w wide;
  written = λ z h small. (cast_unsigned w z, (back z h).0, (back z h).1, refl);
  broken = λ bytes left fits e. none_begins (made_at (cast_signed w) (number_at w)) (IsSigned w) (signed_again w wide) (signed_first w) bytes left e;
  breaks = λ bytes left fits h. begins_fault (made_at (cast_signed w) (number_at w)) (IsSigned w) (signed_takes w wide) (signed_first w) bytes left fits h (made_at (cast_signed w) (number_at w) bytes) refl;
}

signed32_back : (z : ℤ) → fits_signed w32 z ≡ true → (ltb (cast_unsigned w32 z) (2 ^ 32) ≡ true) × (cast_signed w32 (cast_unsigned w32 z) ≡ z)
signed32_back (pos n) h = (let lt = ltb-true n 2147483648 h in (lt-ltb _ _ (omega (arith, lt)), to_z-of_z w32 (pos n) (record { sfits = lt })))
signed32_back (negsuc n) h = (let lt = ltb-true n 2147483648 h in (lt-ltb _ _ (omega (arith, lt)), to_z-of_z w32 (negsuc n) (record { sfits = lt })))

signed16_back : (z : ℤ) → fits_signed w16 z ≡ true → (ltb (cast_unsigned w16 z) (2 ^ 16) ≡ true) × (cast_signed w16 (cast_unsigned w16 z) ≡ z)
signed16_back (pos n) h = (let lt = ltb-true n 32768 h in (lt-ltb _ _ (omega (arith, lt)), to_z-of_z w16 (pos n) (record { sfits = lt })))
signed16_back (negsuc n) h = (let lt = ltb-true n 32768 h in (lt-ltb _ _ (omega (arith, lt)), to_z-of_z w16 (negsuc n) (record { sfits = lt })))

pub signed32_is : IsShape (signed w32)
signed32_is = signed_is w32 wide32 signed32_back

pub signed16_is : IsShape (signed w16)
signed16_is = signed_is w16 wide16 signed16_back
