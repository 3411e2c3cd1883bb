-- Fields as they are read from the front of a list of bytes. Reading one gives its value and the bytes behind it, or
-- else how many bytes are left from the bad field on.
use Rattle.std.specs.Prelude.{◌≡◌, ℕ, zero, suc, ◌==◌, Bool, true, false, List, [], ◌∷◌, length, take, drop, Option, Some, None, Result, Ok, Err, nat_lt, if◌then◌else◌}
use Rattle.std.specs.Int.{Width, byte_len, from_be_bytes}
use Rattle.std.specs.List.{position}
use Rattle.message_shapes.specs.declared.fields.Fault.{Fault}
use Rattle.message_shapes.specs.declared.fields.Fault.TheVariants as fault

-- what reads a value from the front of bytes
abbrev pub Reader : Type 0 → Type 0
Reader X = List ℕ → Result (X × List ℕ) ℕ

infixl 10 ◌>>=◌
abbrev pub ◌>>=◌ : {A B : Type 0} → Result A ℕ → (A → Result B ℕ) → Result B ℕ
(Ok x) >>= f = f x
(Err left) >>= f = Err left

-- What a reader that takes no memory returned, seen by view, is what reading gives.
abbrev pub Reads : {X Y : Type 0} → (X → Y) → Result X ℕ → Result Y ℕ → Type 0
Reads view (Ok x) read = read ≡ Ok (view x)
Reads view (Err left) read = read ≡ Err left

-- What a reader returned, seen by view, is what reading gives, unless memory ran out.
abbrev pub Fails : {Y : Type 0} → Fault → Result Y ℕ → Type 0
Fails fault.Memory read = Unit {0}
Fails (fault.Before left) read = read ≡ Err left

abbrev pub ReadsAs : {X Y : Type 0} → (X → Y) → Result X Fault → Result Y ℕ → Type 0
ReadsAs view (Ok x) read = read ≡ Ok (view x)
ReadsAs view (Err e) read = Fails e read

-- the bytes behind what is read
abbrev pub behind : {X : Type 0} → Result (X × List ℕ) ℕ → Result (List ℕ) ℕ
behind (Ok x) = Ok x.1
behind (Err left) = Err left

-- What passes over the bytes of something and keeps none of it returned the bytes behind, seen by view.
abbrev pub Passes : {X Y : Type 0} → (X → List ℕ) → Result X ℕ → Result (Y × List ℕ) ℕ → Type 0
Passes view (Ok rest) read = behind read ≡ Ok (view rest)
Passes view (Err left) read = read ≡ Err left

-- Of what passes over the next of several values, or over their end: which of both, and the bytes behind.
abbrev pub next_of : {X : Type 0} → Option X × List ℕ → Bool × List ℕ
next_of (None, rest) = (true, rest)
next_of (Some x, rest) = (false, rest)

abbrev pub behind_next : {X : Type 0} → Result (Option X × List ℕ) ℕ → Result (Bool × List ℕ) ℕ
behind_next (Ok x) = Ok (next_of x)
behind_next (Err left) = Err left

abbrev pub PassesNext : {X Y : Type 0} → (X → Bool × List ℕ) → Result X ℕ → Result (Option Y × List ℕ) ℕ
    → Type 0
PassesNext view (Ok x) read = behind_next read ≡ Ok (view x)
PassesNext view (Err left) read = read ≡ Err left

abbrev pub is_zero : ℕ → Bool
is_zero byte = byte == 0

abbrev pub number_at : Width → List ℕ → Result (ℕ × List ℕ) ℕ
number_at w bytes =
    if nat_lt (length bytes) (byte_len w) then Err (length bytes)
    else Ok (from_be_bytes w (take (byte_len w) bytes), drop (byte_len w) bytes)

abbrev pub byte_at : List ℕ → Result (ℕ × List ℕ) ℕ
byte_at [] = Err 0
byte_at (byte ∷ rest) = Ok (byte, rest)

abbrev pub cut_at : List ℕ → Option ℕ → Result (List ℕ × List ℕ) ℕ
cut_at bytes None = Err (length bytes)
cut_at bytes (Some place) = Ok (take place bytes, drop 1 (drop place bytes))

-- the bytes before the first zero byte
unfoldable pub string_at : List ℕ → Result (List ℕ × List ℕ) ℕ
string_at bytes = cut_at bytes (position is_zero bytes)

-- n values, one behind the other
unfoldable pub times : {X : Type 0} → Reader X → ℕ → Reader (List X)
times read zero bytes = Ok ([], bytes)
times read (suc n) bytes = do
  first ← read bytes
  others ← times read n first.1
  Ok (first.0 ∷ others.0, others.1)

abbrev pub continued : {X : Type 0} → Reader (List X) → Option X × List ℕ → Result (List X × List ℕ) ℕ
continued others (None, rest) = Ok ([], rest)
continued others (Some first, rest) = others rest >>= λ x. Ok (first ∷ x.0, x.1)

-- Values one behind the other, up to the place at which the reader finds their end. Each takes a byte at least, so
-- as many turns as there are bytes are enough.
unfoldable pub until_end : {X : Type 0} → Reader (Option X) → ℕ → Reader (List X)
until_end next zero bytes = Err (length bytes)
until_end next (suc turns) bytes = next bytes >>= continued (until_end next turns)

-- what is read is all of the body
abbrev pub ended : {X : Type 0} → X × List ℕ → Result X ℕ
ended x = if length x.1 == 0 then Ok x.0 else Err (length x.1)
