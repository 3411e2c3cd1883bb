-- Shapes of fields. Each says how a value is read, how it is written, which values can be written, which texts stand for
-- a value, and at which field bytes break the shape.
use Rattle.std.specs.Prelude.{◌≡◌, ℕ, ℤ, pos, negsuc, ◌^◌, ◌<◌, ◌≤◌, ◌==◌, Bool, true, false, not, ◌&&◌, ◌||◌, ◌⊎◌, List, [], ◌∷◌, ◌++◌, length, take, drop, Option, Some, None, Result, Ok, Err, nat_le, nat_lt, if◌then◌else◌}
use Rattle.std.specs.Int.{Width, w16, w32, to_be_bytes, cast_signed, cast_unsigned}
use mir.Val.{bits, hbits}
use Rattle.std.specs.List.{flat_map, list_all}
use Rattle.message_shapes.specs.Fields.{◌>>=◌, Reader, number_at, byte_at, string_at, times, until_end}
use Rattle.message_shapes.specs.Spelling.{AreSpelled, is_string}

pub record Shape (X : Type 0) : Type 1 where
  -- the value at the front of bytes and the bytes behind it, or else how many bytes are left from the bad field on
  pub read : Reader X
  -- what is written for a value
  pub write : X → List ℕ
  -- a value can be written
  pub good : X → Bool
  -- a text stands for a value
  pub Spells : X → List ℕ → Type 0
  -- the bytes begin with no value: the first bad field begins where so many bytes are left
  pub Breaks : List ℕ → ℕ → Type 0

-- A single field is bad at its first byte where none of its texts begins the bytes.
abbrev pub BeginsNone : {X : Type 0} → (X → List ℕ → Type 0) → List ℕ → ℕ → Type 0
BeginsNone {X = X} Spells bytes left =
    (left ≡ length bytes)
    × ((x : X) (text rest : List ℕ) → Spells x text → bytes ≡ text ++ rest → ⊥)

-- the number -1 as four bytes, and the greatest size of sized bytes
abbrev pub minus_one : ℕ
minus_one = 4294967295

abbrev pub size_limit : ℕ
size_limit = 2147483647

abbrev pub count_limit : ℕ
count_limit = 65535

-- a value stands in one text alone, the one that is written for it
abbrev pub IsWritten : {X : Type 0} → (X → List ℕ) → (X → Bool) → X → List ℕ → Type 0
IsWritten write good x text = (good x ≡ true) × (text ≡ write x)

abbrev pub exact : {X : Type 0} → Reader X → (X → List ℕ) → (X → Bool) → Shape X
exact read write good = record {
  read = read;
  write = write;
  good = good;
  Spells = IsWritten write good;
  Breaks = BeginsNone (IsWritten write good);
}

-- ---- single fields

-- What is written is opaque outside of the laws: the bytes of a message are then parts joined by `++`.
unfoldable pub string_bytes : List ℕ → List ℕ
string_bytes s = s ++ 0 ∷ []

unfoldable pub number_bytes : Width → ℕ → List ℕ
number_bytes w n = to_be_bytes w n

unfoldable pub one_byte : ℕ → List ℕ
one_byte byte = byte ∷ []

-- bytes without a zero byte, and then one
abbrev pub string : Shape (List ℕ)
string = exact string_at string_bytes is_string

-- a number of this width
abbrev pub number : Width → Shape ℕ
number w = exact (number_at w) (number_bytes w) (λ n. nat_lt n (2 ^ bits w))

-- a number that is at most so great
abbrev pub low_at : Width → ℕ → List ℕ → Result (ℕ × List ℕ) ℕ
low_at w most bytes =
    number_at w bytes >>= λ n. if nat_lt most n.0 then Err (length bytes) else Ok n

abbrev pub low : Width → ℕ → Shape ℕ
low w most = exact (low_at w most) (number_bytes w) (λ n. nat_le n most)

-- any number, which is dropped, and for which this one is written
abbrev pub dropped_at : Width → List ℕ → Result (Unit {0} × List ℕ) ℕ
dropped_at w bytes = number_at w bytes >>= λ n. Ok (tt, n.1)

abbrev pub IsDropped : Width → Unit {0} → List ℕ → Type 0
IsDropped w x text = (m : ℕ) × (nat_lt m (2 ^ bits w) ≡ true) × (text ≡ number_bytes w m)

abbrev pub dropped : Width → ℕ → Shape (Unit {0})
dropped w n = record {
  read = dropped_at w;
  write = λ x. number_bytes w n;
  good = λ x. nat_lt n (2 ^ bits w);
  Spells = IsDropped w;
  Breaks = BeginsNone (IsDropped w);
}

-- this number and no other
abbrev pub fixed_at : Width → ℕ → List ℕ → Result (Unit {0} × List ℕ) ℕ
fixed_at w n bytes =
    number_at w bytes >>= λ m. if m.0 == n then Ok (tt, m.1) else Err (length bytes)

abbrev pub fixed : Width → ℕ → Shape (Unit {0})
fixed w n = exact (fixed_at w n) (λ x. number_bytes w n) (λ x. nat_lt n (2 ^ bits w))

-- a byte that stands for one of few values
abbrev pub told_by : {X : Type 0} → List ℕ → List ℕ → Option X → Result (X × List ℕ) ℕ
told_by bytes rest None = Err (length bytes)
told_by bytes rest (Some x) = Ok (x, rest)

abbrev pub choice_at : {X : Type 0} → (ℕ → Option X) → Reader X
choice_at value bytes = byte_at bytes >>= λ byte. told_by bytes byte.1 (value byte.0)

abbrev pub choice : {X : Type 0} → (ℕ → Option X) → (X → ℕ) → Shape X
choice value byte = exact (choice_at value) (λ x. one_byte (byte x)) (λ x. true)

-- The size of bytes, or the size -1 where there are none. The size is a signed number, and those below -1 are none.
abbrev pub is_size : ℕ → Bool
is_size n = n == minus_one || nat_le n size_limit

abbrev pub size_at : List ℕ → Result (ℕ × List ℕ) ℕ
size_at bytes = number_at w32 bytes >>= λ n. if is_size n.0 then Ok n else Err (length bytes)

abbrev pub size : Shape ℕ
size = exact size_at (number_bytes w32) is_size

-- the bytes behind their size
abbrev pub bytes_as : ℕ → List ℕ → Result (Option (List ℕ) × List ℕ) ℕ
bytes_as n rest =
    if n == minus_one then Ok (None, rest)
    else if nat_lt (length rest) n then Err (length rest)
    else Ok (Some (take n rest), drop n rest)

unfoldable pub sized_at : List ℕ → Result (Option (List ℕ) × List ℕ) ℕ
sized_at bytes = size_at bytes >>= λ n. bytes_as n.0 n.1

unfoldable pub sized_bytes : Option (List ℕ) → List ℕ
sized_bytes None = to_be_bytes w32 minus_one
sized_bytes (Some bytes) = to_be_bytes w32 (length bytes) ++ bytes

-- bytes of any number are good here: too many of them make the packet too long
abbrev pub IsSizedText : Option (List ℕ) → List ℕ → Type 0
IsSizedText None text = text ≡ sized_bytes None
IsSizedText (Some bytes) text = (length bytes ≤ size_limit) × (text ≡ sized_bytes (Some bytes))

-- The size is a field, and so are the bytes: where they aren't all there, the place is behind the size.
abbrev pub BreaksSized : List ℕ → ℕ → Type 0
BreaksSized bytes left =
    size.Breaks bytes left
    ⊎ (n : ℕ) × (rest : List ℕ) × (bytes ≡ number_bytes w32 n ++ rest) × (n ≤ size_limit)
    × (length rest < n) × (left ≡ length rest)

abbrev pub sized : Shape (Option (List ℕ))
sized = record {
  read = sized_at;
  write = sized_bytes;
  good = λ x. true;
  Spells = IsSizedText;
  Breaks = BreaksSized;
}

-- nothing
abbrev pub nothing_at : List ℕ → Result (Unit {0} × List ℕ) ℕ
nothing_at bytes = Ok (tt, bytes)

abbrev pub nothing : Shape (Unit {0})
nothing = exact nothing_at (λ x. []) (λ x. true)

-- any bytes up to the end, of which none are written
abbrev pub unread_at : List ℕ → Result (Unit {0} × List ℕ) ℕ
unread_at bytes = Ok (tt, [])

abbrev pub unread : Shape (Unit {0})
unread = record {
  read = unread_at;
  write = λ x. [];
  good = λ x. true;
  Spells = λ x text. Unit {0};
  Breaks = λ bytes left. ⊥;
}

-- ---- shapes made of shapes

-- one behind the other
abbrev pub both_at : {X Y : Type 0} → Reader X → Reader Y → Reader (X × Y)
both_at first second bytes = do
  x ← first bytes
  y ← second x.1
  Ok ((x.0, y.0), y.1)

abbrev pub BreaksBoth : {X Y : Type 0} → Shape X → Shape Y → List ℕ → ℕ → Type 0
BreaksBoth {X = X} s t bytes left =
    s.Breaks bytes left
    ⊎ (x : X) × (text rest : List ℕ) × (bytes ≡ text ++ rest) × s.Spells x text × t.Breaks rest left

infixr 20 ◌&◌
abbrev pub ◌&◌ : {X Y : Type 0} → Shape X → Shape Y → Shape (X × Y)
s & t = record {
  read = both_at s.read t.read;
  write = λ x. s.write x.0 ++ t.write x.1;
  good = λ x. s.good x.0 && t.good x.1;
  Spells = λ x text. (a b : List ℕ) × (text ≡ a ++ b) × s.Spells x.0 a × t.Spells x.1 b;
  Breaks = BreaksBoth s t;
}

-- a number of values, and the values
abbrev pub counted_at : {X : Type 0} → Reader X → Reader (List X)
counted_at read bytes = number_at w16 bytes >>= λ n. times read n.0 n.1

unfoldable pub counted_bytes : {X : Type 0} → (X → List ℕ) → List X → List ℕ
counted_bytes write xs = to_be_bytes w16 (length xs) ++ flat_map write xs

-- some values are whole, fewer than n, and the next one isn't
abbrev pub BreaksItem : {X : Type 0} → Shape X → ℕ → List ℕ → ℕ → Type 0
BreaksItem {X = X} s n bytes left =
    (xs : List X) × (texts rest : List ℕ) × (bytes ≡ texts ++ rest) × AreSpelled s.Spells xs texts
    × (length xs < n) × s.Breaks rest left

abbrev pub BreaksCounted : {X : Type 0} → Shape X → List ℕ → ℕ → Type 0
BreaksCounted s bytes left =
    (number w16).Breaks bytes left
    ⊎ (n : ℕ) × (rest : List ℕ) × (bytes ≡ number_bytes w16 n ++ rest) × (n ≤ count_limit)
    × BreaksItem s n rest left

abbrev pub SpellsCounted : {X : Type 0} → Shape X → List X → List ℕ → Type 0
SpellsCounted s xs text =
    (texts : List ℕ) × (text ≡ to_be_bytes w16 (length xs) ++ texts) × (length xs ≤ count_limit)
    × AreSpelled s.Spells xs texts

abbrev pub counted : {X : Type 0} → Shape X → Shape (List X)
counted s = record {
  read = counted_at s.read;
  write = counted_bytes s.write;
  good = λ xs. nat_le (length xs) count_limit && list_all s.good xs;
  Spells = SpellsCounted s;
  Breaks = BreaksCounted s;
}

-- values, none of which begins with a zero byte, up to a zero byte
abbrev pub listed : {X : Type 0} → X × List ℕ → Result (Option X × List ℕ) ℕ
listed x = Ok (Some x.0, x.1)

unfoldable pub next_at : {X : Type 0} → Reader X → Reader (Option X)
next_at read [] = Err 0
next_at read (byte ∷ bytes) =
    if byte == 0 then Ok (None, bytes) else read (byte ∷ bytes) >>= listed

abbrev pub ended_at : {X : Type 0} → Reader X → Reader (List X)
ended_at read bytes = until_end (next_at read) (length bytes) bytes

unfoldable pub ended_bytes : {X : Type 0} → (X → List ℕ) → List X → List ℕ
ended_bytes write xs = flat_map write xs ++ 0 ∷ []

-- neither a zero byte comes next nor a value
abbrev pub BreaksNext : {X : Type 0} → Shape X → List ℕ → ℕ → Type 0
BreaksNext s [] left = left ≡ 0
BreaksNext s (byte ∷ bytes) left = ((byte == 0) ≡ false) × s.Breaks (byte ∷ bytes) left

abbrev pub BreaksEnded : {X : Type 0} → Shape X → List ℕ → ℕ → Type 0
BreaksEnded {X = X} s bytes left =
    (xs : List X) × (texts rest : List ℕ) × (bytes ≡ texts ++ rest) × AreSpelled s.Spells xs texts
    × BreaksNext s rest left

abbrev pub zero_ended : {X : Type 0} → Shape X → Shape (List X)
zero_ended s = record {
  read = ended_at s.read;
  write = ended_bytes s.write;
  good = list_all s.good;
  Spells = λ xs text. (texts : List ℕ) × (text ≡ texts ++ 0 ∷ []) × AreSpelled s.Spells xs texts;
  Breaks = BreaksEnded s;
}

-- a value that is made of another one
abbrev pub made_at : {X Y : Type 0} → (X → Y) → Reader X → Reader Y
made_at made read bytes = read bytes >>= λ x. Ok (made x.0, x.1)

abbrev pub via : {X Y : Type 0} → (X → Y) → (Y → X) → Shape X → Shape Y
via {X = X} made taken s = record {
  read = made_at made s.read;
  write = λ y. s.write (taken y);
  good = λ y. s.good (taken y);
  Spells = λ y text. (x : X) × (made x ≡ y) × s.Spells x text;
  Breaks = s.Breaks;
}

-- a byte other than zero
abbrev pub mark_at : List ℕ → Result (ℕ × List ℕ) ℕ
mark_at bytes = byte_at bytes >>= λ byte. if byte.0 == 0 then Err (length bytes) else Ok byte

abbrev pub mark : Shape ℕ
mark = exact mark_at one_byte (λ byte. not (byte == 0))

-- a signed number of this width
abbrev pub fits_signed : Width → ℤ → Bool
fits_signed w (pos n) = nat_lt n (2 ^ hbits w)
fits_signed w (negsuc n) = nat_lt n (2 ^ hbits w)

abbrev pub IsSigned : Width → ℤ → List ℕ → Type 0
IsSigned w z text =
    (n : ℕ) × (nat_lt n (2 ^ bits w) ≡ true) × (cast_signed w n ≡ z) × (text ≡ number_bytes w n)

abbrev pub signed : Width → Shape ℤ
signed w = record {
  read = made_at (cast_signed w) (number_at w);
  write = λ z. number_bytes w (cast_unsigned w z);
  good = fits_signed w;
  Spells = IsSigned w;
  Breaks = BeginsNone (IsSigned w);
}

-- a string that isn't empty
abbrev pub word_at : List ℕ → Result (List ℕ × List ℕ) ℕ
word_at bytes = string_at bytes >>= λ s. if length s.0 == 0 then Err (length bytes) else Ok s

abbrev pub word : Shape (List ℕ)
word = exact word_at string_bytes (λ s. not (length s == 0) && is_string s)

-- ---- makers of several parts

abbrev pub two : {A B T : Type 0} → (A → B → T) → A × B → T
two made x = made x.0 x.1

abbrev pub three : {A B C T : Type 0} → (A → B → C → T) → A × (B × C) → T
three made x = made x.0 x.1.0 x.1.1

abbrev pub five : {A B C D E T : Type 0} → (A → B → C → D → E → T) → A × (B × (C × (D × E))) → T
five made x = made x.0 x.1.0 x.1.1.0 x.1.1.1.0 x.1.1.1.1
