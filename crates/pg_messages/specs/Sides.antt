-- The messages of a side: of each its type byte and the shape of its body.
use Rattle.std.specs.Prelude.{◌≡◌, ℕ, ◌+◌, ◌-◌, ◌^◌, ◌<◌, ◌≤◌, ◌⊎◌, Bool, List, [], ◌∷◌, ◌++◌, length, Option, Some, None, Result}
use Rattle.std.specs.Int.{w32, to_be_bytes}
use Rattle.message_shapes.specs.Fields.{◌>>=◌, Reader, ended}
use Rattle.message_shapes.specs.Shapes.{Shape, made_at}
use Rattle.pg_messages.specs.Packet.{message_head, packet_of}
use Rattle.pg_messages.specs.Spelling.{message}
use Rattle.pg_messages.specs.declared.decoded.Decoded.{Decoded}
use Rattle.pg_messages.specs.declared.decoded.Why.{Why}
use Rattle.pg_messages.specs.declared.decoded.Why.TheVariants as why
use Rattle.pg_messages.specs.declared.packet.Head.{Head}
use Rattle.pg_messages.specs.declared.packet.Head.TheVariants as head

-- the bodies of a kind: how they are read, which bodies stand for a message, and at which field bytes are bad
pub record Form (T : Type 0) : Type 1 where
  pub read : Reader T
  pub Spells : T → List ℕ → Type 0
  pub Breaks : List ℕ → ℕ → Type 0

-- the message that is made of what is read
unfoldable pub formed_at : {X T : Type 0} → (X → T) → Reader X → Reader T
formed_at made read bytes = made_at made read bytes

-- bodies of this shape, and the message that its value makes
abbrev pub formed : {X T : Type 0} → Shape X → (X → T) → Form T
formed {X = X} shape made = record {
  read = formed_at made shape.read;
  Spells = λ m body. (x : X) × (made x ≡ m) × shape.Spells x body;
  Breaks = shape.Breaks;
}

-- what is written for a message
pub record Sent (K : Type 0) : Type 0 where
  pub kind : K
  pub good : Bool
  pub body : List ℕ

abbrev pub sent : {K X : Type 0} → K → Shape X → X → Sent K
sent kind shape x = record { kind = kind; good = shape.good x; body = shape.write x }

pub record Side (K T : Type 0) : Type 1 where
  -- the greatest length of a message
  pub most : ℕ
  -- the kind of message that a type byte announces, and the type byte that is written for a kind
  pub kind : ℕ → Option K
  pub byte : K → ℕ
  pub form : K → Form T
  pub sent : T → Sent K

unfoldable pub body_at : {K T : Type 0} → Side K T → K → List ℕ → Result T ℕ
body_at side k body = (side.form k).read body >>= ended

unfoldable pub head_at : {K T : Type 0} → Side K T → List ℕ → Head K
head_at side [] = head.More
head_at side (byte ∷ rest) = message_head side.most (side.kind byte) rest

unfoldable pub message_at : {K T : Type 0} → Side K T → List ℕ → Decoded T
message_at side bytes = packet_of (body_at side) 5 (head_at side bytes) bytes

-- the bytes are this message
pub record IsMessage {K T : Type 0} (side : Side K T) (m : T) (packet : List ℕ) : Type 0 where
  pub byte : ℕ
  pub kind : K
  pub told : side.kind byte ≡ Some kind
  pub body : List ℕ
  pub spelled : (side.form kind).Spells m body
  pub within : length body + 4 ≤ side.most
  pub bytes : packet ≡ message byte body

-- ---- bad bytes

-- A body is bad: a field is, or bytes are left behind the last one. So many bytes are left from there on.
abbrev pub BreaksBody : {T : Type 0} → Form T → List ℕ → ℕ → Type 0
BreaksBody {T = T} form body left =
    form.Breaks body left
    ⊎ (m : T) × (text rest : List ℕ) × (body ≡ text ++ rest) × form.Spells m text
    × (0 < length rest) × (left ≡ length rest)

-- the first byte is no message's type byte
pub record HasBadType {K T : Type 0} (side : Side K T) (bytes : List ℕ) (place : ℕ) : Type 0 where
  pub byte : ℕ
  pub rest : List ℕ
  pub bytes_are : bytes ≡ byte ∷ rest
  pub told : side.kind byte ≡ None
  pub place_is : place ≡ 0

-- no message has this length, which is told behind the type byte
pub record HasBadLength {K T : Type 0} (side : Side K T) (bytes : List ℕ) (place : ℕ) : Type 0 where
  pub byte : ℕ
  pub kind : K
  pub size : ℕ
  pub rest : List ℕ
  pub bytes_are : bytes ≡ byte ∷ (to_be_bytes w32 size ++ rest)
  pub told : side.kind byte ≡ Some kind
  pub fits : size < 2 ^ 32
  pub outside : (size < 4) ⊎ (side.most < size)
  pub place_is : place ≡ 1

-- a whole packet has a bad body
pub record HasBadBody {K T : Type 0} (side : Side K T) (bytes : List ℕ) (place : ℕ) : Type 0 where
  pub byte : ℕ
  pub kind : K
  pub body : List ℕ
  pub rest : List ℕ
  pub left : ℕ
  pub bytes_are : bytes ≡ message byte body ++ rest
  pub told : side.kind byte ≡ Some kind
  pub within : length body + 4 ≤ side.most
  pub breaks : BreaksBody (side.form kind) body left
  pub place_is : place ≡ length (message byte body) - left

-- the bytes begin with a message that is bad at this place
abbrev pub IsMalformed : {K T : Type 0} → Side K T → List ℕ → ℕ → Why → Type 0
IsMalformed side bytes place why.TypeByte = HasBadType side bytes place
IsMalformed side bytes place why.Length = HasBadLength side bytes place
IsMalformed side bytes place why.Body = HasBadBody side bytes place
