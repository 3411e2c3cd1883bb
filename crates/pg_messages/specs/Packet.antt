-- Packets as they are read: the head tells which packet it is and its length, and then the body is read.
use Rattle.std.specs.Prelude.{◌≡◌, ℕ, ◌+◌, ◌-◌, ◌≤◌, Bool, true, false, ◌||◌, List, length, take, drop, Option, Some, None, Result, Ok, Err, nat_lt, if◌then◌else◌}
use Rattle.std.specs.Int.{w32, from_be_bytes}
use Rattle.pg_messages.specs.declared.decoded.Decoded.{Decoded}
use Rattle.pg_messages.specs.declared.decoded.Decoded.TheVariants as decoded
use Rattle.pg_messages.specs.declared.decoded.Why.TheVariants as why
use Rattle.message_shapes.specs.declared.fields.Fault.{Fault}
use Rattle.message_shapes.specs.declared.fields.Fault.TheVariants as fault
use Rattle.pg_messages.specs.declared.packet.Head.{Head}
use Rattle.pg_messages.specs.declared.packet.Head.TheVariants as head

-- What a decoder returned is what reading gives, unless memory ran out.
abbrev pub Answers : {T : Type 0} → Decoded T → Decoded T → Type 0
Answers decoded.Memory read = Unit {0}
Answers (decoded.Whole packet length) read = read ≡ decoded.Whole packet length
Answers decoded.More read = read ≡ decoded.More
Answers (decoded.Bad place cause) read = read ≡ decoded.Bad place cause

-- A whole packet of so many bytes was read, for which this holds.
abbrev pub IfWhole : {T : Type 0} → Decoded T → (T → ℕ → Type 0) → Type 0
IfWhole (decoded.Whole packet length) P = P packet length
IfWhole decoded.More P = Unit {0}
IfWhole (decoded.Bad place cause) P = Unit {0}
IfWhole decoded.Memory P = Unit {0}

-- A want of memory in reading shows this.
abbrev pub IfMemory : {T : Type 0} → Decoded T → Type 0 → Type 0
IfMemory (decoded.Whole packet length) shown = Unit {0}
IfMemory decoded.More shown = Unit {0}
IfMemory (decoded.Bad place cause) shown = Unit {0}
IfMemory decoded.Memory shown = shown

-- Memory runs out in a body only where it is one that takes memory.
abbrev pub TakesMemory : {T : Type 0} → Result T Fault → Bool → Type 0
TakesMemory (Ok x) takes = Unit {0}
TakesMemory (Err (fault.Before left)) takes = Unit {0}
TakesMemory (Err fault.Memory) takes = takes ≡ true

-- the number of bytes of a packet that is all there
abbrev pub length_of : {K : Type 0} → Head K → Option ℕ
length_of head.More = None
length_of (head.Bad place cause) = None
length_of (head.Packet kind n) = Some n

-- the packet's number of bytes is between these two
abbrev pub IsWithin : {K : Type 0} → ℕ → ℕ → Head K → Type 0
IsWithin least most head.More = Unit {0}
IsWithin least most (head.Bad place cause) = Unit {0}
IsWithin least most (head.Packet kind n) = (least ≤ n) × (n ≤ most)

abbrev pub sized_head : {K : Type 0} → ℕ → K → List ℕ → ℕ → Head K
sized_head most kind rest size =
    if nat_lt size 4 || nat_lt most size then head.Bad 1 why.Length else if nat_lt (length rest) size then head.More else head.Packet kind (size + 1)

-- The head of a message behind its type byte. Its length counts itself and the body, so it is 4 at least.
unfoldable pub message_head : {K : Type 0} → ℕ → Option K → List ℕ → Head K
message_head most None rest = head.Bad 0 why.TypeByte
message_head most (Some kind) rest =
    if nat_lt (length rest) 4 then head.More else sized_head most kind rest (from_be_bytes w32 (take 4 rest))

-- the answer on a packet of n bytes, of whose body this was read
abbrev pub decoded_as : {T : Type 0} → ℕ → Result T ℕ → Decoded T
decoded_as n (Ok packet) = decoded.Whole packet n
decoded_as n (Err left) = decoded.Bad (n - left) why.Body

abbrev pub decoded_from : {T : Type 0} → ℕ → Result T Fault → Decoded T
decoded_from n (Ok packet) = decoded.Whole packet n
decoded_from n (Err (fault.Before left)) = decoded.Bad (n - left) why.Body
decoded_from n (Err fault.Memory) = decoded.Memory

-- the packet that stands at the front of the bytes, whose body is behind so many bytes of head
abbrev pub packet_of : {K T : Type 0} → (K → List ℕ → Result T ℕ) → ℕ → Head K → List ℕ → Decoded T
packet_of body_of skipped head.More bytes = decoded.More
packet_of body_of skipped (head.Bad place cause) bytes = decoded.Bad place cause
packet_of body_of skipped (head.Packet kind n) bytes = decoded_as n (body_of kind (drop skipped (take n bytes)))

-- a packet is read
abbrev pub is_whole : {T : Type 0} → Decoded T → Bool
is_whole (decoded.Whole packet length) = true
is_whole decoded.More = false
is_whole (decoded.Bad place cause) = false
is_whole decoded.Memory = false

-- a packet may be going on
abbrev pub is_more : {T : Type 0} → Decoded T → Bool
is_more (decoded.Whole packet length) = false
is_more decoded.More = true
is_more (decoded.Bad place cause) = false
is_more decoded.Memory = false

abbrev pub is_more_head : {K : Type 0} → Head K → Bool
is_more_head head.More = true
is_more_head (head.Bad place cause) = false
is_more_head (head.Packet kind n) = false
