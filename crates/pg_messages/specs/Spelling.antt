-- How the parts of a packet are spelled, and which values have a spelling.
use Rattle.std.specs.Prelude.{◌≡◌, ℕ, ◌+◌, ◌-◌, ◌^◌, Bool, min, List, ◌∷◌, ◌++◌, length, Option, Some, None, Result, Ok, Err, nat_lt, if◌then◌else◌}
use Rattle.std.specs.Int.{w32, to_be_bytes}
use Rattle.message_shapes.specs.Shapes.{one_byte, number_bytes}
use Rattle.pg_messages.specs.declared.encode_refused.EncodeRefused.{EncodeRefused}
use Rattle.pg_messages.specs.declared.encode_refused.EncodeRefused.TheVariants as refused

-- a message with this type byte; its length counts itself and the body
abbrev pub message : ℕ → List ℕ → List ℕ
message kind body = kind ∷ to_be_bytes w32 (length body + 4) ++ body

-- the type byte and the length of a message
unfoldable pub head_bytes : ℕ → ℕ → List ℕ
head_bytes kind size = one_byte kind ++ number_bytes w32 size

-- a number of bytes as it is told, which the greatest u64 stands for where it is above that
abbrev pub capped : ℕ → ℕ
capped n = min n (2 ^ 64 - 1)

-- Why a packet isn't written: its value has no spelling, or its length is above the greatest of its kind.
abbrev pub refusal_of : Bool → ℕ → ℕ → Option EncodeRefused
refusal_of has_spelling length most = if has_spelling then (if nat_lt most length then Some (refused.TooLong (capped length)) else None) else Some refused.NotSpelled

-- An encoder refuses what has this refusal, and nothing else, unless memory runs out.
abbrev pub RefusesToWrite : Result (Unit {0}) EncodeRefused → Option EncodeRefused → Type 0
RefusesToWrite (Ok done) refusal = refusal ≡ None
RefusesToWrite (Err refused.NotSpelled) refusal = refusal ≡ Some refused.NotSpelled
RefusesToWrite (Err (refused.TooLong n)) refusal = refusal ≡ Some (refused.TooLong n)
RefusesToWrite (Err refused.Memory) refusal = refusal ≡ None

-- the length field of a packet that may be written, or the refusal
abbrev pub Checks : Result ℕ EncodeRefused → ℕ → Option EncodeRefused → Type 0
Checks (Ok n) length refusal = (n ≡ length) × (refusal ≡ None)
Checks (Err why) length refusal = refusal ≡ Some why
