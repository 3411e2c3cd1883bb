-- The packets that a connection begins with. They have no type byte: a code tells which packet it is.
use Rattle.std.specs.Prelude.{◌≡◌, ℕ, ◌+◌, ◌^◌, ◌<◌, ◌≤◌, ◌==◌, Bool, true, false, ◌||◌, ◌&&◌, not, List, [], ◌++◌, length, take, drop, Option, Result, Ok, Err, nat_le, nat_lt, if◌then◌else◌}
use Rattle.std.specs.Int.{w32, from_be_bytes, to_be_bytes}
use Rattle.message_shapes.specs.Fields.{◌>>=◌}
use Rattle.message_shapes.specs.Shapes.{Shape, string, word, unread, zero_ended, via, ◌&◌, number_bytes}
use Rattle.pg_messages.specs.Limits.{protocol_code, startup_limit}
use Rattle.pg_messages.specs.Packet.{packet_of}
use Rattle.pg_messages.specs.Sides.{Form, formed, Sent, sent}
use Rattle.pg_messages.specs.Spelling.{refusal_of}
use Rattle.pg_messages.specs.declared.decoded.Decoded.{Decoded}
use Rattle.pg_messages.specs.declared.decoded.Why.TheVariants as why
use Rattle.pg_messages.specs.declared.encode_refused.EncodeRefused.{EncodeRefused}
use Rattle.pg_messages.specs.declared.packet.Head.{Head}
use Rattle.pg_messages.specs.declared.packet.Head.TheVariants as head
use Rattle.pg_messages.specs.declared.startup.Pair.{Pair}
use Rattle.pg_messages.specs.declared.startup.Startup.{Startup}
use Rattle.pg_messages.specs.declared.startup.Startup.TheVariants as startup
use Rattle.pg_messages.specs.declared.startup.StartupKind.{StartupKind}
use Rattle.pg_messages.specs.declared.startup.StartupKind.TheVariants as kinds

-- ---- fields

-- a parameter: its name, which isn't empty, and its value
abbrev pub pair_made : List ℕ × List ℕ → Pair
pair_made x = record { name = x.0; value = x.1 }

abbrev pub pair_taken : Pair → List ℕ × List ℕ
pair_taken p = (p.name, p.value)

unfoldable pub pair : Shape Pair
pair = via pair_made pair_taken (word & string)

-- ---- the packets

abbrev pub startup_kind : ℕ → StartupKind
startup_kind code = if code == protocol_code then kinds.Start else kinds.Other code

abbrev pub startup_code : StartupKind → ℕ
startup_code kinds.Start = protocol_code
startup_code (kinds.Other code) = code

-- the rest of a packet, behind its code
unfoldable pub startup_form : StartupKind → Form Startup
startup_form kinds.Start = formed (zero_ended pair) startup.Start
startup_form (kinds.Other code) = formed unread (λ x. startup.Other code)

unfoldable pub startup_sent : Startup → Sent StartupKind
startup_sent (startup.Start pairs) = sent kinds.Start (zero_ended pair) pairs
startup_sent (startup.Other code) = record {
  kind = kinds.Other code;
  good = not (code == protocol_code) && nat_lt code (2 ^ 32);
  body = [];
}

-- ---- reading

-- A length of 8 is that of a packet without fields. A StartupMessage has the zero byte that ends its pairs at least.
abbrev pub has_length : StartupKind → ℕ → Bool
has_length kinds.Start size = nat_le 9 size
has_length (kinds.Other code) size = true

abbrev pub coded_head : StartupKind → ℕ → List ℕ → Head StartupKind
coded_head kind size bytes =
    if not (has_length kind size) then head.Bad 0 why.Length
    else if nat_lt (length bytes) size then head.More
    else head.Packet kind size

abbrev pub sized_head : ℕ → List ℕ → List ℕ → Head StartupKind
sized_head size rest bytes =
    if nat_lt size 8 || nat_lt startup_limit size then head.Bad 0 why.Length
    else if nat_lt (length rest) 4 then head.More
    else coded_head (startup_kind (from_be_bytes w32 (take 4 rest))) size bytes

unfoldable pub startup_head : List ℕ → Head StartupKind
startup_head bytes =
    if nat_lt (length bytes) 4 then head.More
    else sized_head (from_be_bytes w32 (take 4 bytes)) (drop 4 bytes) bytes

-- a StartupMessage alone takes memory
abbrev pub takes_memory : StartupKind → Bool
takes_memory kinds.Start = true
takes_memory (kinds.Other code) = false

-- whether a StartupMessage is all there
abbrev pub is_start : Head StartupKind → Bool
is_start head.More = false
is_start (head.Bad place cause) = false
is_start (head.Packet kind n) = takes_memory kind

-- The zero byte that ends the pairs is the last of a packet. Where bytes follow it, it is the bad field.
abbrev pub last : Startup × List ℕ → Result Startup ℕ
last x = if length x.1 == 0 then Ok x.0 else Err (length x.1 + 1)

unfoldable pub startup_body : StartupKind → List ℕ → Result Startup ℕ
startup_body kind body = (startup_form kind).read body >>= last

unfoldable pub startup_of : List ℕ → Decoded Startup
startup_of bytes = packet_of startup_body 8 (startup_head bytes) bytes

-- ---- writing

-- the length and the code of a packet
unfoldable pub startup_head_bytes : ℕ → ℕ → List ℕ
startup_head_bytes code size = number_bytes w32 size ++ number_bytes w32 code

-- the length counts itself, the code and the rest
abbrev pub startup_packet : ℕ → List ℕ → List ℕ
startup_packet code rest =
    to_be_bytes w32 (length rest + 8) ++ to_be_bytes w32 code ++ rest

abbrev pub startup_layout : Startup → List ℕ
startup_layout m = (startup_sent m).body

abbrev pub startup_bytes : Startup → List ℕ
startup_bytes m = startup_packet (startup_code (startup_sent m).kind) (startup_layout m)

abbrev pub startup_refusal : Startup → Option EncodeRefused
startup_refusal m =
    refusal_of (startup_sent m).good (length (startup_layout m) + 8) startup_limit

-- the bytes are this packet
pub record IsStartup (m : Startup) (packet : List ℕ) : Type 0 where
  pub code : ℕ
  pub fits : code < 2 ^ 32
  pub rest : List ℕ
  pub spelled : (startup_form (startup_kind code)).Spells m rest
  pub within : length rest + 8 ≤ startup_limit
  pub bytes : packet ≡ startup_packet code rest
