-- The messages of a client.
use Rattle.std.specs.Prelude.{ℕ, ◌+◌, ◌==◌, Bool, true, false, List, length, Option, Some, None, Result, if◌then◌else◌}
use Rattle.message_shapes.specs.Shapes.{string, nothing}
use Rattle.pg_messages.specs.Limits.{front_limit}
use Rattle.pg_messages.specs.Sides.{Form, formed, Sent, sent, Side, body_at, head_at, message_at, IsMessage}
use Rattle.pg_messages.specs.Spelling.{message, refusal_of}
use Rattle.pg_messages.specs.declared.decoded.Decoded.{Decoded}
use Rattle.pg_messages.specs.declared.encode_refused.EncodeRefused.{EncodeRefused}
use Rattle.pg_messages.specs.declared.front.Front.{Front}
use Rattle.pg_messages.specs.declared.front.Front.TheVariants as front
use Rattle.pg_messages.specs.declared.front.FrontKind.{FrontKind}
use Rattle.pg_messages.specs.declared.front.FrontKind.TheVariants as kinds
use Rattle.pg_messages.specs.declared.packet.Head.{Head}
use Rattle.pg_messages.specs.declared.packet.Head.TheVariants as head

-- `Q` and `X`
abbrev pub front_kind : ℕ → Option FrontKind
front_kind byte =
    if byte == 81 then Some kinds.Query
    else if byte == 88 then Some kinds.Terminate
    else None

abbrev pub front_byte : FrontKind → ℕ
front_byte kinds.Query = 81
front_byte kinds.Terminate = 88

unfoldable pub front_form : FrontKind → Form Front
front_form kinds.Query = formed string front.Query
front_form kinds.Terminate = formed nothing (λ x. front.Terminate)

unfoldable pub front_sent : Front → Sent FrontKind
front_sent (front.Query text) = sent kinds.Query string text
front_sent front.Terminate = sent kinds.Terminate nothing tt

unfoldable pub front_side : Side FrontKind Front
front_side = record {
  most = front_limit;
  kind = front_kind;
  byte = front_byte;
  form = front_form;
  sent = front_sent;
}

-- ---- reading

abbrev pub front_head : List ℕ → Head FrontKind
front_head bytes = head_at front_side bytes

abbrev pub front_body : FrontKind → List ℕ → Result Front ℕ
front_body kind body = body_at front_side kind body

abbrev pub front_of : List ℕ → Decoded Front
front_of bytes = message_at front_side bytes

-- a Query alone takes memory
abbrev pub takes_memory : FrontKind → Bool
takes_memory kinds.Query = true
takes_memory kinds.Terminate = false

-- whether a Query is all there
abbrev pub is_query : Head FrontKind → Bool
is_query head.More = false
is_query (head.Bad place cause) = false
is_query (head.Packet kind n) = takes_memory kind

-- the bytes are this message
abbrev pub IsFront : Front → List ℕ → Type 0
IsFront m packet = IsMessage front_side m packet

-- ---- writing

abbrev pub front_layout : Front → List ℕ
front_layout m = (front_sent m).body

abbrev pub front_bytes : Front → List ℕ
front_bytes m = message (front_byte (front_sent m).kind) (front_layout m)

abbrev pub front_refusal : Front → Option EncodeRefused
front_refusal m = refusal_of (front_sent m).good (length (front_layout m) + 4) front_limit
