-- The messages of a server.
use Rattle.std.specs.Prelude.{ℕ, ℤ, ◌+◌, ◌==◌, List, length, Option, Some, None, Result, if◌then◌else◌}
use Rattle.std.specs.Int.{w16, w32}
use Rattle.message_shapes.specs.Shapes.{Shape, string, number, low, dropped, fixed, signed, choice, mark, sized, nothing, counted, zero_ended, via, ◌&◌, two, minus_one}
use Rattle.pg_messages.specs.Limits.{back_limit}
use Rattle.pg_messages.specs.Sides.{Form, formed, Sent, sent, Side, body_at, head_at, message_at, IsMessage}
use Rattle.pg_messages.specs.Spelling.{message, refusal_of}
use Rattle.pg_messages.specs.declared.back.Back.{Back}
use Rattle.pg_messages.specs.declared.back.Back.TheVariants as back
use Rattle.pg_messages.specs.declared.back.BackKind.{BackKind}
use Rattle.pg_messages.specs.declared.back.BackKind.TheVariants as kinds
use Rattle.pg_messages.specs.declared.back.ErrorField.{ErrorField}
use Rattle.pg_messages.specs.declared.back.Field.{Field}
use Rattle.pg_messages.specs.declared.back.Status.{Status}
use Rattle.pg_messages.specs.declared.back.Status.TheVariants as at
use Rattle.pg_messages.specs.declared.decoded.Decoded.{Decoded}
use Rattle.pg_messages.specs.declared.encode_refused.EncodeRefused.{EncodeRefused}
use Rattle.pg_messages.specs.declared.packet.Head.{Head}

-- ---- fields

-- `I`, `T` or `E`
abbrev pub status_of : ℕ → Option Status
status_of byte =
    if byte == 73 then Some at.Idle
    else if byte == 84 then Some at.InBlock
    else if byte == 69 then Some at.Failed
    else None

abbrev pub status_byte : Status → ℕ
status_byte at.Idle = 73
status_byte at.InBlock = 84
status_byte at.Failed = 69

abbrev pub status : Shape Status
status = choice status_of status_byte

-- A field's name, table, attribute, type, size, modifier and format. Its table, its attribute and its modifier may be
-- any numbers; the encoder tells no table, no attribute and no modifier, which -1 stands for.
abbrev pub FieldParts : Type 0
FieldParts = List ℕ × (Unit {0} × (Unit {0} × (ℕ × (ℤ × (Unit {0} × ℕ)))))

abbrev pub field_parts : Shape FieldParts
field_parts =
    string & dropped w32 0 & dropped w16 0 & number w32 & signed w16 & dropped w32 minus_one
    & low w16 1

abbrev pub field_made : FieldParts → Field
field_made x = record {
  name = x.0;
  kind_number = x.1.1.1.0;
  size = x.1.1.1.1.0;
  format = x.1.1.1.1.1.1;
}

abbrev pub field_taken : Field → FieldParts
field_taken f = (f.name, (tt, (tt, (f.kind_number, (f.size, (tt, f.format))))))

unfoldable pub field : Shape Field
field = via field_made field_taken field_parts

-- a field of an error: its code and its text
abbrev pub error_field_made : ℕ × List ℕ → ErrorField
error_field_made x = record { code = x.0; text = x.1 }

abbrev pub error_field_taken : ErrorField → ℕ × List ℕ
error_field_taken f = (f.code, f.text)

unfoldable pub error_field : Shape ErrorField
error_field = via error_field_made error_field_taken (mark & string)

-- ---- the messages

-- the type bytes are `R`, `K`, `S`, `Z`, `T`, `D`, `C`, `I` and `E`
abbrev pub back_kind : ℕ → Option BackKind
back_kind byte =
    if byte == 82 then Some kinds.AuthenticationOk
    else if byte == 75 then Some kinds.BackendKeyData
    else if byte == 83 then Some kinds.ParameterStatus
    else if byte == 90 then Some kinds.ReadyForQuery
    else if byte == 84 then Some kinds.RowDescription
    else if byte == 68 then Some kinds.DataRow
    else if byte == 67 then Some kinds.CommandComplete
    else if byte == 73 then Some kinds.EmptyQueryResponse
    else if byte == 69 then Some kinds.ErrorResponse
    else None

abbrev pub back_byte : BackKind → ℕ
back_byte kinds.AuthenticationOk = 82
back_byte kinds.BackendKeyData = 75
back_byte kinds.ParameterStatus = 83
back_byte kinds.ReadyForQuery = 90
back_byte kinds.RowDescription = 84
back_byte kinds.DataRow = 68
back_byte kinds.CommandComplete = 67
back_byte kinds.EmptyQueryResponse = 73
back_byte kinds.ErrorResponse = 69

unfoldable pub back_form : BackKind → Form Back
back_form kinds.AuthenticationOk = formed (fixed w32 0) (λ x. back.AuthenticationOk)
back_form kinds.BackendKeyData = formed (number w32 & number w32) (two back.BackendKeyData)
back_form kinds.ParameterStatus = formed (string & string) (two back.ParameterStatus)
back_form kinds.ReadyForQuery = formed status back.ReadyForQuery
back_form kinds.RowDescription = formed (counted field) back.RowDescription
back_form kinds.DataRow = formed (counted sized) back.DataRow
back_form kinds.CommandComplete = formed string back.CommandComplete
back_form kinds.EmptyQueryResponse = formed nothing (λ x. back.EmptyQueryResponse)
back_form kinds.ErrorResponse = formed (zero_ended error_field) back.ErrorResponse

unfoldable pub back_sent : Back → Sent BackKind
back_sent back.AuthenticationOk = sent kinds.AuthenticationOk (fixed w32 0) tt
back_sent (back.BackendKeyData process key) =
    sent kinds.BackendKeyData (number w32 & number w32) (process, key)
back_sent (back.ParameterStatus name value) =
    sent kinds.ParameterStatus (string & string) (name, value)
back_sent (back.ReadyForQuery s) = sent kinds.ReadyForQuery status s
back_sent (back.RowDescription fields) = sent kinds.RowDescription (counted field) fields
back_sent (back.DataRow cells) = sent kinds.DataRow (counted sized) cells
back_sent (back.CommandComplete tag) = sent kinds.CommandComplete string tag
back_sent back.EmptyQueryResponse = sent kinds.EmptyQueryResponse nothing tt
back_sent (back.ErrorResponse fields) = sent kinds.ErrorResponse (zero_ended error_field) fields

unfoldable pub back_side : Side BackKind Back
back_side = record {
  most = back_limit;
  kind = back_kind;
  byte = back_byte;
  form = back_form;
  sent = back_sent;
}

-- ---- reading

abbrev pub back_head : List ℕ → Head BackKind
back_head bytes = head_at back_side bytes

abbrev pub back_body : BackKind → List ℕ → Result Back ℕ
back_body kind body = body_at back_side kind body

abbrev pub back_of : List ℕ → Decoded Back
back_of bytes = message_at back_side bytes

-- the bytes are this message
abbrev pub IsBack : Back → List ℕ → Type 0
IsBack m packet = IsMessage back_side m packet

-- ---- writing

abbrev pub back_layout : Back → List ℕ
back_layout m = (back_sent m).body

abbrev pub back_bytes : Back → List ℕ
back_bytes m = message (back_byte (back_sent m).kind) (back_layout m)

abbrev pub back_refusal : Back → Option EncodeRefused
back_refusal m = refusal_of (back_sent m).good (length (back_layout m) + 4) back_limit
