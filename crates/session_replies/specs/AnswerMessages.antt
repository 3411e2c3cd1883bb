-- How an answer is spelled in messages: a description of its columns, and a row of data for each of its rows. Which of
-- its messages is too long to be sent.
use Rattle.std.specs.Prelude.{ℕ, ◌+◌, pos, neg_ℤ, true, false, List, [], ◌∷◌, ◌++◌, map, length, codes, decimal, Option, Some, None, nat_lt, if◌then◌else◌}
use Rattle.std.specs.Fmt.{signed_decimal}
use Rattle.feature_expr.specs.Printing.{text_of}
use Rattle.values.specs.declared.column_name.ColName.{ColName}
use Rattle.feature_expr.specs.declared.expr.Expr.{Expr, out-Expr}
use Rattle.feature_expr.specs.declared.expr.Expr.TheOpen.{Expr-F}
use Rattle.values.specs.declared.value.Kind.{Kind}
use Rattle.values.specs.declared.value.Kind.TheVariants as kind
use Rattle.values.specs.declared.value.Value.{Value}
use Rattle.values.specs.declared.value.Value.TheVariants as value
use Rattle.pg_messages.specs.declared.back.Back.{Back}
use Rattle.pg_messages.specs.declared.back.Back.TheVariants as back
use Rattle.pg_messages.specs.declared.back.Field.{Field}
use Rattle.pg_messages.specs.Back.{back_layout}
use Rattle.pg_messages.specs.Limits.{back_limit}
use Rattle.pg_messages.specs.Spelling.{capped}
use Rattle.query_meaning.specs.declared.typed.TypedColumn.{TypedColumn}
use Rattle.session_replies.specs.declared.refusal.Refusal.{Refusal}
use Rattle.session_replies.specs.declared.refusal.Refusal.TheVariants as refusal
use Rattle.vtable.specs.declared.table.VRow.{VRow}
use Rattle.vtable.specs.declared.table.VTable.{VTable}

abbrev pub prefix_text : Option (List ℕ) → List ℕ
prefix_text None = []
prefix_text (Some prefix) = prefix ++ codes "."

abbrev pub name_text : ColName → List ℕ
name_text name = prefix_text name.prefix ++ name.base

-- what follows a column's name where the column isn't always there
abbrev pub when_step : List ℕ → Expr-F Expr → List ℕ
when_step text Expr-F.True = []
when_step text _ = codes " when " ++ text

abbrev pub when_text : List (List ℕ) → Expr → List ℕ
when_text names cond = when_step (text_of names cond) (out-Expr cond)

-- The number and the size of a kind's type are those of PostgreSQL's catalogue. All fields are in text form.
abbrev pub field_of : List ℕ → Kind → Field
field_of name kind.Bool = record { name = name; kind_number = 16; size = pos 1; format = 0 }
field_of name kind.Int = record { name = name; kind_number = 20; size = pos 8; format = 0 }
field_of name kind.Text = record { name = name; kind_number = 25; size = neg_ℤ (pos 1); format = 0 }

abbrev pub column_field : List (List ℕ) → TypedColumn → Field
column_field names column = field_of (name_text column.name ++ when_text names column.cond) column.kind

-- the last field holds each row's condition
abbrev pub when_field : Field
when_field = field_of (codes "when") kind.Text

abbrev pub description : List (List ℕ) → List TypedColumn → Back
description names columns = back.RowDescription (map (column_field names) columns ++ when_field ∷ [])

abbrev pub value_text : Value → List ℕ
value_text (value.Int number) = signed_decimal number
value_text (value.Text text) = text
value_text (value.Bool true) = codes "t"
value_text (value.Bool false) = codes "f"

-- an absent cell is null
abbrev pub cell_text : Option Value → Option (List ℕ)
cell_text None = None
cell_text (Some value) = Some (value_text value)

-- the cells of a row, and its condition as text
abbrev pub row_with : List (Option Value) → List ℕ → Back
row_with cells cond = back.DataRow (map cell_text cells ++ Some cond ∷ [])

abbrev pub data_row : List (List ℕ) → VRow → Back
data_row names row = row_with row.cells (text_of names row.cond)

-- all rows of an answer
abbrev pub rows_of : List (List ℕ) → VTable → List Back
rows_of names answer = map (data_row names) answer.rows

abbrev pub answer_messages : List (List ℕ) → List TypedColumn → VTable → List Back
answer_messages names columns answer = description names columns ∷ rows_of names answer

-- how many rows there were
abbrev pub select_tag : ℕ → List ℕ
select_tag count = codes "SELECT " ++ decimal count

abbrev pub select_complete : ℕ → Back
select_complete count = back.CommandComplete (select_tag count)

-- a message whose length field can't say its length
abbrev pub too_long_by : ℕ → Option Refusal
too_long_by length = if nat_lt back_limit length then Some (refusal.TooLong (capped length)) else None

abbrev pub message_too_long : Back → Option Refusal
message_too_long message = too_long_by (length (back_layout message) + 4)

abbrev pub first_of : Option Refusal → Option Refusal → Option Refusal
first_of None later = later
first_of (Some why) later = Some why

-- the first of the messages that is too long
abbrev pub too_long : List Back → Option Refusal
too_long [] = None
too_long (message ∷ messages) = first_of (message_too_long message) (too_long messages)

-- The rows of an answer are looked at before its description.
abbrev pub answer_too_long : List (List ℕ) → List TypedColumn → VTable → Option Refusal
answer_too_long names columns answer = too_long (rows_of names answer ++ description names columns ∷ [])
