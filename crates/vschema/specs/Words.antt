-- What single tokens of a catalogue's file spell.
use Rattle.std.specs.Prelude.{Bool, true, false, ℕ, if◌then◌else◌, List, map, length, Option, Some, None, codes, slice_get}
use Rattle.std.specs.Char.{to_ascii_lowercase}
use Rattle.word_tokens.specs.Words.{is_name_of, same_word_as}
use Rattle.word_tokens.specs.Tokens.{bytes_of, is_word_at, is_mark_at, line_at}
use Rattle.word_tokens.specs.declared.token.Token.{Token}
use Rattle.word_tokens.specs.declared.token.TokenKind.{TokenKind}
use Rattle.word_tokens.specs.declared.token.TokenKind.TheVariants as token_kind
use Rattle.values.specs.declared.value.Kind.{Kind}
use Rattle.values.specs.declared.value.Kind.TheVariants as kind
use Rattle.values.specs.declared.value.Value.{Value}
use Rattle.values.specs.declared.value.Value.TheVariants as value
use Rattle.vschema.specs.declared.words.Sign.{Sign}
use Rattle.vschema.specs.declared.words.Sign.TheVariants as sign

-- whether the token at a place is this word, in any case, or this sign
unfoldable pub stands : List ℕ → List Token → ℕ → Sign → Bool
stands text tokens at sign.Features = is_word_at text tokens at (codes "features")
stands text tokens at sign.Model = is_word_at text tokens at (codes "model")
stands text tokens at sign.Table = is_word_at text tokens at (codes "table")
stands text tokens at sign.Row = is_word_at text tokens at (codes "row")
stands text tokens at sign.When = is_word_at text tokens at (codes "when")
stands text tokens at sign.Open = is_mark_at text tokens at (codes "(")
stands text tokens at sign.Close = is_mark_at text tokens at (codes ")")
stands text tokens at sign.Comma = is_mark_at text tokens at (codes ",")
stands text tokens at sign.Semicolon = is_mark_at text tokens at (codes ";")

abbrev pub name_of_kind : TokenKind → List ℕ → Option (List ℕ)
name_of_kind token_kind.Word bytes = if is_name_of bytes then Some bytes else None
name_of_kind _ bytes = None

abbrev pub name_of : List ℕ → Option Token → Option (List ℕ)
name_of text (Some token) = name_of_kind token.kind (bytes_of text token)
name_of text None = None

-- the name that the token at a place is, as it is written
unfoldable pub spelled_name_at : List ℕ → List Token → ℕ → Option (List ℕ)
spelled_name_at text tokens at = name_of text (slice_get tokens at)

abbrev pub lower : Option (List ℕ) → Option (List ℕ)
lower (Some name) = Some (map to_ascii_lowercase name)
lower None = None

-- the name of a table or a column that it is, whose case doesn't count
unfoldable pub folded_at : List ℕ → List Token → ℕ → Option (List ℕ)
folded_at text tokens at = lower (spelled_name_at text tokens at)

-- the kind that it is
unfoldable pub kind_at : List ℕ → List Token → ℕ → Option Kind
kind_at text tokens at =
    if is_word_at text tokens at (codes "int8") then Some kind.Int else
    (if is_word_at text tokens at (codes "text") then Some kind.Text else
    (if is_word_at text tokens at (codes "bool") then Some kind.Bool else None))

abbrev pub truth_of : List ℕ → Option Bool
truth_of word = if same_word_as word (codes "true") then Some true else (if same_word_as word (codes "false") then Some false else None)

abbrev pub truth_value : Option Bool → Option Value
truth_value (Some truth) = Some (value.Bool truth)
truth_value None = None

abbrev pub value_of_kind : TokenKind → List ℕ → Option Value
value_of_kind (token_kind.Integer (Some number)) bytes = Some (value.Int number)
value_of_kind (token_kind.Integer None) bytes = None
value_of_kind (token_kind.Text characters) bytes = Some (value.Text characters)
value_of_kind token_kind.Word bytes = truth_value (truth_of bytes)
value_of_kind _ bytes = None

abbrev pub value_of : List ℕ → Option Token → Option Value
value_of text (Some token) = value_of_kind token.kind (bytes_of text token)
value_of text None = None

-- the value that it is: an integer within its range, a text, `true` or `false`
unfoldable pub value_at : List ℕ → List Token → ℕ → Option Value
value_at text tokens at = value_of text (slice_get tokens at)

abbrev pub line_of : List ℕ → Option Token → ℕ
line_of text (Some token) = token.line
line_of text None = line_at text (length text)

-- the line of the token at a place, or the text's last line where there is none
unfoldable pub line_number : List ℕ → List Token → ℕ → ℕ
line_number text tokens at = line_of text (slice_get tokens at)
