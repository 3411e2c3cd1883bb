-- The tokens of a text, which is the list of its bytes in UTF-8. A place among the bytes counts from 0.
use Rattle.std.specs.Prelude.{◌≡◌, ℕ, ◌+◌, ◌-◌, ◌*◌, ◌^◌, ◌<◌, ◌==◌, Bool, true, false, not, ◌&&◌, ◌||◌, if◌then◌else◌, List, [], ◌∷◌, length, take, drop, Option, Some, None, ℤ, pos, neg_ℤ, nat_lt, nat_le, slice_index, slice_get, count_by, fold}
use Rattle.std.specs.Str.{bytes_eq}
use Rattle.std.specs.List.{prefix_len, slice_range}
use Rattle.std.specs.Char.{is_ascii_digit}
use Rattle.word_tokens.specs.Words.{starts_word, continues_word, same_word_as}
use Rattle.word_tokens.specs.declared.token.TokenKind.{TokenKind}
use Rattle.word_tokens.specs.declared.token.TokenKind.TheVariants as kind
use Rattle.word_tokens.specs.declared.token.Token.{Token}

-- space, tab, line feed or carriage return
abbrev pub is_white : ℕ → Bool
is_white byte = byte == 32 || byte == 9 || byte == 10 || byte == 13

-- a comment ends before the line feed, and holds no zero byte
abbrev pub is_comment_part : ℕ → Bool
is_comment_part byte = not (byte == 10) && not (byte == 0)

-- whether two dashes stand at a place
abbrev pub comment_at : List ℕ → ℕ → Bool
comment_at text at = slice_index text at == 45 && slice_index text (at + 1) == 45

-- how many bytes of white space and comments a text begins with, where it begins in a comment or not
abbrev pub blanks : Bool → List ℕ → ℕ
blanks true [] = 0
blanks false [] = 0
blanks true (byte ∷ bytes) = if is_comment_part byte then 1 + blanks true bytes else (if byte == 10 then 1 + blanks false bytes else 0)
blanks false (byte ∷ bytes) =
    if is_white byte then 1 + blanks false bytes else (if byte == 45 && slice_index bytes 0 == 45 then 1 + blanks true bytes else 0)

-- where the white space and the comments that begin at a place end
unfoldable pub blank_end : List ℕ → ℕ → ℕ
blank_end text at = at + blanks false (drop at text)

-- the same inside a comment
unfoldable pub comment_end : List ℕ → ℕ → ℕ
comment_end text at = at + blanks true (drop at text)

-- where the longest run of such bytes from a place ends
abbrev pub run_end : (ℕ → Bool) → List ℕ → ℕ → ℕ
run_end is_part text at = at + prefix_len is_part (drop at text)

-- where a text in quotes ends whose characters begin at a place, behind its closing quote. Two quotes are one
-- character, and a zero byte is none.
abbrev pub closing_from : ℕ → List ℕ → Option ℕ
closing_from at [] = None
closing_from at (byte ∷ []) = if byte == 39 then Some (at + 1) else None
closing_from at (byte ∷ next ∷ bytes) =
    if byte == 0 then None else (if byte == 39 then (if next == 39 then closing_from (at + 2) bytes else Some (at + 1)) else closing_from (at + 1) (next ∷ bytes))

unfoldable pub closing_at : List ℕ → ℕ → Option ℕ
closing_at text at = closing_from at (drop at text)

-- what bytes between quotes spell: each two quotes are one
abbrev pub unquoted : List ℕ → List ℕ
unquoted [] = []
unquoted (byte ∷ []) = byte ∷ []
unquoted (byte ∷ next ∷ bytes) = byte ∷ (if byte == 39 then unquoted bytes else unquoted (next ∷ bytes))

-- the number that digits spell
abbrev pub number_of : List ℕ → ℕ
number_of digits = fold (λ n digit. n * 10 + (digit - 48)) 0 digits

-- it with its sign, or None where it is out of the range of 64 bits
abbrev pub integer_of : Bool → List ℕ → Option ℤ
integer_of true digits = if nat_le (number_of digits) (2 ^ 63) then Some (neg_ℤ (pos (number_of digits))) else None
integer_of false digits = if nat_lt (number_of digits) (2 ^ 63) then Some (pos (number_of digits)) else None

-- the greatest number of a parameter
abbrev pub parameter_limit : ℕ
parameter_limit = 1024

-- the number of a parameter, or None where it is above the limit
abbrev pub parameter_of : List ℕ → Option ℕ
parameter_of digits = if nat_le (number_of digits) parameter_limit then Some (number_of digits) else None

-- the token that begins at a place: its kind, and where it ends
pub record Scanned : Type 0 where
  pub kind : TokenKind
  pub end : ℕ

abbrev pub scanned : TokenKind → ℕ → Scanned
scanned kind end = record { kind = kind; end = end }

-- a fault ends with the text
abbrev pub fault_in : List ℕ → Scanned
fault_in text = scanned kind.Bad (length text)

-- an integer, from its first digit on
abbrev pub integer_at : Bool → List ℕ → ℕ → Scanned
integer_at negative text at =
    let end = run_end is_ascii_digit text at in scanned (kind.Integer (integer_of negative (slice_range text at end))) end

abbrev pub quoted_at : List ℕ → ℕ → Option ℕ → Scanned
quoted_at text at None = fault_in text
quoted_at text at (Some end) = scanned (kind.Text (unquoted (slice_range text (at + 1) (end - 1)))) end

abbrev pub parameter_at : List ℕ → ℕ → Scanned
parameter_at text at =
    let end = run_end is_ascii_digit text (at + 1) in scanned (kind.Param (parameter_of (slice_range text (at + 1) end))) end

-- one of `( ) [ ]`
abbrev pub is_bracket : ℕ → Bool
is_bracket byte = byte == 40 || byte == 41 || byte == 91 || byte == 93

-- one of `( ) [ ] , ; . * = < >`
abbrev pub is_short_sign : ℕ → Bool
is_short_sign byte = is_bracket byte || byte == 44 || byte == 59 || byte == 46 || byte == 42 || byte == 61 || byte == 60 || byte == 62

-- one of `<= <> >= !=`
abbrev pub is_long_sign : ℕ → ℕ → Bool
is_long_sign first second = (first == 60 && (second == 61 || second == 62)) || ((first == 62 || first == 33) && second == 61)

-- how long the sign is that begins with these two bytes, or 0 where none does
abbrev pub sign_length : ℕ → ℕ → ℕ
sign_length first second = if is_long_sign first second then 2 else (if is_short_sign first then 1 else 0)

abbrev pub sign_at : List ℕ → ℕ → ℕ → Scanned
sign_at text at size = if size == 0 then fault_in text else scanned kind.Sign (at + size)

-- by its first byte, and the next one: a word, an integer, a text, a parameter, a sign or a fault
unfoldable pub scanned_at : List ℕ → ℕ → Scanned
scanned_at text at =
    let first = slice_index text at in let next = slice_index text (at + 1) in
    if starts_word first then scanned kind.Word (run_end continues_word text at) else
    (if is_ascii_digit first then integer_at false text at else
    (if first == 45 then (if is_ascii_digit next then integer_at true text (at + 1) else fault_in text) else
    (if first == 39 then quoted_at text at (closing_at text (at + 1)) else
    (if first == 36 then (if is_ascii_digit next && not (next == 48) then parameter_at text at else fault_in text) else
    sign_at text at (sign_length first next)))))

-- each character has one byte that doesn't continue another
abbrev pub starts_character : ℕ → Bool
starts_character byte = nat_lt byte 128 || nat_le 192 byte

-- the place of a byte's character, and its line, both from 1
abbrev pub character_at : List ℕ → ℕ → ℕ
character_at text at = 1 + count_by starts_character (take at text)

abbrev pub line_at : List ℕ → ℕ → ℕ
line_at text at = 1 + count_by (λ byte. byte == 10) (take at text)

-- the token at a place
abbrev pub token_at : List ℕ → ℕ → Token
token_at text at =
    let found = scanned_at text at in
    record { kind = found.kind; start = at; end = found.end; place = character_at text at; line = line_at text at }

abbrev pub IfBad : TokenKind → Type 0 → Type 0 → Type 0
IfBad kind.Bad bad good = bad
IfBad _ bad good = good

-- the tokens from a place on where no blank stands: they stand one behind another with only blanks between, up to the
-- end of the text or the first fault
abbrev pub StandAt : List ℕ → ℕ → List Token → Type 0
StandAt text at [] = at ≡ length text
StandAt text at (token ∷ tokens) =
    (at < length text) × (token ≡ token_at text at) × IfBad token.kind (tokens ≡ []) (StandAt text (blank_end text token.end) tokens)

-- all the tokens of a text
pub record AreTokens (text : List ℕ) (tokens : List Token) : Type 0 where
  pub stand : StandAt text (blank_end text 0) tokens

-- a text has tokens
pub record HasTokens (text : List ℕ) : Type 0 where
  pub tokens : List Token
  pub are_tokens : AreTokens text tokens

-- the bytes of a token
abbrev pub bytes_of : List ℕ → Token → List ℕ
bytes_of text token = slice_range text token.start token.end

abbrev pub is_word : TokenKind → Bool
is_word kind.Word = true
is_word _ = false

abbrev pub is_mark : TokenKind → Bool
is_mark kind.Sign = true
is_mark _ = false

abbrev pub is_word_of_text : List ℕ → List ℕ → Option Token → Bool
is_word_of_text text word (Some token) = is_word token.kind && same_word_as (bytes_of text token) word
is_word_of_text text word None = false

abbrev pub is_mark_of_text : List ℕ → List ℕ → Option Token → Bool
is_mark_of_text text mark (Some token) = is_mark token.kind && bytes_eq (bytes_of text token) mark
is_mark_of_text text mark None = false

-- whether the token at a place is this word, in any case
abbrev pub is_word_at : List ℕ → List Token → ℕ → List ℕ → Bool
is_word_at text tokens at word = is_word_of_text text word (slice_get tokens at)

-- whether it is this sign
abbrev pub is_mark_at : List ℕ → List Token → ℕ → List ℕ → Bool
is_mark_at text tokens at mark = is_mark_of_text text mark (slice_get tokens at)

-- the place of the token with this number, or one past the last character where there is none
abbrev pub place_of : List ℕ → Option Token → ℕ
place_of text (Some token) = token.place
place_of text None = character_at text (length text)

abbrev pub place_at : List ℕ → List Token → ℕ → ℕ
place_at text tokens at = place_of text (slice_get tokens at)
