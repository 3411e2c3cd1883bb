-- The value of a setting.
use Rattle.std.specs.Prelude.{ℕ, ℤ, List, Option, Some, None, slice_get}
use Rattle.word_tokens.specs.declared.token.Token.{Token}
use Rattle.word_tokens.specs.declared.token.TokenKind.{TokenKind}
use Rattle.word_tokens.specs.declared.token.TokenKind.TheVariants as kind

abbrev pub integer_of : TokenKind → Option ℤ
integer_of (kind.Integer number) = number
integer_of _ = None

abbrev pub integer_in : Option Token → Option ℤ
integer_in (Some token) = integer_of token.kind
integer_in None = None

-- the integer that the token at a place is, where it is in range
abbrev pub integer_at : List Token → ℕ → Option ℤ
integer_at tokens at = integer_in (slice_get tokens at)
