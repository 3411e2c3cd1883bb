-- Which sign of expressions a token is that is known.
use Rattle.std.proofs.Common.{◌≡◌, ℕ, List, refl}
use Rattle.word_tokens.specs.declared.token.Token.{Token}
use Rattle.word_tokens.specs.declared.token.TokenKind.{TokenKind}
use Rattle.feature_expr.specs.ExprGrammar.{sign_of_kind, sign_at}
use Rattle.word_tokens.proofs.StandLaws.{TokenIs}

pub sign_is : (text : List ℕ) (tokens : List Token) (k : ℕ) (kind : TokenKind) (piece : List ℕ) → TokenIs text tokens k kind piece → sign_at text tokens k ≡ sign_of_kind kind piece
unfolding sign_at
sign_is text tokens k kind piece t = rw (t.found, t.is_kind, t.spells) refl
