-- Why a single token isn't what has to stand at a place.
use Rattle.std.specs.Prelude.{Bool, ◌≡◌, ℕ, Result, Err, nat_lt}
use Rattle.vra_syntax.specs.declared.cond.Operand.{Operand}
use Rattle.query_parser.specs.Lexemes.{number_of}
use Rattle.query_parser.specs.declared.fault.ParseFault.{ParseFault}
use Rattle.query_parser.specs.declared.fault.ParseFault.TheVariants as fault
use Rattle.query_parser.specs.declared.lexeme.Lexeme.{Lexeme}
use Rattle.query_parser.specs.declared.lexeme.Lexeme.TheVariants as lexeme

-- a token, and neither the end of the text nor a place without one
abbrev pub is_token : Lexeme → Bool
is_token it = nat_lt (number_of it) (number_of lexeme.End)

-- a single token isn't what has to stand there, or memory ran out
abbrev pub IsSyntaxAt : ℕ → ParseFault → Type 0 → Type 0
IsSyntaxAt at (fault.Syntax place) cause = (place ≡ at) × cause
IsSyntaxAt at fault.Memory cause = Unit {0}
IsSyntaxAt at _ cause = ⊥

-- why a token is no value, or memory ran out
abbrev pub IsNoValue : Result Operand ParseFault → ParseFault → Type 0
IsNoValue found fault.Memory = Unit {0}
IsNoValue found why = found ≡ Err why
