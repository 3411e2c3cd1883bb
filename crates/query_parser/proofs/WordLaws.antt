-- Where a token stands that isn't the end of the text, and where a name stands.
use Rattle.std.proofs.Common.{Bool, true, false, ◌≡◌, ◌==◌, ℕ, ◌+◌, ◌<◌, nat_lt, if◌then◌else◌, List, length, Option, Some, None, Result, Ok, IsTrue, slice_get, refl, ◌∙◌}
use Rattle.std.proofs.lemmas.Bool.{eqb-true}
use Rattle.std.proofs.lemmas.Option.{slice_get_within}
use Rattle.word_tokens.specs.declared.token.Token.{Token}
use Rattle.vra_syntax.specs.declared.cond.Operand.{Operand}
use Rattle.query_parser.specs.Lexemes.{number_of, lexeme_of_token, lexeme_at, stands, is_name, folded_of, name_at, value_at}
use Rattle.query_parser.specs.Parts.{IsOperand, value_operand}
use Rattle.query_parser.specs.Faults.{ColumnFault, OperandFault, operand_memory, in_column, no_value}
use Rattle.query_parser.specs.Wanted.{is_token, IsNoValue}
use Rattle.query_parser.specs.declared.fault.ParseFault.{ParseFault}
use Rattle.query_parser.specs.declared.fault.ParseFault.TheVariants as fault
use Rattle.query_parser.specs.declared.lexeme.Lexeme.{Lexeme}
use Rattle.query_parser.specs.declared.lexeme.Lexeme.TheVariants as lexeme

no_token : (b : Bool) → nat_lt (number_of (if b then lexeme.End else lexeme.Fault)) 47 ≡ true → ⊥
no_token true low = cc
no_token false low = cc

within_at : (text : List ℕ) (tokens : List Token) (at : ℕ) (o : Option Token) → slice_get tokens at ≡ o → nat_lt (number_of (lexeme_of_token text tokens at o)) 47 ≡ true → at < length tokens
within_at text tokens at (Some token) is low = slice_get_within tokens at token is
within_at text tokens at None is low = absurd (no_token (at == length tokens) low)

pub token_within : (text : List ℕ) (tokens : List Token) (at : ℕ) → IsTrue (is_token (lexeme_at text tokens at)) → at < length tokens
unfolding lexeme_at
token_within text tokens at low = within_at text tokens at (slice_get tokens at) refl low

pub stands_within : (text : List ℕ) (tokens : List Token) (at : ℕ) (wanted : Lexeme) → IsTrue (is_token wanted) → stands text tokens at wanted ≡ true → at < length tokens
stands_within text tokens at wanted low same =
    let e : number_of (lexeme_at text tokens at) ≡ number_of wanted = eqb-true (number_of (lexeme_at text tokens at)) (number_of wanted) same in
    token_within text tokens at (rw e low)

pub name_none : (text : List ℕ) (tokens : List Token) (at : ℕ) → is_name (lexeme_at text tokens at) ≡ false → name_at text tokens at ≡ None
unfolding name_at
name_none text tokens at unnamed = rw unnamed refl

no_name_token : (b : Bool) → is_name (if b then lexeme.End else lexeme.Fault) ≡ true → ⊥
no_name_token true is = cc
no_name_token false is = cc

folded_some : (text : List ℕ) (tokens : List Token) (at : ℕ) (o : Option Token) → is_name (lexeme_of_token text tokens at o) ≡ true → (name : List ℕ) × (folded_of true text o ≡ Some name)
folded_some text tokens at (Some token) is = (_, refl)
folded_some text tokens at None is = absurd (no_name_token (at == length tokens) is)

pub name_some : (text : List ℕ) (tokens : List Token) (at : ℕ) → is_name (lexeme_at text tokens at) ≡ true → (name : List ℕ) × (name_at text tokens at ≡ Some name)
unfolding name_at lexeme_at
name_some text tokens at named = rw named (folded_some text tokens at (slice_get tokens at) named)

module _ (with_params : Bool) (text : List ℕ) (tokens : List Token) (at : ℕ) where
  pub operand_of_value : (value : Operand) → is_name (lexeme_at text tokens at) ≡ false → value_at with_params text tokens at ≡ Ok value → IsOperand with_params text tokens at value (at + 1)
  operand_of_value value unnamed is = value_operand value (name_none text tokens at unnamed) is

  pub operand_in_column : (why : ParseFault) → is_name (lexeme_at text tokens at) ≡ true → ColumnFault text tokens at why → OperandFault with_params text tokens at why
  operand_in_column why named fault = let some = name_some text tokens at named in in_column some.0 why some.1 fault

  no_value_at : (found : Result Operand ParseFault) (why : ParseFault) → name_at text tokens at ≡ None → value_at with_params text tokens at ≡ found → IsNoValue found why → OperandFault with_params text tokens at why
  no_value_at found fault.Memory none is refusal = operand_memory
  no_value_at found (fault.Syntax place) none is refusal = no_value (fault.Syntax place) none (is ∙ refusal)
  no_value_at found (fault.UnknownFeature place) none is refusal = no_value (fault.UnknownFeature place) none (is ∙ refusal)
  no_value_at found (fault.IntTooLarge place) none is refusal = no_value (fault.IntTooLarge place) none (is ∙ refusal)
  no_value_at found (fault.TooDeep place) none is refusal = no_value (fault.TooDeep place) none (is ∙ refusal)
  no_value_at found (fault.TooManyParams place) none is refusal = no_value (fault.TooManyParams place) none (is ∙ refusal)
  no_value_at found (fault.NoParam place) none is refusal = no_value (fault.NoParam place) none (is ∙ refusal)

  pub operand_no_value : (why : ParseFault) → is_name (lexeme_at text tokens at) ≡ false → IsNoValue (value_at with_params text tokens at) why → OperandFault with_params text tokens at why
  operand_no_value why unnamed refusal = no_value_at (value_at with_params text tokens at) why (name_none text tokens at unnamed) refl refusal
