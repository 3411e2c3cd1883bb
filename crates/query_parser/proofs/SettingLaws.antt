-- Which tokens are words, integers and neither.
use Rattle.std.proofs.Common.{Bool, true, false, ◌≡◌, ℕ, ℤ, ◌+◌, ◌==◌, ◌||◌, if◌then◌else◌, List, length, Option, Some, None, Ok, Err, codes, nat_lt, slice_get, refl}
use Rattle.std.proofs.lemmas.Bool.{eqb-true}
use Rattle.std.specs.Str.{bytes_eq}
use Rattle.word_tokens.specs.Words.{is_name_of, same_word_as}
use Rattle.word_tokens.specs.Tokens.{bytes_of}
use Rattle.word_tokens.specs.declared.token.Token.{Token}
use Rattle.word_tokens.specs.declared.token.TokenKind.{TokenKind}
use Rattle.word_tokens.specs.declared.token.TokenKind.TheVariants as kind
use Rattle.values.specs.declared.value.Value.TheVariants as value
use Rattle.vra_syntax.specs.declared.cond.Operand.TheVariants as operand
use Rattle.query_parser.specs.Lexemes.{number_of, lexeme_of_name, lexeme_of_inner, lexeme_of_reserved, lexeme_of_word, is_unequal, lexeme_of_comparison, lexeme_of_mark, lexeme_of_kind, lexeme_of_token, lexeme_at, stands, value_of_kind, value_of, value_at}
use Rattle.query_parser.specs.Settings.{integer_of, integer_in, integer_at}
use Rattle.query_parser.specs.StatementGrammar.{is_word}
use Rattle.query_parser.specs.Statements.{IsSetting, integer_setting}
use Rattle.query_parser.specs.WriteFaults.{SettingFault, setting_too_large}
use Rattle.query_parser.specs.declared.fault.ParseFault.TheVariants as fault
use Rattle.query_parser.specs.declared.lexeme.Lexeme.{Lexeme}
use Rattle.query_parser.specs.declared.lexeme.Lexeme.TheVariants as lexeme

record Passes (p : Lexeme → Bool) (l : Lexeme) : Type 0 where
  passes : p l ≡ true

picked : (p : Lexeme → Bool) (b : Bool) (x y : Lexeme) → p x ≡ true → Passes p y → Passes p (if b then x else y)
picked p true x y is other = record { passes = is }
picked p false x y is other = other

passing : (p : Lexeme → Bool) (l : Lexeme) → p l ≡ true → Passes p l
passing p l is = record { passes = is }

inner_is_word : (word : List ℕ) → Passes is_word (lexeme_of_inner word)
inner_is_word word = picked is_word (same_word_as word (codes "as")) lexeme.As _ refl (picked is_word (same_word_as word (codes "except")) lexeme.Except _ refl (picked is_word (same_word_as word (codes "from")) lexeme.From _ refl (picked is_word (same_word_as word (codes "into")) lexeme.Into _ refl (picked is_word (same_word_as word (codes "join")) lexeme.Join _ refl (picked is_word (same_word_as word (codes "on")) lexeme.On _ refl (picked is_word (same_word_as word (codes "union")) lexeme.Union _ refl (picked is_word (same_word_as word (codes "values")) lexeme.Values _ refl (picked is_word (same_word_as word (codes "when")) lexeme.When _ refl (picked is_word (same_word_as word (codes "where")) lexeme.Where _ refl (passing is_word lexeme.Word refl))))))))))

reserved_is_word : (word : List ℕ) → Passes is_word (lexeme_of_reserved word)
reserved_is_word word = picked is_word (same_word_as word (codes "begin")) lexeme.Begin _ refl (picked is_word (same_word_as word (codes "commit")) lexeme.Commit _ refl (picked is_word (same_word_as word (codes "rollback")) lexeme.Rollback _ refl (picked is_word (same_word_as word (codes "set")) lexeme.Set _ refl (picked is_word (same_word_as word (codes "insert")) lexeme.Insert _ refl (picked is_word (same_word_as word (codes "delete")) lexeme.Delete _ refl (picked is_word (same_word_as word (codes "update")) lexeme.Update _ refl (picked is_word (same_word_as word (codes "select")) lexeme.Select _ refl (picked is_word (same_word_as word (codes "empty")) lexeme.Empty _ refl (picked is_word (same_word_as word (codes "choice")) lexeme.Choice _ refl (inner_is_word word))))))))))

name_is_word : (word : List ℕ) → Passes is_word (lexeme_of_name word)
name_is_word word = picked is_word (same_word_as word (codes "transaction")) lexeme.Transaction _ refl (picked is_word (same_word_as word (codes "work")) lexeme.Work _ refl (picked is_word (same_word_as word (codes "to")) lexeme.To _ refl (passing is_word lexeme.Name refl)))

word_is_word : (word : List ℕ) → Passes is_word (lexeme_of_word word)
word_is_word word = picked is_word (same_word_as word (codes "or")) lexeme.Or _ refl (picked is_word (same_word_as word (codes "and")) lexeme.And _ refl (picked is_word (same_word_as word (codes "not")) lexeme.Not _ refl (picked is_word (same_word_as word (codes "true")) lexeme.True _ refl (picked is_word (same_word_as word (codes "false")) lexeme.False _ refl (picked is_word (is_name_of word) (lexeme_of_name word) _ (name_is_word word).passes (reserved_is_word word))))))

-- a sign, or a fault of a token
abbrev is_mark : Lexeme → Bool
is_mark l = nat_lt 32 (number_of l)

comparison_is_mark : (mark : List ℕ) → Passes is_mark (lexeme_of_comparison mark)
comparison_is_mark mark = picked is_mark (bytes_eq mark (codes "=")) lexeme.Equal _ refl (picked is_mark (is_unequal mark) lexeme.NotEqual _ refl (picked is_mark (bytes_eq mark (codes "<")) lexeme.Less _ refl (picked is_mark (bytes_eq mark (codes "<=")) lexeme.LessEqual _ refl (picked is_mark (bytes_eq mark (codes ">")) lexeme.Greater _ refl (picked is_mark (bytes_eq mark (codes ">=")) lexeme.GreaterEqual _ refl (passing is_mark lexeme.Fault refl))))))

mark_is_mark : (mark : List ℕ) → Passes is_mark (lexeme_of_mark mark)
mark_is_mark mark = picked is_mark (bytes_eq mark (codes "(")) lexeme.Open _ refl (picked is_mark (bytes_eq mark (codes ")")) lexeme.Close _ refl (picked is_mark (bytes_eq mark (codes "[")) lexeme.OpenSquare _ refl (picked is_mark (bytes_eq mark (codes "]")) lexeme.CloseSquare _ refl (picked is_mark (bytes_eq mark (codes ",")) lexeme.Comma _ refl (picked is_mark (bytes_eq mark (codes ";")) lexeme.Semicolon _ refl (picked is_mark (bytes_eq mark (codes ".")) lexeme.Dot _ refl (picked is_mark (bytes_eq mark (codes "*")) lexeme.Star _ refl (comparison_is_mark mark))))))))

no_integer_word : (word : List ℕ) → number_of (lexeme_of_word word) == 30 ≡ true → ⊥
no_integer_word word is =
    let e : number_of (lexeme_of_word word) ≡ 30 = eqb-true (number_of (lexeme_of_word word)) 30 is in
    let low : nat_lt 30 30 ≡ true = rw e at (word_is_word word).passes in
    cc low

no_integer_mark : (mark : List ℕ) → number_of (lexeme_of_mark mark) == 30 ≡ true → ⊥
no_integer_mark mark is =
    let e : number_of (lexeme_of_mark mark) ≡ 30 = eqb-true (number_of (lexeme_of_mark mark)) 30 is in
    let high : nat_lt 32 30 ≡ true = rw e at (mark_is_mark mark).passes in
    cc high

no_integer_behind : (b : Bool) → number_of (if b then lexeme.End else lexeme.Fault) == 30 ≡ true → ⊥
no_integer_behind true is = cc
no_integer_behind false is = cc

module _ (with_params : Bool) (text : List ℕ) (tokens : List Token) (at : ℕ) where
  value_of_number : (bytes : List ℕ) (k : TokenKind) (number : ℤ) → number_of (lexeme_of_kind k bytes) == 30 ≡ true → integer_of k ≡ Some number → value_of_kind with_params at k bytes ≡ Ok (operand.Literal (value.Int number))
  value_of_number bytes kind.Word number is some = absurd (no_integer_word bytes is)
  value_of_number bytes (kind.Integer (Some n)) number is some = cc some
  value_of_number bytes (kind.Integer None) number is some = cc
  value_of_number bytes (kind.Text t) number is some = cc
  value_of_number bytes (kind.Param p) number is some = cc
  value_of_number bytes kind.Sign number is some = absurd (no_integer_mark bytes is)
  value_of_number bytes kind.Bad number is some = cc

  no_number : (bytes : List ℕ) (k : TokenKind) → number_of (lexeme_of_kind k bytes) == 30 ≡ true → integer_of k ≡ None → value_of_kind with_params at k bytes ≡ Err (fault.IntTooLarge at)
  no_number bytes kind.Word is none = absurd (no_integer_word bytes is)
  no_number bytes (kind.Integer (Some n)) is none = cc
  no_number bytes (kind.Integer None) is none = refl
  no_number bytes (kind.Text t) is none = cc
  no_number bytes (kind.Param p) is none = cc
  no_number bytes kind.Sign is none = absurd (no_integer_mark bytes is)
  no_number bytes kind.Bad is none = cc

  value_of_integer : (o : Option Token) (number : ℤ) → number_of (lexeme_of_token text tokens at o) == 30 ≡ true → integer_in o ≡ Some number → value_of with_params text at o ≡ Ok (operand.Literal (value.Int number))
  value_of_integer (Some token) number is some = value_of_number (bytes_of text token) token.kind number is some
  value_of_integer None number is some = cc

  no_integer : (o : Option Token) → number_of (lexeme_of_token text tokens at o) == 30 ≡ true → integer_in o ≡ None → value_of with_params text at o ≡ Err (fault.IntTooLarge at)
  no_integer (Some token) is none = no_number (bytes_of text token) token.kind is none
  no_integer None is none = absurd (no_integer_behind (at == length tokens) is)

  -- an integer in range is the value of a setting
  pub integer_is_setting : (number : ℤ) → stands text tokens at lexeme.Integer ≡ true → integer_at tokens at ≡ Some number → IsSetting with_params text tokens at
  unfolding lexeme_at value_at
  integer_is_setting number is some = integer_setting (operand.Literal (value.Int number)) is (value_of_integer (slice_get tokens at) number is some)

  integer_too_large : stands text tokens at lexeme.Integer ≡ true → integer_at tokens at ≡ None → value_at with_params text tokens at ≡ Err (fault.IntTooLarge at)
  unfolding lexeme_at value_at
  integer_too_large is none = no_integer (slice_get tokens at) is none

module _ (with_params : Bool) (text : List ℕ) (tokens : List Token) (at : ℕ) where
  pub setting_refused : is_word (lexeme_at text tokens at) ≡ true → stands text tokens (at + 1) lexeme.To || stands text tokens (at + 1) lexeme.Equal ≡ true → stands text tokens (at + 2) lexeme.Integer ≡ true → integer_at tokens (at + 2) ≡ None → SettingFault with_params text tokens at (fault.IntTooLarge (at + 2))
  setting_refused word to integer none = setting_too_large (fault.IntTooLarge (at + 2)) word to integer (integer_too_large with_params text tokens (at + 2) integer none)
