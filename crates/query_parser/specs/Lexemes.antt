-- What the tokens of a text are to the grammar of statements.
use Rattle.std.specs.Prelude.{Bool, true, false, ℕ, ◌==◌, ◌||◌, if◌then◌else◌, List, map, length, Option, Some, None, Result, Ok, Err, codes, slice_get}
use Rattle.std.specs.Char.{to_ascii_lowercase}
use Rattle.std.specs.Str.{bytes_eq}
use Rattle.word_tokens.specs.Words.{is_name_of, same_word_as}
use Rattle.word_tokens.specs.Tokens.{bytes_of}
use Rattle.word_tokens.specs.declared.token.Token.{Token}
use Rattle.word_tokens.specs.declared.token.TokenKind.{TokenKind}
use Rattle.word_tokens.specs.declared.token.TokenKind.TheVariants as kind
use Rattle.values.specs.declared.value.Value.TheVariants as value
use Rattle.vra_syntax.specs.declared.cond.Op.{Op}
use Rattle.vra_syntax.specs.declared.cond.Op.TheVariants as op
use Rattle.vra_syntax.specs.declared.cond.Operand.{Operand}
use Rattle.vra_syntax.specs.declared.cond.Operand.TheVariants as operand
use Rattle.query_parser.specs.declared.fault.ParseFault.{ParseFault}
use Rattle.query_parser.specs.declared.fault.ParseFault.TheVariants as fault
use Rattle.query_parser.specs.declared.lexeme.Lexeme.{Lexeme}
use Rattle.query_parser.specs.declared.lexeme.Lexeme.TheVariants as lexeme

-- the number of each, by which the grammar names it
abbrev pub number_of : Lexeme → ℕ
number_of lexeme.Or = 0
number_of lexeme.And = 1
number_of lexeme.Not = 2
number_of lexeme.True = 3
number_of lexeme.False = 4
number_of lexeme.Begin = 5
number_of lexeme.Commit = 6
number_of lexeme.Rollback = 7
number_of lexeme.Set = 8
number_of lexeme.Insert = 9
number_of lexeme.Delete = 10
number_of lexeme.Update = 11
number_of lexeme.Select = 12
number_of lexeme.Empty = 13
number_of lexeme.Choice = 14
number_of lexeme.As = 15
number_of lexeme.Except = 16
number_of lexeme.From = 17
number_of lexeme.Into = 18
number_of lexeme.Join = 19
number_of lexeme.On = 20
number_of lexeme.Union = 21
number_of lexeme.Values = 22
number_of lexeme.When = 23
number_of lexeme.Where = 24
number_of lexeme.Transaction = 25
number_of lexeme.Work = 26
number_of lexeme.To = 27
number_of lexeme.Name = 28
number_of lexeme.Word = 29
number_of lexeme.Integer = 30
number_of lexeme.Text = 31
number_of lexeme.Parameter = 32
number_of lexeme.Open = 33
number_of lexeme.Close = 34
number_of lexeme.OpenSquare = 35
number_of lexeme.CloseSquare = 36
number_of lexeme.Comma = 37
number_of lexeme.Semicolon = 38
number_of lexeme.Dot = 39
number_of lexeme.Star = 40
number_of lexeme.Equal = 41
number_of lexeme.NotEqual = 42
number_of lexeme.Less = 43
number_of lexeme.LessEqual = 44
number_of lexeme.Greater = 45
number_of lexeme.GreaterEqual = 46
number_of lexeme.End = 47
number_of lexeme.Fault = 48

-- a name, which may be one of the words that aren't reserved but have a meaning behind some others
abbrev pub lexeme_of_name : List ℕ → Lexeme
lexeme_of_name word =
    if same_word_as word (codes "transaction") then lexeme.Transaction else
    (if same_word_as word (codes "work") then lexeme.Work else
    (if same_word_as word (codes "to") then lexeme.To else lexeme.Name))

-- a reserved word that stands inside a statement, or a word that has no place in one
abbrev pub lexeme_of_inner : List ℕ → Lexeme
lexeme_of_inner word =
    if same_word_as word (codes "as") then lexeme.As else
    (if same_word_as word (codes "except") then lexeme.Except else
    (if same_word_as word (codes "from") then lexeme.From else
    (if same_word_as word (codes "into") then lexeme.Into else
    (if same_word_as word (codes "join") then lexeme.Join else
    (if same_word_as word (codes "on") then lexeme.On else
    (if same_word_as word (codes "union") then lexeme.Union else
    (if same_word_as word (codes "values") then lexeme.Values else
    (if same_word_as word (codes "when") then lexeme.When else
    (if same_word_as word (codes "where") then lexeme.Where else lexeme.Word)))))))))

-- a word that isn't a name
abbrev pub lexeme_of_reserved : List ℕ → Lexeme
lexeme_of_reserved word =
    if same_word_as word (codes "begin") then lexeme.Begin else
    (if same_word_as word (codes "commit") then lexeme.Commit else
    (if same_word_as word (codes "rollback") then lexeme.Rollback else
    (if same_word_as word (codes "set") then lexeme.Set else
    (if same_word_as word (codes "insert") then lexeme.Insert else
    (if same_word_as word (codes "delete") then lexeme.Delete else
    (if same_word_as word (codes "update") then lexeme.Update else
    (if same_word_as word (codes "select") then lexeme.Select else
    (if same_word_as word (codes "empty") then lexeme.Empty else
    (if same_word_as word (codes "choice") then lexeme.Choice else lexeme_of_inner word)))))))))

-- a word of any kind
abbrev pub lexeme_of_word : List ℕ → Lexeme
lexeme_of_word word =
    if same_word_as word (codes "or") then lexeme.Or else
    (if same_word_as word (codes "and") then lexeme.And else
    (if same_word_as word (codes "not") then lexeme.Not else
    (if same_word_as word (codes "true") then lexeme.True else
    (if same_word_as word (codes "false") then lexeme.False else
    (if is_name_of word then lexeme_of_name word else lexeme_of_reserved word)))))

abbrev pub is_unequal : List ℕ → Bool
is_unequal mark = bytes_eq mark (codes "<>") || bytes_eq mark (codes "!=")

abbrev pub lexeme_of_comparison : List ℕ → Lexeme
lexeme_of_comparison mark =
    if bytes_eq mark (codes "=") then lexeme.Equal else
    (if is_unequal mark then lexeme.NotEqual else
    (if bytes_eq mark (codes "<") then lexeme.Less else
    (if bytes_eq mark (codes "<=") then lexeme.LessEqual else
    (if bytes_eq mark (codes ">") then lexeme.Greater else
    (if bytes_eq mark (codes ">=") then lexeme.GreaterEqual else lexeme.Fault)))))

abbrev pub lexeme_of_mark : List ℕ → Lexeme
lexeme_of_mark mark =
    if bytes_eq mark (codes "(") then lexeme.Open else
    (if bytes_eq mark (codes ")") then lexeme.Close else
    (if bytes_eq mark (codes "[") then lexeme.OpenSquare else
    (if bytes_eq mark (codes "]") then lexeme.CloseSquare else
    (if bytes_eq mark (codes ",") then lexeme.Comma else
    (if bytes_eq mark (codes ";") then lexeme.Semicolon else
    (if bytes_eq mark (codes ".") then lexeme.Dot else
    (if bytes_eq mark (codes "*") then lexeme.Star else lexeme_of_comparison mark)))))))

abbrev pub lexeme_of_kind : TokenKind → List ℕ → Lexeme
lexeme_of_kind kind.Word bytes = lexeme_of_word bytes
lexeme_of_kind (kind.Integer number) bytes = lexeme.Integer
lexeme_of_kind (kind.Text text) bytes = lexeme.Text
lexeme_of_kind (kind.Param number) bytes = lexeme.Parameter
lexeme_of_kind kind.Sign bytes = lexeme_of_mark bytes
lexeme_of_kind kind.Bad bytes = lexeme.Fault

abbrev pub lexeme_of_token : List ℕ → List Token → ℕ → Option Token → Lexeme
lexeme_of_token text tokens at (Some token) = lexeme_of_kind token.kind (bytes_of text token)
lexeme_of_token text tokens at None = if at == length tokens then lexeme.End else lexeme.Fault

-- what the token at a place is; one behind the last stands the end of the text
unfoldable pub lexeme_at : List ℕ → List Token → ℕ → Lexeme
lexeme_at text tokens at = lexeme_of_token text tokens at (slice_get tokens at)

-- whether it is this one
abbrev pub stands : List ℕ → List Token → ℕ → Lexeme → Bool
stands text tokens at wanted = number_of (lexeme_at text tokens at) == number_of wanted

-- whether it may stand as a name
abbrev pub is_name : Lexeme → Bool
is_name lexeme.Transaction = true
is_name lexeme.Work = true
is_name lexeme.To = true
is_name lexeme.Name = true
is_name _ = false

abbrev pub folded_of : Bool → List ℕ → Option Token → Option (List ℕ)
folded_of true text (Some token) = Some (map to_ascii_lowercase (bytes_of text token))
folded_of true text None = None
folded_of false text token = None

-- the name of a table, a column or an alias that the token at a place is; its case doesn't count
unfoldable pub name_at : List ℕ → List Token → ℕ → Option (List ℕ)
name_at text tokens at = folded_of (is_name (lexeme_at text tokens at)) text (slice_get tokens at)

-- how a sign compares
abbrev pub op_of : Lexeme → Option Op
op_of lexeme.Equal = Some op.Eq
op_of lexeme.NotEqual = Some op.Ne
op_of lexeme.Less = Some op.Lt
op_of lexeme.LessEqual = Some op.Le
op_of lexeme.Greater = Some op.Gt
op_of lexeme.GreaterEqual = Some op.Ge
op_of _ = None

abbrev pub op_at : List ℕ → List Token → ℕ → Option Op
op_at text tokens at = op_of (lexeme_at text tokens at)

abbrev pub truth_of : ℕ → List ℕ → Result Operand ParseFault
truth_of at word =
    if same_word_as word (codes "true") then Ok (operand.Literal (value.Bool true)) else
    (if same_word_as word (codes "false") then Ok (operand.Literal (value.Bool false)) else Err (fault.Syntax at))

abbrev pub value_of_kind : Bool → ℕ → TokenKind → List ℕ → Result Operand ParseFault
value_of_kind with_params at (kind.Integer (Some number)) bytes = Ok (operand.Literal (value.Int number))
value_of_kind with_params at (kind.Integer None) bytes = Err (fault.IntTooLarge at)
value_of_kind with_params at (kind.Text text) bytes = Ok (operand.Literal (value.Text text))
value_of_kind with_params at (kind.Param (Some number)) bytes = if with_params then Ok (operand.Param number) else Err (fault.NoParam at)
value_of_kind with_params at (kind.Param None) bytes = Err (fault.TooManyParams at)
value_of_kind with_params at kind.Word bytes = truth_of at bytes
value_of_kind with_params at kind.Sign bytes = Err (fault.Syntax at)
value_of_kind with_params at kind.Bad bytes = Err (fault.Syntax at)

abbrev pub value_of : Bool → List ℕ → ℕ → Option Token → Result Operand ParseFault
value_of with_params text at (Some token) = value_of_kind with_params at token.kind (bytes_of text token)
value_of with_params text at None = Err (fault.Syntax at)

-- the value that the token at a place is: a literal, or a parameter where the text may have some; or why it is none
unfoldable pub value_at : Bool → List ℕ → List Token → ℕ → Result Operand ParseFault
value_at with_params text tokens at = value_of with_params text at (slice_get tokens at)
