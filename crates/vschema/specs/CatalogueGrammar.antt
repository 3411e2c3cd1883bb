-- The grammar of a catalogue's file, round that of feature expressions, and up to which token a file goes on it.
use Rattle.std.specs.Prelude.{Bool, false, ℕ, ◌+◌, ◌<◌, ◌==◌, if◌then◌else◌, List, [], ◌∷◌, length, is_some}
use Rattle.word_tokens.specs.Grammar.{Symbol, Terminal, Nonterminal, Matches}
use Rattle.feature_expr.specs.ExprGrammar.{Part, Mark, Outer, Foreign, Disjunction, forms, fits}
use Rattle.word_tokens.specs.declared.token.Token.{Token}
use Rattle.feature_expr.specs.Nesting.{nesting_limit}
use Rattle.vschema.specs.Words.{stands, spelled_name_at, kind_at, value_at}
use Rattle.vschema.specs.declared.fault.CatalogFault.{CatalogFault}
use Rattle.vschema.specs.declared.fault.CatalogFault.TheVariants as fault
use Rattle.vschema.specs.declared.words.Sign.TheVariants as sign

-- the signs, by their numbers: the words and signs that stand for themselves, a name, the name of a kind, a value and
-- the end of the text
abbrev pub fitting : List ℕ → List Token → ℕ → ℕ → Bool
fitting text tokens number at =
    if number == 0 then stands text tokens at sign.Features else
    (if number == 1 then stands text tokens at sign.Model else
    (if number == 2 then stands text tokens at sign.Table else
    (if number == 3 then stands text tokens at sign.Row else
    (if number == 4 then stands text tokens at sign.When else
    (if number == 5 then stands text tokens at sign.Open else
    (if number == 6 then stands text tokens at sign.Close else
    (if number == 7 then stands text tokens at sign.Comma else
    (if number == 8 then stands text tokens at sign.Semicolon else
    (if number == 9 then is_some (spelled_name_at text tokens at) else
    (if number == 10 then is_some (kind_at text tokens at) else
    (if number == 11 then is_some (value_at text tokens at) else
    (if number == 12 then at == length tokens else false))))))))))))

abbrev pub Form : Type 0
Form = List (Symbol Part Mark)

abbrev pub FEATURES : Symbol Part Mark
FEATURES = Terminal (Foreign 0)

abbrev pub MODEL : Symbol Part Mark
MODEL = Terminal (Foreign 1)

abbrev pub TABLE : Symbol Part Mark
TABLE = Terminal (Foreign 2)

abbrev pub ROW : Symbol Part Mark
ROW = Terminal (Foreign 3)

abbrev pub WHEN : Symbol Part Mark
WHEN = Terminal (Foreign 4)

abbrev pub OPEN : Symbol Part Mark
OPEN = Terminal (Foreign 5)

abbrev pub CLOSE : Symbol Part Mark
CLOSE = Terminal (Foreign 6)

abbrev pub COMMA : Symbol Part Mark
COMMA = Terminal (Foreign 7)

abbrev pub SEMICOLON : Symbol Part Mark
SEMICOLON = Terminal (Foreign 8)

abbrev pub NAME : Symbol Part Mark
NAME = Terminal (Foreign 9)

abbrev pub KIND : Symbol Part Mark
KIND = Terminal (Foreign 10)

abbrev pub VALUE : Symbol Part Mark
VALUE = Terminal (Foreign 11)

abbrev pub END : Symbol Part Mark
END = Terminal (Foreign 12)

abbrev pub Names : Symbol Part Mark
Names = Nonterminal (Outer 0 0)

abbrev pub MoreNames : Symbol Part Mark
MoreNames = Nonterminal (Outer 1 0)

abbrev pub ModelLine : Symbol Part Mark
ModelLine = Nonterminal (Outer 2 0)

abbrev pub Entries : Symbol Part Mark
Entries = Nonterminal (Outer 3 0)

abbrev pub Columns : Symbol Part Mark
Columns = Nonterminal (Outer 4 0)

abbrev pub MoreColumns : Symbol Part Mark
MoreColumns = Nonterminal (Outer 5 0)

abbrev pub Cells : Symbol Part Mark
Cells = Nonterminal (Outer 6 0)

abbrev pub MoreCells : Symbol Part Mark
MoreCells = Nonterminal (Outer 7 0)

abbrev pub InnerWhen : Symbol Part Mark
InnerWhen = Nonterminal (Outer 8 0)

abbrev pub When : Symbol Part Mark
When = Nonterminal (Outer 9 0)

-- an expression, where so many brackets are open
abbrev pub Expression : ℕ → Symbol Part Mark
Expression nesting = Nonterminal (Disjunction nesting)

-- the forms of each part, by its number; lists end with the sign behind them
abbrev pub outer : ℕ → ℕ → List Form
outer number nesting =
    if number == 0 then (SEMICOLON ∷ []) ∷ (NAME ∷ MoreNames ∷ []) ∷ [] else
    (if number == 1 then (SEMICOLON ∷ []) ∷ (COMMA ∷ NAME ∷ MoreNames ∷ []) ∷ [] else
    (if number == 2 then [] ∷ (MODEL ∷ Expression 0 ∷ SEMICOLON ∷ []) ∷ [] else
    (if number == 3 then (END ∷ []) ∷ (TABLE ∷ NAME ∷ OPEN ∷ Columns ∷ When ∷ SEMICOLON ∷ Entries ∷ []) ∷ (ROW ∷ NAME ∷ OPEN ∷ Cells ∷ When ∷ SEMICOLON ∷ Entries ∷ []) ∷ [] else
    (if number == 4 then (NAME ∷ KIND ∷ InnerWhen ∷ MoreColumns ∷ []) ∷ [] else
    (if number == 5 then (CLOSE ∷ []) ∷ (COMMA ∷ Columns ∷ []) ∷ [] else
    (if number == 6 then (NAME ∷ VALUE ∷ MoreCells ∷ []) ∷ [] else
    (if number == 7 then (CLOSE ∷ []) ∷ (COMMA ∷ Cells ∷ []) ∷ [] else
    (if number == 8 then [] ∷ (WHEN ∷ Expression 1 ∷ []) ∷ [] else
    (if number == 9 then [] ∷ (WHEN ∷ Expression 0 ∷ []) ∷ [] else [])))))))))

-- these open symbols match the tokens from one place to another
abbrev pub Goes : List ℕ → List Token → Form → ℕ → ℕ → Type 0
Goes text tokens symbols at to = Matches (forms outer nesting_limit) (fits (fitting text tokens) text tokens) symbols at to

-- so many tokens begin a catalogue. The end of the text counts as a token, so that one token more than there are make a
-- whole one.
abbrev pub IsViable : List ℕ → List Token → ℕ → Type 0
IsViable text tokens to = Goes text tokens (FEATURES ∷ Names ∷ ModelLine ∷ Entries ∷ []) 0 to

-- the tokens before this one begin a catalogue, and with it they don't
pub record IsFirstFileFault (text : List ℕ) (tokens : List Token) (at : ℕ) : Type 0 where
  pub before : IsViable text tokens at
  pub never : (to : ℕ) → at < to → IsViable text tokens to → ⊥

-- a syntax fault stands at the first token with which the file is no catalogue's beginning, and each other fault at a
-- token that could stand there
abbrev pub IsViableFault : List ℕ → List Token → CatalogFault → Type 0
IsViableFault text tokens (fault.Syntax at) = IsFirstFileFault text tokens at
IsViableFault text tokens (fault.Duplicate at) = IsViable text tokens (at + 1)
IsViableFault text tokens (fault.UnknownFeature at) = IsViable text tokens (at + 1)
IsViableFault text tokens (fault.UnknownName at) = IsViable text tokens (at + 1)
IsViableFault text tokens (fault.WrongKind at) = IsViable text tokens (at + 1)
IsViableFault text tokens (fault.Limit at which) = IsViable text tokens (at + 1)
IsViableFault text tokens fault.Memory = Unit {0}
