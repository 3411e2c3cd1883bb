-- The grammar of statements, round that of feature expressions, and which tokens begin a text of it.
use Rattle.std.specs.Prelude.{Bool, true, false, ℕ, ◌+◌, ◌-◌, ◌<◌, ◌≤◌, ◌==◌, if◌then◌else◌, List, [], ◌∷◌, is_some, nat_lt}
use Rattle.word_tokens.specs.Grammar.{Symbol, Terminal, Nonterminal, Matches}
use Rattle.feature_expr.specs.ExprGrammar.{Part, Mark, Outer, Foreign, Disjunction, forms, fits}
use Rattle.word_tokens.specs.declared.token.Token.{Token}
use Rattle.query_parser.specs.Lexemes.{number_of, lexeme_at, is_name, op_of}
use Rattle.query_parser.specs.declared.fault.ParseFault.{ParseFault}
use Rattle.query_parser.specs.declared.fault.ParseFault.TheVariants as fault
use Rattle.query_parser.specs.declared.lexeme.Lexeme.{Lexeme}
use Rattle.query_parser.specs.declared.lexeme.Lexeme.TheVariants as lexeme
use Rattle.feature_expr.specs.Nesting.{nesting_limit}

-- a word, reserved or not
abbrev pub is_word : Lexeme → Bool
is_word l = nat_lt (number_of l) (number_of lexeme.Integer)

-- which signs of the grammar a token stands for: the numbers of tokens that stand for themselves, and then a name, any
-- word and a comparison
abbrev pub takes : ℕ → Lexeme → Bool
takes number l =
    if number == 100 then is_name l else
    (if number == 101 then is_word l else
    (if number == 102 then is_some (op_of l) else number_of l == number))

abbrev pub fitting : List ℕ → List Token → ℕ → ℕ → Bool
fitting text tokens number at = takes number (lexeme_at text tokens at)

abbrev pub Form : Type 0
Form = List (Symbol Part Mark)

-- a token that stands for itself
abbrev pub Sign : Lexeme → Symbol Part Mark
Sign l = Terminal (Foreign (number_of l))

abbrev pub NAME : Symbol Part Mark
NAME = Terminal (Foreign 100)

abbrev pub WORD : Symbol Part Mark
WORD = Terminal (Foreign 101)

abbrev pub COMPARISON : Symbol Part Mark
COMPARISON = Terminal (Foreign 102)

-- an expression, where so many brackets, `not` and choices are open
abbrev pub Expression : ℕ → Symbol Part Mark
Expression nesting = Nonterminal (Disjunction nesting)

-- texts and statements
abbrev pub Statements : Symbol Part Mark
Statements = Nonterminal (Outer 0 0)

abbrev pub MoreStatements : Symbol Part Mark
MoreStatements = Nonterminal (Outer 1 0)

abbrev pub StatementPart : Symbol Part Mark
StatementPart = Nonterminal (Outer 2 0)

abbrev pub Tail : Symbol Part Mark
Tail = Nonterminal (Outer 3 0)

abbrev pub SetSign : Symbol Part Mark
SetSign = Nonterminal (Outer 4 0)

abbrev pub SetValue : Symbol Part Mark
SetValue = Nonterminal (Outer 5 0)

-- queries, each with the number of brackets, `not` and choices that are open
abbrev pub QueryPart : ℕ → Symbol Part Mark
QueryPart n = Nonterminal (Outer 6 n)

abbrev pub MoreQuery : ℕ → Symbol Part Mark
MoreQuery n = Nonterminal (Outer 7 n)

abbrev pub Term : ℕ → Symbol Part Mark
Term n = Nonterminal (Outer 8 n)

-- a table, `empty`, a query in brackets or a choice
abbrev pub Simple : ℕ → Symbol Part Mark
Simple n = Nonterminal (Outer 9 n)

abbrev pub QuerySides : ℕ → Symbol Part Mark
QuerySides n = Nonterminal (Outer 10 n)

abbrev pub ItemsPart : ℕ → Symbol Part Mark
ItemsPart n = Nonterminal (Outer 11 n)

abbrev pub ItemPart : ℕ → Symbol Part Mark
ItemPart n = Nonterminal (Outer 12 n)

abbrev pub MoreItems : ℕ → Symbol Part Mark
MoreItems n = Nonterminal (Outer 13 n)

abbrev pub Rename : Symbol Part Mark
Rename = Nonterminal (Outer 14 0)

abbrev pub When : ℕ → Symbol Part Mark
When n = Nonterminal (Outer 15 n)

abbrev pub SourcePart : ℕ → Symbol Part Mark
SourcePart n = Nonterminal (Outer 16 n)

abbrev pub MoreSource : ℕ → Symbol Part Mark
MoreSource n = Nonterminal (Outer 17 n)

abbrev pub SourceTerm : ℕ → Symbol Part Mark
SourceTerm n = Nonterminal (Outer 18 n)

abbrev pub Alias : Symbol Part Mark
Alias = Nonterminal (Outer 19 0)

abbrev pub Where : ℕ → Symbol Part Mark
Where n = Nonterminal (Outer 20 n)

-- conditions
abbrev pub CondPart : ℕ → Symbol Part Mark
CondPart n = Nonterminal (Outer 21 n)

abbrev pub MoreOr : ℕ → Symbol Part Mark
MoreOr n = Nonterminal (Outer 22 n)

abbrev pub CondConjunction : ℕ → Symbol Part Mark
CondConjunction n = Nonterminal (Outer 23 n)

abbrev pub MoreAnd : ℕ → Symbol Part Mark
MoreAnd n = Nonterminal (Outer 24 n)

abbrev pub CondNegation : ℕ → Symbol Part Mark
CondNegation n = Nonterminal (Outer 25 n)

abbrev pub CondSides : ℕ → Symbol Part Mark
CondSides n = Nonterminal (Outer 26 n)

-- behind `true` or `false`, which is a value where a comparison follows
abbrev pub AfterTruth : Symbol Part Mark
AfterTruth = Nonterminal (Outer 27 0)

abbrev pub OperandPart : Symbol Part Mark
OperandPart = Nonterminal (Outer 28 0)

abbrev pub ColumnPart : Symbol Part Mark
ColumnPart = Nonterminal (Outer 29 0)

abbrev pub Prefixed : Symbol Part Mark
Prefixed = Nonterminal (Outer 30 0)

-- writes
abbrev pub ValuePart : Symbol Part Mark
ValuePart = Nonterminal (Outer 31 0)

-- behind so many names of an insert
abbrev pub MoreNames : ℕ → Symbol Part Mark
MoreNames count = Nonterminal (Outer 32 count)

abbrev pub TuplePart : ℕ → Symbol Part Mark
TuplePart count = Nonterminal (Outer 33 count)

-- where a tuple may be closed at 1, has to go on above it, and can't be closed any more at 0
abbrev pub MoreValues : ℕ → Symbol Part Mark
MoreValues wanted = Nonterminal (Outer 34 wanted)

abbrev pub MoreTuples : ℕ → Symbol Part Mark
MoreTuples count = Nonterminal (Outer 35 count)

abbrev pub SetPart : Symbol Part Mark
SetPart = Nonterminal (Outer 36 0)

abbrev pub MoreSets : Symbol Part Mark
MoreSets = Nonterminal (Outer 37 0)

-- the forms of a text and of a statement
abbrev pub statement_forms : ℕ → List Form
statement_forms number =
    if number == 0 then (Sign lexeme.End ∷ []) ∷ (Sign lexeme.Semicolon ∷ Statements ∷ []) ∷ (StatementPart ∷ MoreStatements ∷ []) ∷ [] else
    (if number == 1 then (Sign lexeme.End ∷ []) ∷ (Sign lexeme.Semicolon ∷ Statements ∷ []) ∷ [] else
    (if number == 2 then
    (Sign lexeme.Begin ∷ Tail ∷ []) ∷ (Sign lexeme.Commit ∷ Tail ∷ []) ∷ (Sign lexeme.Rollback ∷ Tail ∷ []) ∷ (Sign lexeme.Set ∷ WORD ∷ SetSign ∷ SetValue ∷ [])
    ∷ (Sign lexeme.Insert ∷ Sign lexeme.Into ∷ NAME ∷ Sign lexeme.Open ∷ NAME ∷ MoreNames 1 ∷ When 0 ∷ []) ∷ (Sign lexeme.Delete ∷ Sign lexeme.From ∷ NAME ∷ Where 0 ∷ When 0 ∷ [])
    ∷ (Sign lexeme.Update ∷ NAME ∷ Sign lexeme.Set ∷ SetPart ∷ MoreSets ∷ Where 0 ∷ When 0 ∷ []) ∷ (QueryPart 0 ∷ []) ∷ [] else
    (if number == 3 then [] ∷ (Sign lexeme.Transaction ∷ []) ∷ (Sign lexeme.Work ∷ []) ∷ [] else
    (if number == 4 then (Sign lexeme.To ∷ []) ∷ (Sign lexeme.Equal ∷ []) ∷ [] else
    (if number == 5 then (WORD ∷ []) ∷ (Sign lexeme.Integer ∷ []) ∷ (Sign lexeme.Text ∷ []) ∷ [] else [])))))

-- what opens one more level, where that is within the limit
abbrev pub within : Bool → List Form → List Form
within true forms = forms
within false forms = []

-- the forms of the parts of a query
abbrev pub query_forms : ℕ → ℕ → ℕ → List Form
query_forms limit number n =
    if number == 6 then (Term n ∷ MoreQuery n ∷ []) ∷ [] else
    (if number == 7 then [] ∷ (Sign lexeme.Union ∷ Term n ∷ MoreQuery n ∷ []) ∷ (Sign lexeme.Except ∷ Term n ∷ MoreQuery n ∷ []) ∷ [] else
    (if number == 8 then (Sign lexeme.Select ∷ ItemsPart n ∷ Sign lexeme.From ∷ SourcePart n ∷ Where n ∷ []) ∷ (Simple n ∷ []) ∷ [] else
    (if number == 9 then
    (NAME ∷ []) ∷ (Sign lexeme.Empty ∷ [])
    ∷ within (nat_lt n limit) ((Sign lexeme.Open ∷ QueryPart (n + 1) ∷ Sign lexeme.Close ∷ []) ∷ (Sign lexeme.Choice ∷ Sign lexeme.OpenSquare ∷ Expression (n + 1) ∷ Sign lexeme.CloseSquare ∷ QuerySides (n + 1) ∷ []) ∷ []) else
    (if number == 10 then within (nat_lt n limit) ((Sign lexeme.Open ∷ QueryPart (n + 1) ∷ Sign lexeme.Comma ∷ QueryPart (n + 1) ∷ Sign lexeme.Close ∷ []) ∷ []) else
    (if number == 11 then (Sign lexeme.Star ∷ []) ∷ (ItemPart n ∷ MoreItems n ∷ []) ∷ [] else
    (if number == 12 then (ColumnPart ∷ Rename ∷ When n ∷ []) ∷ [] else
    (if number == 13 then [] ∷ (Sign lexeme.Comma ∷ ItemPart n ∷ MoreItems n ∷ []) ∷ [] else
    (if number == 14 then [] ∷ (Sign lexeme.As ∷ ColumnPart ∷ []) ∷ [] else
    (if number == 15 then [] ∷ (Sign lexeme.When ∷ Expression n ∷ []) ∷ [] else
    (if number == 16 then (SourceTerm n ∷ MoreSource n ∷ []) ∷ [] else
    (if number == 17 then [] ∷ (Sign lexeme.Join ∷ SourceTerm n ∷ Sign lexeme.On ∷ CondPart n ∷ MoreSource n ∷ []) ∷ [] else
    (if number == 18 then (Simple n ∷ Alias ∷ []) ∷ [] else
    (if number == 19 then [] ∷ (Sign lexeme.As ∷ NAME ∷ []) ∷ [] else
    (if number == 20 then [] ∷ (Sign lexeme.Where ∷ CondPart n ∷ []) ∷ [] else []))))))))))))))

-- the forms of the parts of a condition
abbrev pub cond_forms : ℕ → ℕ → ℕ → List Form
cond_forms limit number n =
    if number == 21 then (CondConjunction n ∷ MoreOr n ∷ []) ∷ [] else
    (if number == 22 then [] ∷ (Sign lexeme.Or ∷ CondConjunction n ∷ MoreOr n ∷ []) ∷ [] else
    (if number == 23 then (CondNegation n ∷ MoreAnd n ∷ []) ∷ [] else
    (if number == 24 then [] ∷ (Sign lexeme.And ∷ CondNegation n ∷ MoreAnd n ∷ []) ∷ [] else
    (if number == 25 then
    (ColumnPart ∷ COMPARISON ∷ OperandPart ∷ []) ∷ (Sign lexeme.Integer ∷ COMPARISON ∷ OperandPart ∷ []) ∷ (Sign lexeme.Text ∷ COMPARISON ∷ OperandPart ∷ []) ∷ (Sign lexeme.Parameter ∷ COMPARISON ∷ OperandPart ∷ [])
    ∷ (Sign lexeme.True ∷ AfterTruth ∷ []) ∷ (Sign lexeme.False ∷ AfterTruth ∷ [])
    ∷ within (nat_lt n limit) ((Sign lexeme.Not ∷ CondNegation (n + 1) ∷ []) ∷ (Sign lexeme.Open ∷ CondPart (n + 1) ∷ Sign lexeme.Close ∷ []) ∷ (Sign lexeme.Choice ∷ Sign lexeme.OpenSquare ∷ Expression (n + 1) ∷ Sign lexeme.CloseSquare ∷ CondSides (n + 1) ∷ []) ∷ []) else
    (if number == 26 then within (nat_lt n limit) ((Sign lexeme.Open ∷ CondPart (n + 1) ∷ Sign lexeme.Comma ∷ CondPart (n + 1) ∷ Sign lexeme.Close ∷ []) ∷ []) else
    (if number == 27 then [] ∷ (COMPARISON ∷ OperandPart ∷ []) ∷ [] else
    (if number == 28 then (ColumnPart ∷ []) ∷ (Sign lexeme.Integer ∷ []) ∷ (Sign lexeme.Text ∷ []) ∷ (Sign lexeme.Parameter ∷ []) ∷ (Sign lexeme.True ∷ []) ∷ (Sign lexeme.False ∷ []) ∷ [] else
    (if number == 29 then (NAME ∷ Prefixed ∷ []) ∷ [] else
    (if number == 30 then [] ∷ (Sign lexeme.Dot ∷ NAME ∷ []) ∷ [] else [])))))))))

-- the bracket that closes a tuple, where it has as many values as there are names
abbrev pub closed_tuple : Bool → List Form
closed_tuple true = (Sign lexeme.Close ∷ []) ∷ []
closed_tuple false = []

-- the forms of the parts of a write
abbrev pub write_forms : ℕ → ℕ → List Form
write_forms number count =
    if number == 31 then (Sign lexeme.Integer ∷ []) ∷ (Sign lexeme.Text ∷ []) ∷ (Sign lexeme.Parameter ∷ []) ∷ (Sign lexeme.True ∷ []) ∷ (Sign lexeme.False ∷ []) ∷ [] else
    (if number == 32 then (Sign lexeme.Comma ∷ NAME ∷ MoreNames (count + 1) ∷ []) ∷ (Sign lexeme.Close ∷ Sign lexeme.Values ∷ TuplePart count ∷ MoreTuples count ∷ []) ∷ [] else
    (if number == 33 then (Sign lexeme.Open ∷ ValuePart ∷ MoreValues count ∷ []) ∷ [] else
    (if number == 34 then (Sign lexeme.Comma ∷ ValuePart ∷ MoreValues (count - 1) ∷ []) ∷ closed_tuple (count == 1) else
    (if number == 35 then [] ∷ (Sign lexeme.Comma ∷ TuplePart count ∷ MoreTuples count ∷ []) ∷ [] else
    (if number == 36 then (NAME ∷ Sign lexeme.Equal ∷ ValuePart ∷ []) ∷ [] else
    (if number == 37 then [] ∷ (Sign lexeme.Comma ∷ SetPart ∷ MoreSets ∷ []) ∷ [] else []))))))

-- the forms of each part, where nesting has this limit
abbrev pub outer : ℕ → ℕ → ℕ → List Form
outer limit number n =
    if nat_lt number 6 then statement_forms number else (if nat_lt number 21 then query_forms limit number n else (if nat_lt number 31 then cond_forms limit number n else write_forms number n))

-- these open symbols match the tokens from one place to another, where nesting has this limit
abbrev pub Goes : List ℕ → List Token → ℕ → Form → ℕ → ℕ → Type 0
Goes text tokens limit symbols at to = Matches (forms (outer limit) limit) (fits (fitting text tokens) text tokens) symbols at to

-- so many tokens begin a text of statements. The end of the text counts as a token, so that one token more than there
-- are make a whole text.
abbrev pub IsViable : List ℕ → List Token → ℕ → ℕ → Type 0
IsViable text tokens limit to = Goes text tokens limit (Statements ∷ []) 0 to

-- the tokens before this one begin a text, and with it they don't
pub record IsFirstTextFault (text : List ℕ) (tokens : List Token) (limit at : ℕ) : Type 0 where
  pub before : IsViable text tokens limit at
  pub never : (to : ℕ) → at < to → IsViable text tokens limit to → ⊥

-- a syntax fault stands at the first token with which the text is no beginning of statements, however deep they may
-- nest; one of nesting where that token could stand if they might nest deeper; and each other fault at a token that could
-- stand there
abbrev pub IsViableFault : List ℕ → List Token → ParseFault → Type 0
IsViableFault text tokens (fault.Syntax at) = (limit : ℕ) → nesting_limit ≤ limit → IsFirstTextFault text tokens limit at
IsViableFault text tokens (fault.TooDeep at) = IsFirstTextFault text tokens nesting_limit at × ((limit : ℕ) → nesting_limit < limit → IsViable text tokens limit (at + 1))
IsViableFault text tokens (fault.UnknownFeature at) = IsViable text tokens nesting_limit (at + 1)
IsViableFault text tokens (fault.IntTooLarge at) = IsViable text tokens nesting_limit (at + 1)
IsViableFault text tokens (fault.TooManyParams at) = IsViable text tokens nesting_limit (at + 1)
IsViableFault text tokens (fault.NoParam at) = IsViable text tokens nesting_limit (at + 1)
IsViableFault text tokens fault.Memory = Unit {0}
