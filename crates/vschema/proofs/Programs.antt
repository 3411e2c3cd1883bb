-- A catalogue's file is read one way. Each part is a program that asks for its next part or is done with the whole
-- file, and a program has one answer.
use Rattle.std.proofs.Common.{◌≡◌, ◌≢◌, ℕ, ◌+◌, ◌==◌, Bool, true, false, nat_lt, is_some, List, [], ◌∷◌, ◌++◌, length, set, slice_get, Option, Some, None, Result, Err, refl}
use Rattle.feature_expr.specs.Names.{among}
use Rattle.values.specs.Value.{kind_of}
use Rattle.feature_expr.specs.Config.{feature_limit}
use Rattle.feature_expr.specs.declared.expr.Expr.{Expr}
use Rattle.feature_expr.specs.declared.expr.Expr as e
use Rattle.word_tokens.specs.declared.token.Token.{Token}
use Rattle.values.specs.declared.value.Kind.{Kind}
use Rattle.values.specs.declared.value.Kind.TheVariants as kind
use Rattle.values.specs.declared.value.Value.{Value}
use Rattle.vschema.specs.Limits.{table_limit, column_limit}
use Rattle.vschema.specs.Faults.{ExpressionFault}
use Rattle.vschema.specs.Spelling.{column_place, table_place, IsExpression, no_cells, has_value}
use Rattle.vschema.specs.Words.{stands, spelled_name_at, folded_at, kind_at, value_at, line_number}
use Rattle.vschema.specs.declared.catalog.Catalog.{Catalog}
use Rattle.vschema.specs.declared.catalog.Column.{Column}
use Rattle.vschema.specs.declared.catalog.OpeningRow.{OpeningRow}
use Rattle.vschema.specs.declared.catalog.Table.{Table}
use Rattle.vschema.specs.declared.fault.CatalogFault.{CatalogFault}
use Rattle.vschema.specs.declared.fault.CatalogFault.TheVariants as fault
use Rattle.vschema.specs.declared.refused.Which.{Which}
use Rattle.vschema.specs.declared.refused.Which.TheVariants as which
use Rattle.vschema.specs.declared.words.Sign.{Sign}
use Rattle.vschema.specs.declared.words.Sign.TheVariants as sign
use Rattle.vschema.proofs.ExpressionLaws.{one_expression, one_fault, fault_or_expression}

-- a part at a place, some with what was read of it so far, or with the features, the columns or the tables above it
pub data Goal : Type 0 where
  AHead : Goal
  MoreFeatures : (before : List (List ℕ)) (at : ℕ) → Goal
  AModel : (names : List (List ℕ)) (at : ℕ) → Goal
  AWhen : (names : List (List ℕ)) (n at : ℕ) → Goal
  ATail : (names : List (List ℕ)) (at : ℕ) → Goal
  AColumn : (names : List (List ℕ)) (before : List Column) (at : ℕ) → Goal
  MoreColumns : (names : List (List ℕ)) (before : List Column) (at : ℕ) → Goal
  ATable : (names : List (List ℕ)) (tables : List Table) (at : ℕ) → Goal
  ACell : (columns : List Column) (before : List (Option Value)) (at : ℕ) → Goal
  MoreCells : (columns : List Column) (before : List (Option Value)) (at : ℕ) → Goal
  ARow : (names : List (List ℕ)) (tables : List Table) (at : ℕ) → Goal
  MoreEntries : (names : List (List ℕ)) (tables : List Table) (rows : List OpeningRow) (at : ℕ) → Goal

-- what it spells; a value of a row, the cells with it
abbrev pub Spelled : Goal → Type 0
Spelled AHead = List (List ℕ)
Spelled (MoreFeatures before at) = List (List ℕ)
Spelled (AModel names at) = Expr
Spelled (AWhen names n at) = Expr
Spelled (ATail names at) = Expr
Spelled (AColumn names before at) = Column
Spelled (MoreColumns names before at) = List Column
Spelled (ATable names tables at) = Table
Spelled (ACell columns before at) = List (Option Value)
Spelled (MoreCells columns before at) = List (Option Value)
Spelled (ARow names tables at) = OpeningRow
Spelled (MoreEntries names tables rows at) = List Table × List OpeningRow

-- a catalogue with its opening rows, or a fault
abbrev pub Answer : Type 0
Answer = Result (Catalog × List OpeningRow) CatalogFault

pub data Program : Type 0 where
  Done : Answer → Program
  Ask : (goal : Goal) → (Spelled goal → ℕ → Program) → Program
  AskExpression : (names : List (List ℕ)) (n at : ℕ) → (Expr → ℕ → Program) → Program

abbrev pub Fails : CatalogFault → Program
Fails why = Done (Err why)

abbrev pub choose : Bool → Program → Program → Program
choose true first second = first
choose false first second = second

-- this has to stand there
abbrev pub need : Bool → ℕ → Program → Program
need true at on = on
need false at on = Fails (fault.Syntax at)

abbrev pub given : {X : Type 0} → Option X → (X → Program) → CatalogFault → Program
given (Some x) found why = found x
given None found why = Fails why

-- a name that none before it has, within the limit
abbrev pub another : Option (List ℕ) → (List ℕ → Bool) → Bool → ℕ → Which → (List ℕ → Program) → Program
another (Some name) again within at most found = choose (again name) (Fails (fault.Duplicate at)) (choose within (found name) (Fails (fault.Limit at most)))
another None again within at most found = Fails (fault.Syntax at)

abbrev pub same_kind : Kind → Kind → Bool
same_kind kind.Int kind.Int = true
same_kind kind.Text kind.Text = true
same_kind kind.Bool kind.Bool = true
same_kind _ _ = false

module _ (text : List ℕ) (tokens : List Token) where
  abbrev pub is : ℕ → Sign → Bool
  is at wanted = stands text tokens at wanted

  -- from an expression to behind the semicolon that ends it
  abbrev pub up_to_semicolon : (Expr → ℕ → Program) → Expr → ℕ → Program
  up_to_semicolon k expr end = need (is end sign.Semicolon) end (k expr (end + 1))

  -- what a part asks for, and what goes on behind it
  abbrev pub body : (goal : Goal) → (Spelled goal → ℕ → Program) → Program
  body AHead k = need (is 0 sign.Features) 0 (choose (is 1 sign.Semicolon) (k [] 2) (Ask (MoreFeatures [] 1) k))
  body (MoreFeatures before at) k =
      another (spelled_name_at text tokens at) (λ name. among name before) (nat_lt (length before) feature_limit) at which.Features (λ name.
      choose (is (at + 1) sign.Comma) (Ask (MoreFeatures (before ++ name ∷ []) (at + 2)) k) (need (is (at + 1) sign.Semicolon) (at + 1) (k (before ++ name ∷ []) (at + 2))))
  body (AModel names at) k = choose (is at sign.Model) (AskExpression names 0 (at + 1) (up_to_semicolon k)) (k e.True at)
  body (AWhen names n at) k = choose (is at sign.When) (AskExpression names n (at + 1) k) (k e.True at)
  body (ATail names at) k = Ask (AWhen names 0 at) (up_to_semicolon k)
  body (AColumn names before at) k =
      another (folded_at text tokens at) (λ name. is_some (column_place name before)) (nat_lt (length before) column_limit) at which.Columns (λ name.
      given (kind_at text tokens (at + 1)) (λ its_kind. Ask (AWhen names 1 (at + 2)) (λ condition end. k (record { name = name; kind = its_kind; cond = condition }) end)) (fault.Syntax (at + 1)))
  body (MoreColumns names before at) k =
      Ask (AColumn names before at) (λ column end. choose (is end sign.Comma) (Ask (MoreColumns names (before ++ column ∷ []) (end + 1)) k) (need (is end sign.Close) end (k (before ++ column ∷ []) (end + 1))))
  body (ATable names tables at) k =
      another (folded_at text tokens (at + 1)) (λ name. is_some (table_place name tables)) (nat_lt (length tables) table_limit) (at + 1) which.Tables (λ name.
      need (is (at + 2) sign.Open) (at + 2) (Ask (MoreColumns names [] (at + 3)) (λ columns behind. Ask (ATail names behind) (λ condition end. k (record { name = name; columns = columns; cond = condition }) end))))
  body (ACell columns before at) k =
      given (folded_at text tokens at) (λ name. given (column_place name columns) (λ place. choose (has_value before place) (Fails (fault.Duplicate at)) (given (slice_get columns place) (λ column.
      given (value_at text tokens (at + 1)) (λ value. choose (same_kind (kind_of value) column.kind) (k (set before place (Some value)) (at + 2)) (Fails (fault.WrongKind (at + 1)))) (fault.Syntax (at + 1)))
      fault.Memory)) (fault.UnknownName at)) (fault.Syntax at)
  body (MoreCells columns before at) k =
      Ask (ACell columns before at) (λ cells end. choose (is end sign.Comma) (Ask (MoreCells columns cells (end + 1)) k) (need (is end sign.Close) end (k cells (end + 1))))
  body (ARow names tables at) k =
      given (folded_at text tokens (at + 1)) (λ name. given (table_place name tables) (λ number. given (slice_get tables number) (λ table. need (is (at + 2) sign.Open) (at + 2)
      (Ask (MoreCells table.columns (no_cells table.columns) (at + 3)) (λ cells behind. Ask (ATail names behind) (λ condition end. k (record { table = number; cells = cells; cond = condition; line = line_number text tokens at }) end))))
      fault.Memory) (fault.UnknownName (at + 1))) (fault.Syntax (at + 1))
  body (MoreEntries names tables rows at) k =
      choose (is at sign.Table) (Ask (ATable names tables at) (λ table end. Ask (MoreEntries names (tables ++ table ∷ []) rows end) k))
      (choose (is at sign.Row) (Ask (ARow names tables at) (λ row end. Ask (MoreEntries names tables (rows ++ row ∷ []) end) k)) (need (at == length tokens) at (k (tables, rows) at)))

  pub data Runs : Program → Answer → Type 0 where
    ends : (answer : Answer) → Runs (Done answer) answer
    asks : (goal : Goal) (k : Spelled goal → ℕ → Program) (answer : Answer) → Runs (body goal k) answer → Runs (Ask goal k) answer
    expresses : (names : List (List ℕ)) (n at : ℕ) (k : Expr → ℕ → Program) (expr : Expr) (end : ℕ) (answer : Answer) → IsExpression names text tokens n at expr end → Runs (k expr end) answer → Runs (AskExpression names n at k) answer
    refuses : (names : List (List ℕ)) (n at : ℕ) (k : Expr → ℕ → Program) (why : CatalogFault) → ExpressionFault names text tokens n at why → why ≢ fault.Memory → Runs (AskExpression names n at k) (Err why)

  pub one_answer : (p : Program) (a b : Answer) → Runs p a → Runs p b → a ≡ b
  one_answer p a b (ends x) (ends y) = refl
  one_answer p a b (asks goal k x r) (asks goal' k' y s) = one_answer (body goal k) a b r s
  one_answer p a b (expresses names n at k expr end x d r) (expresses names' n' at' k' expr' end' y d' s) =
      let same = one_expression names text tokens n at expr end expr' end' d d' in
      one_answer (k expr end) a b r (rw (same.0, same.1) s)
  one_answer p a b (expresses names n at k expr end x d r) (refuses names' n' at' k' why f other) = absurd (fault_or_expression names text tokens n at expr end why d f other)
  one_answer p a b (refuses names n at k why f other) (expresses names' n' at' k' expr end y d s) = absurd (fault_or_expression names text tokens n at expr end why d f other)
  one_answer p a b (refuses names n at k why f other) (refuses names' n' at' k' why' f' other') = rw (one_fault names text tokens n at why why' f f' other other') refl
