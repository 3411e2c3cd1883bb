-- A text is read one way. Each part is a program that asks for its next part or is done with the whole text, and a
-- program has one answer.
use Rattle.std.proofs.Common.{◌≡◌, ◌≢◌, ℕ, ◌+◌, ◌==◌, ◌||◌, Bool, true, false, nat_lt, List, [], ◌∷◌, ◌++◌, length, Option, Some, None, Result, Ok, Err, refl}
use Rattle.values.specs.declared.column_name.ColName.{ColName}
use Rattle.feature_expr.specs.declared.expr.Expr.{Expr}
use Rattle.feature_expr.specs.declared.expr.Expr as e
use Rattle.word_tokens.specs.declared.token.Token.{Token}
use Rattle.vra_syntax.specs.declared.cond.Cond.{Cond}
use Rattle.vra_syntax.specs.declared.cond.Cond as cond
use Rattle.vra_syntax.specs.declared.cond.Op.{Op}
use Rattle.vra_syntax.specs.declared.cond.Operand.{Operand}
use Rattle.vra_syntax.specs.declared.cond.Operand.TheVariants as operand
use Rattle.vra_syntax.specs.declared.items.Item.{Item}
use Rattle.vra_syntax.specs.declared.items.Items.{Items}
use Rattle.vra_syntax.specs.declared.items.Items.TheVariants as kept
use Rattle.vra_syntax.specs.declared.query.Query.{Query}
use Rattle.vra_syntax.specs.declared.query.Query as query
use Rattle.vra_syntax.specs.declared.statement.Statement.{Statement}
use Rattle.vra_syntax.specs.declared.statement.Statement.TheVariants as statement
use Rattle.vra_syntax.specs.declared.write.SetItem.{SetItem}
use Rattle.vra_syntax.specs.declared.write.Write.TheVariants as write
use Rattle.query_parser.specs.Faults.{ExpressionFault}
use Rattle.query_parser.specs.Lexemes.{lexeme_at, stands, name_at, op_at, value_at}
use Rattle.query_parser.specs.Parts.{IsExpression}
use Rattle.query_parser.specs.StatementGrammar.{is_word}
use Rattle.query_parser.specs.Truths.{truth_in}
use Rattle.query_parser.specs.declared.fault.ParseFault.{ParseFault}
use Rattle.query_parser.specs.declared.fault.ParseFault.TheVariants as fault
use Rattle.query_parser.specs.declared.lexeme.Lexeme.{Lexeme}
use Rattle.query_parser.specs.declared.lexeme.Lexeme.TheVariants as lexeme
use Rattle.feature_expr.specs.Nesting.{nesting_limit}
use Rattle.query_parser.proofs.ExpressionLaws.{one_expression, one_fault, fault_or_expression}

-- a part at a place, some with what was read of it so far
pub data Goal : Type 0 where
  AColumn : (at : ℕ) → Goal
  AnOperand : (at : ℕ) → Goal
  AChoice : (n at : ℕ) → Goal
  ARename : (at : ℕ) → Goal
  AnItemWhen : (n at : ℕ) → Goal
  AWhen : (at : ℕ) → Goal
  AnItem : (n at : ℕ) → Goal
  MoreItems : (n : ℕ) (before : List Item) (at : ℕ) → Goal
  TheItems : (n at : ℕ) → Goal
  ACondition : (n at : ℕ) → Goal
  MoreOr : (n : ℕ) (left : Cond) (at : ℕ) → Goal
  AConjunction : (n at : ℕ) → Goal
  MoreAnd : (n : ℕ) (left : Cond) (at : ℕ) → Goal
  ANegation : (n at : ℕ) → Goal
  AWhere : (n at : ℕ) → Goal
  AQuery : (n at : ℕ) → Goal
  MoreTerms : (n : ℕ) (left : Query) (at : ℕ) → Goal
  ATerm : (n at : ℕ) → Goal
  ASimple : (n at : ℕ) → Goal
  ASource : (n at : ℕ) → Goal
  MoreJoins : (n : ℕ) (left : Query) (at : ℕ) → Goal
  ASourceTerm : (n at : ℕ) → Goal
  MoreNames : (before : List (List ℕ)) (at : ℕ) → Goal
  MoreValues : (before : List Operand) (at : ℕ) → Goal
  ATuple : (count at : ℕ) → Goal
  MoreTuples : (count : ℕ) (before : List (List Operand)) (at : ℕ) → Goal
  ASetItem : (at : ℕ) → Goal
  MoreSetItems : (before : List SetItem) (at : ℕ) → Goal
  ATail : (at : ℕ) → Goal
  ASetting : (at : ℕ) → Goal
  AStatement : (at : ℕ) → Goal
  MoreStatements : (before : List Statement) (at : ℕ) → Goal

-- what it spells
abbrev pub Value : Goal → Type 0
Value (AColumn at) = ColName
Value (AnOperand at) = Operand
Value (AChoice n at) = Expr
Value (ARename at) = Option ColName
Value (AnItemWhen n at) = Option Expr
Value (AWhen at) = Expr
Value (AnItem n at) = Item
Value (MoreItems n before at) = List Item
Value (TheItems n at) = Items
Value (ACondition n at) = Cond
Value (MoreOr n left at) = Cond
Value (AConjunction n at) = Cond
Value (MoreAnd n left at) = Cond
Value (ANegation n at) = Cond
Value (AWhere n at) = Cond
Value (AQuery n at) = Query
Value (MoreTerms n left at) = Query
Value (ATerm n at) = Query
Value (ASimple n at) = Query
Value (ASource n at) = Query
Value (MoreJoins n left at) = Query
Value (ASourceTerm n at) = Query
Value (MoreNames before at) = List (List ℕ)
Value (MoreValues before at) = List Operand
Value (ATuple count at) = List Operand
Value (MoreTuples count before at) = List (List Operand)
Value (ASetItem at) = SetItem
Value (MoreSetItems before at) = List SetItem
Value (ATail at) = Unit {0}
Value (ASetting at) = Unit {0}
Value (AStatement at) = Statement
Value (MoreStatements before at) = List Statement

pub data Program : Type 0 where
  Done : Result (List Statement) ParseFault → Program
  Ask : (goal : Goal) → (Value goal → ℕ → Program) → Program
  AskExpression : (n at : ℕ) → (Expr → ℕ → Program) → Program

abbrev pub Fails : ParseFault → Program
Fails why = Done (Err why)

abbrev pub choose : Bool → Program → Program → Program
choose true first second = first
choose false first second = second

-- this has to stand there
abbrev pub need : Bool → ℕ → Program → Program
need true at on = on
need false at on = Fails (fault.Syntax at)

-- one level more may be opened there
abbrev pub level : Bool → ℕ → Program → Program
level true at on = on
level false at on = Fails (fault.TooDeep at)

abbrev pub named : Option (List ℕ) → (List ℕ → Program) → Program → Program
named (Some name) found missing = found name
named None found missing = missing

abbrev pub valued : Result Operand ParseFault → (Operand → Program) → Program
valued (Ok value) found = found value
valued (Err why) found = Fails why

-- an operand that stands alone has to be a truth value
abbrev pub alone : Option Cond → ℕ → (Cond → ℕ → Program) → Program
alone (Some c) at k = k c at
alone None at k = Fails (fault.Syntax at)

abbrev pub compared : Option Op → Operand → ℕ → (Cond → ℕ → Program) → Program
compared (Some op) left at k = Ask (AnOperand (at + 1)) (λ right end. k (cond.Cmp left op right) end)
compared None left at k = alone (truth_in left) at k

module _ (with_params : Bool) (names : List (List ℕ)) (text : List ℕ) (tokens : List Token) where
  abbrev pub is : ℕ → Lexeme → Bool
  is at wanted = stands text tokens at wanted

  abbrev pub insert_program : ℕ → (Statement → ℕ → Program) → Program
  insert_program at k =
      need (is at lexeme.Into) at (named (name_at text tokens (at + 1)) (λ table. need (is (at + 2) lexeme.Open) (at + 2) (named (name_at text tokens (at + 3)) (λ first.
      Ask (MoreNames (first ∷ []) (at + 3 + 1)) (λ columns close. need (is close lexeme.Close) close (need (is (close + 1) lexeme.Values) (close + 1) (Ask (ATuple (length columns) (close + 2)) (λ row end.
      Ask (MoreTuples (length columns) (row ∷ []) end) (λ rows last. Ask (AWhen last) (λ expr end. k (statement.Write (write.Insert table columns rows expr)) end)))))))
      (Fails (fault.Syntax (at + 3))))) (Fails (fault.Syntax (at + 1))))

  abbrev pub delete_program : ℕ → (Statement → ℕ → Program) → Program
  delete_program at k =
      need (is at lexeme.From) at (named (name_at text tokens (at + 1)) (λ table. Ask (AWhere 0 (at + 2)) (λ c last. Ask (AWhen last) (λ expr end. k (statement.Write (write.Delete table c expr)) end))) (Fails (fault.Syntax (at + 1))))

  abbrev pub update_program : ℕ → (Statement → ℕ → Program) → Program
  update_program at k =
      named (name_at text tokens at) (λ table. need (is (at + 1) lexeme.Set) (at + 1) (Ask (ASetItem (at + 2)) (λ first end. Ask (MoreSetItems (first ∷ []) end) (λ changes behind.
      Ask (AWhere 0 behind) (λ c last. Ask (AWhen last) (λ expr end. k (statement.Write (write.Update table changes c expr)) end)))))) (Fails (fault.Syntax at))

  abbrev pub statement_program : ℕ → (Statement → ℕ → Program) → Program
  statement_program at k =
      choose (is at lexeme.Begin) (Ask (ATail (at + 1)) (λ u end. k statement.Begin end))
      (choose (is at lexeme.Commit) (Ask (ATail (at + 1)) (λ u end. k statement.Commit end))
      (choose (is at lexeme.Rollback) (Ask (ATail (at + 1)) (λ u end. k statement.Rollback end))
      (choose (is at lexeme.Set) (Ask (ASetting (at + 1)) (λ u end. k statement.Set end))
      (choose (is at lexeme.Insert) (insert_program (at + 1) k)
      (choose (is at lexeme.Delete) (delete_program (at + 1) k)
      (choose (is at lexeme.Update) (update_program (at + 1) k)
      (Ask (AQuery 0 at) (λ q end. k (statement.Query q) end))))))))

  -- from the bracket behind the expression of a choice to that before its sides
  abbrev pub behind_chooser : ℕ → (Expr → ℕ → Program) → Expr → ℕ → Program
  behind_chooser n k expr close = need (is close lexeme.CloseSquare) close (need (is (close + 1) lexeme.Open) (close + 1) (level (nat_lt (n + 1) nesting_limit) (close + 1) (k expr (close + 2))))

  -- what a part asks for, and what goes on behind it
  abbrev pub body : (goal : Goal) → (Value goal → ℕ → Program) → Program
  body (AColumn at) k =
      named (name_at text tokens at) (λ first. choose (is (at + 1) lexeme.Dot) (named (name_at text tokens (at + 2)) (λ base. k (record { prefix = Some first; base = base }) (at + 3)) (Fails (fault.Syntax (at + 2)))) (k (record { prefix = None; base = first }) (at + 1))) (Fails (fault.Syntax at))
  body (AnOperand at) k = named (name_at text tokens at) (λ first. Ask (AColumn at) (λ column end. k (operand.Column column) end)) (valued (value_at with_params text tokens at) (λ value. k value (at + 1)))
  body (AChoice n at) k = level (nat_lt n nesting_limit) at (need (is (at + 1) lexeme.OpenSquare) (at + 1) (AskExpression (n + 1) (at + 2) (behind_chooser n k)))
  body (ARename at) k = choose (is at lexeme.As) (Ask (AColumn (at + 1)) (λ column end. k (Some column) end)) (k None at)
  body (AnItemWhen n at) k = choose (is at lexeme.When) (AskExpression n (at + 1) (λ expr end. k (Some expr) end)) (k None at)
  body (AWhen at) k = choose (is at lexeme.When) (AskExpression 0 (at + 1) k) (k e.True at)
  body (AnItem n at) k =
      Ask (AColumn at) (λ column behind. Ask (ARename behind) (λ rename last. Ask (AnItemWhen n last) (λ condition end. k (record { column = column; rename = rename; cond = condition }) end)))
  body (MoreItems n before at) k = choose (is at lexeme.Comma) (Ask (AnItem n (at + 1)) (λ item end. Ask (MoreItems n (before ++ item ∷ []) end) k)) (k before at)
  body (TheItems n at) k = choose (is at lexeme.Star) (k kept.All (at + 1)) (Ask (AnItem n at) (λ item end. Ask (MoreItems n (item ∷ []) end) (λ all last. k (kept.Listed all) last)))
  body (ACondition n at) k = Ask (AConjunction n at) (λ left end. Ask (MoreOr n left end) k)
  body (MoreOr n left at) k = choose (is at lexeme.Or) (Ask (AConjunction n (at + 1)) (λ right end. Ask (MoreOr n (cond.Or left right) end) k)) (k left at)
  body (AConjunction n at) k = Ask (ANegation n at) (λ left end. Ask (MoreAnd n left end) k)
  body (MoreAnd n left at) k = choose (is at lexeme.And) (Ask (ANegation n (at + 1)) (λ right end. Ask (MoreAnd n (cond.And left right) end) k)) (k left at)
  body (ANegation n at) k =
      choose (is at lexeme.Not) (level (nat_lt n nesting_limit) at (Ask (ANegation (n + 1) (at + 1)) (λ inner end. k (cond.Not inner) end)))
      (choose (is at lexeme.Open) (level (nat_lt n nesting_limit) at (Ask (ACondition (n + 1) (at + 1)) (λ inner end. need (is end lexeme.Close) end (k inner (end + 1)))))
      (choose (is at lexeme.Choice) (Ask (AChoice n at) (λ expr sides. Ask (ACondition (n + 2) sides) (λ left middle. need (is middle lexeme.Comma) middle (Ask (ACondition (n + 2) (middle + 1)) (λ right end. need (is end lexeme.Close) end (k (cond.Choice expr left right) (end + 1)))))))
      (Ask (AnOperand at) (λ left middle. compared (op_at text tokens middle) left middle k))))
  body (AWhere n at) k = choose (is at lexeme.Where) (Ask (ACondition n (at + 1)) k) (k cond.True at)
  body (AQuery n at) k = Ask (ATerm n at) (λ left end. Ask (MoreTerms n left end) k)
  body (MoreTerms n left at) k =
      choose (is at lexeme.Union) (Ask (ATerm n (at + 1)) (λ right end. Ask (MoreTerms n (query.Union left right) end) k))
      (choose (is at lexeme.Except) (Ask (ATerm n (at + 1)) (λ right end. Ask (MoreTerms n (query.Except left right) end) k)) (k left at))
  body (ATerm n at) k =
      choose (is at lexeme.Select) (Ask (TheItems n (at + 1)) (λ items from. need (is from lexeme.From) from (Ask (ASource n (from + 1)) (λ source behind. Ask (AWhere n behind) (λ c end. k (query.Select items source c) end)))))
      (Ask (ASimple n at) k)
  body (ASimple n at) k =
      named (name_at text tokens at) (λ name. k (query.Table name) (at + 1))
      (choose (is at lexeme.Empty) (k query.Empty (at + 1))
      (choose (is at lexeme.Open) (level (nat_lt n nesting_limit) at (Ask (AQuery (n + 1) (at + 1)) (λ inner end. need (is end lexeme.Close) end (k inner (end + 1)))))
      (choose (is at lexeme.Choice) (Ask (AChoice n at) (λ expr sides. Ask (AQuery (n + 2) sides) (λ left middle. need (is middle lexeme.Comma) middle (Ask (AQuery (n + 2) (middle + 1)) (λ right end. need (is end lexeme.Close) end (k (query.Choice expr left right) (end + 1)))))))
      (Fails (fault.Syntax at)))))
  body (ASource n at) k = Ask (ASourceTerm n at) (λ left end. Ask (MoreJoins n left end) k)
  body (MoreJoins n left at) k =
      choose (is at lexeme.Join) (Ask (ASourceTerm n (at + 1)) (λ right on. need (is on lexeme.On) on (Ask (ACondition n (on + 1)) (λ c end. Ask (MoreJoins n (query.Join left right c) end) k)))) (k left at)
  body (ASourceTerm n at) k = Ask (ASimple n at) (λ q end. choose (is end lexeme.As) (named (name_at text tokens (end + 1)) (λ name. k (query.Alias q name) (end + 2)) (Fails (fault.Syntax (end + 1)))) (k q end))
  body (MoreNames before at) k = choose (is at lexeme.Comma) (named (name_at text tokens (at + 1)) (λ name. Ask (MoreNames (before ++ name ∷ []) (at + 2)) k) (Fails (fault.Syntax (at + 1)))) (k before at)
  body (MoreValues before at) k = choose (is at lexeme.Comma) (valued (value_at with_params text tokens (at + 1)) (λ value. Ask (MoreValues (before ++ value ∷ []) (at + 2)) k)) (k before at)
  body (ATuple count at) k =
      need (is at lexeme.Open) at (valued (value_at with_params text tokens (at + 1)) (λ first. Ask (MoreValues (first ∷ []) (at + 1 + 1)) (λ values close. need (is close lexeme.Close) close (need (length values == count) close (k values (close + 1))))))
  body (MoreTuples count before at) k = choose (is at lexeme.Comma) (Ask (ATuple count (at + 1)) (λ row end. Ask (MoreTuples count (before ++ row ∷ []) end) k)) (k before at)
  body (ASetItem at) k =
      named (name_at text tokens at) (λ column. need (is (at + 1) lexeme.Equal) (at + 1) (valued (value_at with_params text tokens (at + 2)) (λ value. k (record { column = column; value = value }) (at + 3)))) (Fails (fault.Syntax at))
  body (MoreSetItems before at) k = choose (is at lexeme.Comma) (Ask (ASetItem (at + 1)) (λ item end. Ask (MoreSetItems (before ++ item ∷ []) end) k)) (k before at)
  body (ATail at) k = choose (is at lexeme.Transaction || is at lexeme.Work) (k tt (at + 1)) (k tt at)
  body (ASetting at) k =
      need (is_word (lexeme_at text tokens at)) at (need (is (at + 1) lexeme.To || is (at + 1) lexeme.Equal) (at + 1) (choose (is_word (lexeme_at text tokens (at + 2))) (k tt (at + 3))
      (choose (is (at + 2) lexeme.Integer) (valued (value_at with_params text tokens (at + 2)) (λ value. k tt (at + 3))) (need (is (at + 2) lexeme.Text) (at + 2) (k tt (at + 3))))))
  body (AStatement at) k = statement_program at k
  body (MoreStatements before at) k =
      choose (is at lexeme.End) (Done (Ok before)) (choose (is at lexeme.Semicolon) (Ask (MoreStatements before (at + 1)) k)
      (Ask (AStatement at) (λ s end. choose (is end lexeme.End) (Done (Ok (before ++ s ∷ []))) (need (is end lexeme.Semicolon) end (Ask (MoreStatements (before ++ s ∷ []) (end + 1)) k)))))

  pub data Runs : Program → Result (List Statement) ParseFault → Type 0 where
    ends : (answer : Result (List Statement) ParseFault) → Runs (Done answer) answer
    asks : (goal : Goal) (k : Value goal → ℕ → Program) (answer : Result (List Statement) ParseFault) → Runs (body goal k) answer → Runs (Ask goal k) answer
    expresses : (n at : ℕ) (k : Expr → ℕ → Program) (expr : Expr) (end : ℕ) (answer : Result (List Statement) ParseFault) → IsExpression names text tokens n at expr end → Runs (k expr end) answer → Runs (AskExpression n at k) answer
    refuses : (n at : ℕ) (k : Expr → ℕ → Program) (why : ParseFault) → ExpressionFault names text tokens n at why → why ≢ fault.Memory → Runs (AskExpression n at k) (Err why)

  pub one_answer : (p : Program) (a b : Result (List Statement) ParseFault) → Runs p a → Runs p b → a ≡ b
  one_answer p a b (ends x) (ends y) = refl
  one_answer p a b (asks goal k x r) (asks goal' k' y s) = one_answer (body goal k) a b r s
  one_answer p a b (expresses n at k expr end x d r) (expresses n' at' k' expr' end' y d' s) =
      let same = one_expression names text tokens n at expr end expr' end' d d' in
      one_answer (k expr end) a b r (rw (same.0, same.1) s)
  one_answer p a b (expresses n at k expr end x d r) (refuses n' at' k' why f other) = absurd (fault_or_expression names text tokens n at expr end why d f other)
  one_answer p a b (refuses n at k why f other) (expresses n' at' k' expr end y d s) = absurd (fault_or_expression names text tokens n at expr end why d f other)
  one_answer p a b (refuses n at k why f other) (refuses n' at' k' why' f' other') = rw (one_fault names text tokens n at why why' f f' other other') refl
