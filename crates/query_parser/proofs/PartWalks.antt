-- Going through the small parts of a statement: expressions, columns, operands, values and the heads of choices.
use Rattle.std.proofs.Common.{Bool, true, false, ◌≡◌, ◌∙◌, sym, ◌<◌, ◌≤◌, ℕ, ◌+◌, List, [], ◌∷◌, ◌++◌, Some, Ok, Err, subst, inl, inr, refl, arith, nat_lt}
use Rattle.std.proofs.lemmas.Bool.Decides.{nat_tests}
use Rattle.word_tokens.specs.Grammar.{Terminal, Nonterminal, IsFree}
use Rattle.feature_expr.specs.ExprGrammar.{Foreign, Outer, Disjunction, signs_of, IsRefused}
use Rattle.values.specs.declared.column_name.ColName.{ColName}
use Rattle.feature_expr.specs.declared.expr.Expr.{Expr}
use Rattle.feature_expr.specs.declared.parse.Fault.{Fault}
use Rattle.feature_expr.specs.declared.parse.Fault.TheVariants as expr_fault
use Rattle.word_tokens.specs.declared.token.Token.{Token}
use Rattle.vra_syntax.specs.declared.cond.Operand.{Operand}
use Rattle.query_parser.specs.Faults.{ColumnFault, column_memory, no_column, no_base, OperandFault, operand_memory, in_column, no_value, ExpressionFault, ChoiceFault, choice_too_deep, no_square, in_chooser, square_unclosed, no_sides, sides_too_deep}
use Rattle.query_parser.specs.Lexemes.{lexeme_at, name_at, value_at}
use Rattle.query_parser.specs.Parts.{IsColumn, plain_column, prefixed_column, IsOperand, column_operand, value_operand, IsExpression, IsChoice}
use Rattle.query_parser.specs.ExpressionFaults.{fault_of}
use Rattle.query_parser.specs.StatementGrammar.{takes, fitting, Form, outer, within, Sign, NAME, Expression, OperandPart, ColumnPart, Prefixed, ValuePart}
use Rattle.query_parser.specs.declared.fault.ParseFault.{ParseFault}
use Rattle.query_parser.specs.declared.fault.ParseFault.TheVariants as fault
use Rattle.query_parser.specs.declared.lexeme.Lexeme.TheVariants as lexeme
use Rattle.feature_expr.specs.Nesting.{nesting_limit}
use Rattle.query_parser.proofs.SignLaws.{or_takes, and_takes, name_takes, no_name_takes, IsValue, ValueFault, not_a_value, too_large, too_many, none_taken, value_takes, value_fault}
use Rattle.query_parser.proofs.Walks.{apart, grammar, token_fits, Takes, Moves, chain, Excluded, Never, not_this, but_that, NoneOf, no_part, choose, pass, pass_to, Faulty, reaches, behind, stuck, missing, deep}

module _ (text : List ℕ) (tokens : List Token) where
  free_of_links : (nesting limit : ℕ) (s : Form) → Never text tokens 0 s → Never text tokens 1 s → IsFree (grammar text tokens limit) (token_fits text tokens) (signs_of (Disjunction nesting)) s
  free_of_links nesting limit s no_or no_and = (λ at to fit order m. no_or at (or_takes text tokens at fit) limit to order m, (λ at to fit order m. no_and at (and_takes text tokens at fit) limit to order m, tt))

  pub moves_expression : (names : List (List ℕ)) (nesting at end : ℕ) (expr : Expr) (s : Form) → IsExpression names text tokens nesting at expr end → Never text tokens 0 s → Never text tokens 1 s → Moves text tokens (Expression nesting ∷ s) at s end
  moves_expression names nesting at end expr s is no_or no_and = record {
    order = (is.read (outer nesting_limit) (fitting text tokens) nesting_limit (omega arith)).order;
    on = λ limit to h later m. (is.read (outer limit) (fitting text tokens) limit h).on s to (free_of_links nesting limit s no_or no_and) later m;
    back = λ limit to h m. (is.read (outer limit) (fitting text tokens) limit h).back s to m;
  }

  expression_refused : (names : List (List ℕ)) (nesting at : ℕ) (inner : Fault) (s : Form) → nesting ≤ nesting_limit → IsRefused names text tokens nesting_limit (Disjunction nesting) at inner → Never text tokens 0 s → Never text tokens 1 s → Faulty text tokens (Expression nesting ∷ s) at (fault_of inner)
  expression_refused names nesting at (expr_fault.Syntax place) s high r no_or no_and =
      λ limit h. let f = r (outer limit) (fitting text tokens) limit h in
      record { order = f.reaches.order; before = f.reaches.viable s; never = λ to later m. f.never s to (free_of_links nesting limit s no_or no_and) later m }
  expression_refused names nesting at (expr_fault.TooDeep place) s high r no_or no_and = (
    let f = r.0 (outer nesting_limit) (fitting text tokens) in
        record { order = f.reaches.order; before = f.reaches.viable s; never = λ to later m. f.never s to (free_of_links nesting nesting_limit s no_or no_and) later m },
    λ limit h. let reached = r.1 (outer limit) (fitting text tokens) limit h (omega (arith, h, high)) in record { order = reached.order; goes = reached.viable s },
  )
  expression_refused names nesting at (expr_fault.UnknownFeature place) s high r no_or no_and =
      let reached = r.0 (outer nesting_limit) (fitting text tokens) in record { order = reached.order; goes = reached.viable s }
  expression_refused names nesting at expr_fault.Memory s high r no_or no_and = tt

  pub faulty_expression : (names : List (List ℕ)) (nesting at : ℕ) (why : ParseFault) (s : Form) → nesting ≤ nesting_limit → ExpressionFault names text tokens nesting at why → Never text tokens 0 s → Never text tokens 1 s → Faulty text tokens (Expression nesting ∷ s) at why
  faulty_expression names nesting at why s high f no_or no_and = subst (λ w. Faulty text tokens (Expression nesting ∷ s) at w) (sym f.given) (expression_refused names nesting at f.inner s high f.refused no_or no_and)

  -- columns
  pub column_takes : (at end : ℕ) (column : ColName) → IsColumn text tokens at column end → Takes text tokens 100 at
  column_takes at end column (plain_column base named other) = name_takes text tokens at base named
  column_takes at end column (prefixed_column prefix base named dot based) = name_takes text tokens at prefix named

  pub no_column_here : (s : Form) (at : ℕ) → takes 100 (lexeme_at text tokens at) ≡ false → Excluded text tokens (ColumnPart ∷ s) at
  no_column_here s at other = no_part text tokens 29 0 (λ limit. (NAME ∷ Prefixed ∷ []) ∷ []) s at (λ limit. refl) (λ limit. (not_this text tokens 100 (Prefixed ∷ s) at other, tt))

  pub never_column : (sign : ℕ) (s : Form) (at : ℕ) → apart sign 100 ≡ true → Takes text tokens sign at → Excluded text tokens (ColumnPart ∷ s) at
  never_column sign s at far is = no_part text tokens 29 0 (λ limit. (NAME ∷ Prefixed ∷ []) ∷ []) s at (λ limit. refl) (λ limit. (but_that text tokens sign 100 (Prefixed ∷ s) at far is, tt))

  open_column : (s : Form) (at : ℕ) (name : List ℕ) → name_at text tokens at ≡ Some name → Moves text tokens (ColumnPart ∷ s) at (Prefixed ∷ s) (at + 1)
  open_column s at name named = chain text tokens (choose text tokens 29 0 [] (NAME ∷ Prefixed ∷ []) [] s at (λ limit h. refl) tt tt) (pass text tokens 100 (Prefixed ∷ s) at (name_takes text tokens at name named))

  open_prefix : (s : Form) (at : ℕ) → Takes text tokens 39 (at + 1) → Never text tokens 39 s → Moves text tokens (Prefixed ∷ s) (at + 1) (NAME ∷ s) (at + 2)
  open_prefix s at dot free = chain text tokens (choose text tokens 30 0 ([] ∷ []) (Sign lexeme.Dot ∷ NAME ∷ []) [] s (at + 1) (λ limit h. refl) (free (at + 1) dot, tt) tt) (pass_to text tokens 39 (NAME ∷ s) (at + 1) (at + 2) (omega arith) dot)

  pub moves_column : (at end : ℕ) (column : ColName) (s : Form) → IsColumn text tokens at column end → Never text tokens 39 s → Moves text tokens (ColumnPart ∷ s) at s end
  moves_column at end column s (plain_column base named other) free =
      chain text tokens (open_column s at base named) (choose text tokens 30 0 [] [] ((Sign lexeme.Dot ∷ NAME ∷ []) ∷ []) s (at + 1) (λ limit h. refl) tt (not_this text tokens 39 (NAME ∷ s) (at + 1) other, tt))
  moves_column at end column s (prefixed_column prefix base named dot based) free =
      chain text tokens (open_column s at prefix named) (chain text tokens (open_prefix s at dot free) (pass_to text tokens 100 s (at + 2) (at + 3) (omega arith) (name_takes text tokens (at + 2) base based)))

  pub faulty_column : (at : ℕ) (why : ParseFault) (s : Form) → ColumnFault text tokens at why → Never text tokens 39 s → Faulty text tokens (ColumnPart ∷ s) at why
  faulty_column at why s column_memory free = tt
  faulty_column at why s (no_column none) free = stuck text tokens (ColumnPart ∷ s) at (no_column_here s at (no_name_takes text tokens at none))
  faulty_column at why s (no_base prefix named dot none) free =
      behind text tokens (fault.Syntax (at + 2)) (chain text tokens (open_column s at prefix named) (open_prefix s at dot free)) (missing text tokens 100 s (at + 2) (no_name_takes text tokens (at + 2) none))

  -- values and operands
  abbrev pub VALUES : List Form
  VALUES = (Sign lexeme.Integer ∷ []) ∷ (Sign lexeme.Text ∷ []) ∷ (Sign lexeme.Parameter ∷ []) ∷ (Sign lexeme.True ∷ []) ∷ (Sign lexeme.False ∷ []) ∷ []

  pub but : (one other : ℕ) (s : Form) (at : ℕ) → apart one other ≡ true → Takes text tokens one at → Excluded text tokens (Terminal (Foreign other) ∷ s) at
  but one other s at far is = but_that text tokens one other s at far is

  -- the form of a value, behind other forms
  value_form : (part : ℕ) (s : Form) (at : ℕ) (sign : ℕ) (before : List Form) (after : List Form) → ((limit : ℕ) → nesting_limit ≤ limit → outer limit part 0 ≡ before ++ (Terminal (Foreign sign) ∷ []) ∷ after) → NoneOf text tokens s at before → NoneOf text tokens s at after → Takes text tokens sign at → Moves text tokens (Nonterminal (Outer part 0) ∷ s) at s (at + 1)
  value_form part s at sign before after is none none' fit = chain text tokens (choose text tokens part 0 before (Terminal (Foreign sign) ∷ []) after s at is none none') (pass text tokens sign s at fit)

  pub moves_value_form : (s : Form) (at : ℕ) → IsValue text tokens (lexeme_at text tokens at) → Moves text tokens (ValuePart ∷ s) at s (at + 1)
  moves_value_form s at (inl i) =
      value_form 31 s at 30 [] ((Sign lexeme.Text ∷ []) ∷ (Sign lexeme.Parameter ∷ []) ∷ (Sign lexeme.True ∷ []) ∷ (Sign lexeme.False ∷ []) ∷ []) (λ limit h. refl) tt (but 30 31 s at refl i, (but 30 32 s at refl i, (but 30 3 s at refl i, (but 30 4 s at refl i, tt)))) i
  moves_value_form s at (inr (inl i)) =
      value_form 31 s at 31 ((Sign lexeme.Integer ∷ []) ∷ []) ((Sign lexeme.Parameter ∷ []) ∷ (Sign lexeme.True ∷ []) ∷ (Sign lexeme.False ∷ []) ∷ []) (λ limit h. refl) (but 31 30 s at refl i, tt) (but 31 32 s at refl i, (but 31 3 s at refl i, (but 31 4 s at refl i, tt))) i
  moves_value_form s at (inr (inr (inl i))) =
      value_form 31 s at 32 ((Sign lexeme.Integer ∷ []) ∷ (Sign lexeme.Text ∷ []) ∷ []) ((Sign lexeme.True ∷ []) ∷ (Sign lexeme.False ∷ []) ∷ []) (λ limit h. refl) (but 32 30 s at refl i, (but 32 31 s at refl i, tt)) (but 32 3 s at refl i, (but 32 4 s at refl i, tt)) i
  moves_value_form s at (inr (inr (inr (inl i)))) =
      value_form 31 s at 3 ((Sign lexeme.Integer ∷ []) ∷ (Sign lexeme.Text ∷ []) ∷ (Sign lexeme.Parameter ∷ []) ∷ []) ((Sign lexeme.False ∷ []) ∷ []) (λ limit h. refl) (but 3 30 s at refl i, (but 3 31 s at refl i, (but 3 32 s at refl i, tt))) (but 3 4 s at refl i, tt) i
  moves_value_form s at (inr (inr (inr (inr i)))) =
      value_form 31 s at 4 ((Sign lexeme.Integer ∷ []) ∷ (Sign lexeme.Text ∷ []) ∷ (Sign lexeme.Parameter ∷ []) ∷ (Sign lexeme.True ∷ []) ∷ []) [] (λ limit h. refl) (but 4 30 s at refl i, (but 4 31 s at refl i, (but 4 32 s at refl i, (but 4 3 s at refl i, tt)))) tt i

  pub moves_value : (with_params : Bool) (at : ℕ) (value : Operand) (s : Form) → value_at with_params text tokens at ≡ Ok value → Moves text tokens (ValuePart ∷ s) at s (at + 1)
  moves_value with_params at value s is = moves_value_form s at (value_takes text tokens with_params at value is)

  -- where no value stands, or one that is refused
  faulty_value_by : (s : Form) (at : ℕ) (why : ParseFault) → ValueFault text tokens (lexeme_at text tokens at) at why → Faulty text tokens (ValuePart ∷ s) at why
  faulty_value_by s at why (not_a_value none) =
      stuck text tokens (ValuePart ∷ s) at (no_part text tokens 31 0 (λ limit. VALUES) s at (λ limit. refl) (λ limit. (not_this text tokens 30 s at none.0, (not_this text tokens 31 s at none.1, (not_this text tokens 32 s at none.2, (not_this text tokens 3 s at none.3, (not_this text tokens 4 s at none.4, tt)))))))
  faulty_value_by s at why (too_large i) = reaches text tokens nesting_limit (omega arith) (moves_value_form s at (inl i))
  faulty_value_by s at why (too_many i) = reaches text tokens nesting_limit (omega arith) (moves_value_form s at (inr (inr (inl i))))
  faulty_value_by s at why (none_taken i) = reaches text tokens nesting_limit (omega arith) (moves_value_form s at (inr (inr (inl i))))

  pub faulty_value : (with_params : Bool) (at : ℕ) (why : ParseFault) (s : Form) → value_at with_params text tokens at ≡ Err why → Faulty text tokens (ValuePart ∷ s) at why
  faulty_value with_params at why s is = faulty_value_by s at why (value_fault text tokens with_params at why is)

  pub moves_operand_form : (s : Form) (at : ℕ) → takes 100 (lexeme_at text tokens at) ≡ false → IsValue text tokens (lexeme_at text tokens at) → Moves text tokens (OperandPart ∷ s) at s (at + 1)
  moves_operand_form s at other (inl i) =
      value_form 28 s at 30 ((ColumnPart ∷ []) ∷ []) ((Sign lexeme.Text ∷ []) ∷ (Sign lexeme.Parameter ∷ []) ∷ (Sign lexeme.True ∷ []) ∷ (Sign lexeme.False ∷ []) ∷ []) (λ limit h. refl) (no_column_here s at other, tt) (but 30 31 s at refl i, (but 30 32 s at refl i, (but 30 3 s at refl i, (but 30 4 s at refl i, tt)))) i
  moves_operand_form s at other (inr (inl i)) =
      value_form 28 s at 31 ((ColumnPart ∷ []) ∷ (Sign lexeme.Integer ∷ []) ∷ []) ((Sign lexeme.Parameter ∷ []) ∷ (Sign lexeme.True ∷ []) ∷ (Sign lexeme.False ∷ []) ∷ []) (λ limit h. refl) (no_column_here s at other, (but 31 30 s at refl i, tt)) (but 31 32 s at refl i, (but 31 3 s at refl i, (but 31 4 s at refl i, tt))) i
  moves_operand_form s at other (inr (inr (inl i))) =
      value_form 28 s at 32 ((ColumnPart ∷ []) ∷ (Sign lexeme.Integer ∷ []) ∷ (Sign lexeme.Text ∷ []) ∷ []) ((Sign lexeme.True ∷ []) ∷ (Sign lexeme.False ∷ []) ∷ []) (λ limit h. refl) (no_column_here s at other, (but 32 30 s at refl i, (but 32 31 s at refl i, tt))) (but 32 3 s at refl i, (but 32 4 s at refl i, tt)) i
  moves_operand_form s at other (inr (inr (inr (inl i)))) =
      value_form 28 s at 3 ((ColumnPart ∷ []) ∷ (Sign lexeme.Integer ∷ []) ∷ (Sign lexeme.Text ∷ []) ∷ (Sign lexeme.Parameter ∷ []) ∷ []) ((Sign lexeme.False ∷ []) ∷ []) (λ limit h. refl) (no_column_here s at other, (but 3 30 s at refl i, (but 3 31 s at refl i, (but 3 32 s at refl i, tt)))) (but 3 4 s at refl i, tt) i
  moves_operand_form s at other (inr (inr (inr (inr i)))) =
      value_form 28 s at 4 ((ColumnPart ∷ []) ∷ (Sign lexeme.Integer ∷ []) ∷ (Sign lexeme.Text ∷ []) ∷ (Sign lexeme.Parameter ∷ []) ∷ (Sign lexeme.True ∷ []) ∷ []) [] (λ limit h. refl) (no_column_here s at other, (but 4 30 s at refl i, (but 4 31 s at refl i, (but 4 32 s at refl i, (but 4 3 s at refl i, tt))))) tt i

  open_operand_column : (s : Form) (at : ℕ) → Takes text tokens 100 at → Moves text tokens (OperandPart ∷ s) at (ColumnPart ∷ s) at
  open_operand_column s at i = choose text tokens 28 0 [] (ColumnPart ∷ []) VALUES s at (λ limit h. refl) tt (but 100 30 s at refl i, (but 100 31 s at refl i, (but 100 32 s at refl i, (but 100 3 s at refl i, (but 100 4 s at refl i, tt)))))

  pub moves_operand : (with_params : Bool) (at end : ℕ) (value : Operand) (s : Form) → IsOperand with_params text tokens at value end → Never text tokens 39 s → Moves text tokens (OperandPart ∷ s) at s end
  moves_operand with_params at end value s (column_operand column last is) free = chain text tokens (open_operand_column s at (column_takes at end column is)) (moves_column at end column s is free)
  moves_operand with_params at end value s (value_operand v none is) free = moves_operand_form s at (no_name_takes text tokens at none) (value_takes text tokens with_params at value is)

  faulty_operand_by : (s : Form) (at : ℕ) (why : ParseFault) → takes 100 (lexeme_at text tokens at) ≡ false → ValueFault text tokens (lexeme_at text tokens at) at why → Faulty text tokens (OperandPart ∷ s) at why
  faulty_operand_by s at why other (not_a_value none) =
      stuck text tokens (OperandPart ∷ s) at (no_part text tokens 28 0 (λ limit. (ColumnPart ∷ []) ∷ VALUES) s at (λ limit. refl) (λ limit. (no_column_here s at other, (not_this text tokens 30 s at none.0, (not_this text tokens 31 s at none.1, (not_this text tokens 32 s at none.2, (not_this text tokens 3 s at none.3, (not_this text tokens 4 s at none.4, tt))))))))
  faulty_operand_by s at why other (too_large i) = reaches text tokens nesting_limit (omega arith) (moves_operand_form s at other (inl i))
  faulty_operand_by s at why other (too_many i) = reaches text tokens nesting_limit (omega arith) (moves_operand_form s at other (inr (inr (inl i))))
  faulty_operand_by s at why other (none_taken i) = reaches text tokens nesting_limit (omega arith) (moves_operand_form s at other (inr (inr (inl i))))

  pub faulty_operand : (with_params : Bool) (at : ℕ) (why : ParseFault) (s : Form) → OperandFault with_params text tokens at why → Never text tokens 39 s → Faulty text tokens (OperandPart ∷ s) at why
  faulty_operand with_params at why s operand_memory free = tt
  faulty_operand with_params at why s (in_column name w named f) free = behind text tokens why (open_operand_column s at (name_takes text tokens at name named)) (faulty_column at why s f free)
  faulty_operand with_params at why s (no_value w none is) free = faulty_operand_by s at why (no_name_takes text tokens at none) (value_fault text tokens with_params at why is)

  -- the head of a choice, up to the bracket in which its sides stand
  abbrev pub ChoiceHead : ℕ → ℕ → Form
  ChoiceHead sides n = Sign lexeme.Choice ∷ Sign lexeme.OpenSquare ∷ Expression (n + 1) ∷ Sign lexeme.CloseSquare ∷ Nonterminal (Outer sides (n + 1)) ∷ []

  to_square : (sides n at : ℕ) (s : Form) → Takes text tokens 14 at → Moves text tokens (ChoiceHead sides n ++ s) at (Sign lexeme.OpenSquare ∷ Expression (n + 1) ∷ Sign lexeme.CloseSquare ∷ Nonterminal (Outer sides (n + 1)) ∷ s) (at + 1)
  to_square sides n at s i = pass text tokens 14 (Sign lexeme.OpenSquare ∷ Expression (n + 1) ∷ Sign lexeme.CloseSquare ∷ Nonterminal (Outer sides (n + 1)) ∷ s) at i

  to_chooser : (sides n at : ℕ) (s : Form) → Takes text tokens 14 at → Takes text tokens 35 (at + 1) → Moves text tokens (ChoiceHead sides n ++ s) at (Expression (n + 1) ∷ Sign lexeme.CloseSquare ∷ Nonterminal (Outer sides (n + 1)) ∷ s) (at + 2)
  to_chooser sides n at s i j = chain text tokens (to_square sides n at s i) (pass_to text tokens 35 (Expression (n + 1) ∷ Sign lexeme.CloseSquare ∷ Nonterminal (Outer sides (n + 1)) ∷ s) (at + 1) (at + 2) (omega arith) j)

  to_close : (names : List (List ℕ)) (sides n at close : ℕ) (expr : Expr) (s : Form) → Takes text tokens 14 at → Takes text tokens 35 (at + 1) → IsExpression names text tokens (n + 1) (at + 2) expr close → Moves text tokens (ChoiceHead sides n ++ s) at (Sign lexeme.CloseSquare ∷ Nonterminal (Outer sides (n + 1)) ∷ s) close
  to_close names sides n at close expr s i j is =
      let s' = Sign lexeme.CloseSquare ∷ Nonterminal (Outer sides (n + 1)) ∷ s in
      chain text tokens (to_chooser sides n at s i j) (moves_expression names (n + 1) (at + 2) close expr s' is (λ place k. but 0 36 (Nonterminal (Outer sides (n + 1)) ∷ s) place refl k) (λ place k. but 1 36 (Nonterminal (Outer sides (n + 1)) ∷ s) place refl k))

  to_sides : (names : List (List ℕ)) (sides n at close : ℕ) (expr : Expr) (s : Form) → Takes text tokens 14 at → Takes text tokens 35 (at + 1) → IsExpression names text tokens (n + 1) (at + 2) expr close → Takes text tokens 36 close → Moves text tokens (ChoiceHead sides n ++ s) at (Nonterminal (Outer sides (n + 1)) ∷ s) (close + 1)
  to_sides names sides n at close expr s i j is k = chain text tokens (to_close names sides n at close expr s i j is) (pass text tokens 36 (Nonterminal (Outer sides (n + 1)) ∷ s) close k)

  -- the forms of the sides, which stand in brackets
  abbrev pub HasSides : ℕ → ℕ → Form → Type 0
  HasSides sides n body = (limit : ℕ) → outer limit sides (n + 1) ≡ within (nat_lt (n + 1) limit) ((Sign lexeme.Open ∷ body) ∷ [])

  pub within_is : (n limit : ℕ) (all : List Form) → n < limit → within (nat_lt n limit) all ≡ all
  within_is n limit all h = rw (below h) refl
    where
      below : n < limit → nat_lt n limit ≡ true
      below h = grind (arith, nat_tests)

  pub within_none : (n limit : ℕ) (all : List Form) → limit ≤ n → within (nat_lt n limit) all ≡ []
  within_none n limit all h = rw (above h) refl
    where
      above : limit ≤ n → nat_lt n limit ≡ false
      above h = grind (arith, nat_tests)

  pub moves_choice : (names : List (List ℕ)) (sides n at left : ℕ) (expr : Expr) (body : Form) (s : Form) → HasSides sides n body → IsChoice names text tokens n at expr left → Moves text tokens (ChoiceHead sides n ++ s) at (body ++ s) left
  moves_choice names sides n at left expr body s has is =
      chain text tokens (to_sides names sides n at is.close expr s is.begins is.square is.chooses is.squared)
      (chain text tokens (choose text tokens sides (n + 1) [] (Sign lexeme.Open ∷ body) [] s (is.close + 1) (λ limit h. has limit ∙ within_is (n + 1) limit ((Sign lexeme.Open ∷ body) ∷ []) (omega (arith, is.sides_within, h))) tt tt)
      (pass_to text tokens 33 (body ++ s) (is.close + 1) left (omega (arith, is.ends)) is.opens))

  pub faulty_choice : (names : List (List ℕ)) (sides n at : ℕ) (why : ParseFault) (body : Form) (whole : Form) (s : Form) → HasSides sides n body → (Takes text tokens 14 at → nesting_limit ≤ n → Faulty text tokens whole at (fault.TooDeep at)) → (Takes text tokens 14 at → n < nesting_limit → Moves text tokens whole at (ChoiceHead sides n ++ s) at) → ChoiceFault names text tokens n at why → Faulty text tokens whole at why
  faulty_choice names sides n at why body whole s has too_deep opened (choice_too_deep i low) = too_deep i low
  faulty_choice names sides n at why body whole s has too_deep opened (no_square i high other) =
      behind text tokens (fault.Syntax (at + 1)) (chain text tokens (opened i high) (to_square sides n at s i)) (missing text tokens 35 (Expression (n + 1) ∷ Sign lexeme.CloseSquare ∷ Nonterminal (Outer sides (n + 1)) ∷ s) (at + 1) other)
  faulty_choice names sides n at why body whole s has too_deep opened (in_chooser w i high j f) =
      let s' = Sign lexeme.CloseSquare ∷ Nonterminal (Outer sides (n + 1)) ∷ s in
      behind text tokens why (chain text tokens (opened i high) (to_chooser sides n at s i j)) (faulty_expression names (n + 1) (at + 2) why s' (omega (arith, high)) f (λ place k. but 0 36 (Nonterminal (Outer sides (n + 1)) ∷ s) place refl k) (λ place k. but 1 36 (Nonterminal (Outer sides (n + 1)) ∷ s) place refl k))
  faulty_choice names sides n at why body whole s has too_deep opened (square_unclosed expr close i high j is other) =
      behind text tokens (fault.Syntax close) (chain text tokens (opened i high) (to_close names sides n at close expr s i j is)) (missing text tokens 36 (Nonterminal (Outer sides (n + 1)) ∷ s) close other)
  faulty_choice names sides n at why body whole s has too_deep opened (no_sides expr close i high j is k other) =
      behind text tokens (fault.Syntax (close + 1)) (chain text tokens (opened i high) (to_sides names sides n at close expr s i j is k)) (stuck text tokens (Nonterminal (Outer sides (n + 1)) ∷ s) (close + 1) (no_part text tokens sides (n + 1) (λ limit. within (nat_lt (n + 1) limit) ((Sign lexeme.Open ∷ body) ∷ [])) s (close + 1) has (λ limit. none_within (nat_lt (n + 1) limit))))
    where
      none_within : (b : Bool) → NoneOf text tokens s (close + 1) (within b ((Sign lexeme.Open ∷ body) ∷ []))
      none_within true = (not_this text tokens 33 (body ++ s) (close + 1) other, tt)
      none_within false = tt
  faulty_choice names sides n at why body whole s has too_deep opened (sides_too_deep expr close i high j is k l low) =
      behind text tokens (fault.TooDeep (close + 1)) (chain text tokens (opened i high) (to_sides names sides n at close expr s i j is k))
      (deep text tokens sides (n + 1) 33 [] [] [] body s (close + 1) low l (has nesting_limit ∙ within_none (n + 1) nesting_limit ((Sign lexeme.Open ∷ body) ∷ []) low) tt (λ limit h lower. has limit ∙ within_is (n + 1) limit ((Sign lexeme.Open ∷ body) ∷ []) lower) (omega (arith, high)))
