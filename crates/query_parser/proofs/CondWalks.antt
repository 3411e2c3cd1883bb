-- Going through a condition on rows.
use Rattle.std.proofs.Common.{Bool, true, false, ◌≡◌, ◌≢◌, ◌∙◌, ◌<◌, ◌≤◌, ℕ, ◌+◌, List, [], ◌∷◌, ◌++◌, Some, None, ◌⊎◌, inl, inr, refl, arith, nat_lt}
use Rattle.std.proofs.lemmas.Bool.Decides.{nat_tests}
use Rattle.word_tokens.specs.Grammar.{Terminal, Nonterminal}
use Rattle.feature_expr.specs.ExprGrammar.{Foreign, Outer}
use Rattle.feature_expr.specs.declared.expr.Expr.{Expr}
use Rattle.word_tokens.specs.declared.token.Token.{Token}
use Rattle.values.specs.declared.value.Value.TheVariants as value
use Rattle.vra_syntax.specs.declared.cond.Cond.{Cond}
use Rattle.vra_syntax.specs.declared.cond.Op.{Op}
use Rattle.vra_syntax.specs.declared.cond.Operand.{Operand}
use Rattle.vra_syntax.specs.declared.cond.Operand.TheVariants as operand
use Rattle.query_parser.specs.Conditions.{CondPart, OrChain, Condition, AndChain, Conjunction, Negation, SpellsCond, one_conjunction, another_conjunction, whole_condition, one_negation, another_negation, whole_conjunction, not_condition, condition_in_brackets, choice_of_conditions, comparison, truth, falsehood, IsWhere, no_where, some_where}
use Rattle.query_parser.specs.Faults.{OperandFault, operand_memory, in_column, no_value, CondFault, cond_memory, in_first_conjunction, in_next_conjunction, in_first_negation, in_next_negation, not_too_deep, in_not, cond_too_deep, in_cond_brackets, cond_unclosed, in_cond_choice, in_left_cond, no_right_cond, in_right_cond, cond_sides_unclosed, in_left_operand, no_comparison, in_right_operand, WhereFault}
use Rattle.query_parser.specs.Lexemes.{lexeme_at, stands, op_at}
use Rattle.query_parser.specs.Parts.{IsOperand, column_operand, value_operand, IsChoice}
use Rattle.query_parser.specs.StatementGrammar as grammar
use Rattle.query_parser.specs.StatementGrammar.{takes, Form, outer, within, Sign, COMPARISON, Expression, ColumnPart, OperandPart, AfterTruth, CondNegation, CondConjunction, MoreAnd, MoreOr, Where}
use Rattle.query_parser.specs.declared.fault.ParseFault.{ParseFault}
use Rattle.query_parser.specs.declared.fault.ParseFault.TheVariants as fault
use Rattle.query_parser.specs.declared.lexeme.Lexeme.TheVariants as lexeme
use Rattle.feature_expr.specs.Nesting.{nesting_limit}
use Rattle.query_parser.proofs.SignLaws.{name_takes, no_name_takes, op_takes, no_op_takes, IsValue, ValueFault, not_a_value, too_large, too_many, none_taken, value_takes, value_fault, bool_takes, plain_takes}
use Rattle.query_parser.proofs.Walks.{apart, Takes, Moves, chain, Never, not_this, NoneOf, no_part, choose, choose_by, pass, Faulty, reaches, behind, stuck, missing, deep}
use Rattle.query_parser.proofs.PartWalks.{but, column_takes, no_column_here, never_column, moves_column, faulty_column, moves_operand, faulty_operand, ChoiceHead, HasSides, moves_choice, faulty_choice}

module _ (text : List ℕ) (tokens : List Token) where
  -- what may follow a condition begins with none of the signs that would go on it
  pub record FreeNegation (s : Form) : Type 0 where
    pub comparison_free : Never text tokens 102 s
    pub dot_free : Never text tokens 39 s

  pub record FreeConjunction (s : Form) : Type 0 where
    pub and_free : Never text tokens 1 s
    pub negation_free : FreeNegation s

  pub record FreeCondition (s : Form) : Type 0 where
    pub or_free : Never text tokens 0 s
    pub conjunction_free : FreeConjunction s

  -- a sign that stands for itself
  pub free_sign : (sign : ℕ) (s : Form) → apart 102 sign ≡ true → apart 39 sign ≡ true → apart 1 sign ≡ true → apart 0 sign ≡ true → FreeCondition (Terminal (Foreign sign) ∷ s)
  free_sign sign s a b c d = record {
    or_free = λ at i. but text tokens 0 sign s at d i;
    conjunction_free = record {
      and_free = λ at i. but text tokens 1 sign s at c i;
      negation_free = record { comparison_free = λ at i. but text tokens 102 sign s at a i; dot_free = λ at i. but text tokens 39 sign s at b i };
    };
  }

  -- a part that may be missing, whose other form begins with a sign
  pub never_optional : (part n sign other : ℕ) (rest : Form) (s : Form) → ((limit : ℕ) → outer limit part n ≡ [] ∷ (Terminal (Foreign other) ∷ rest) ∷ []) → apart sign other ≡ true → Never text tokens sign s → Never text tokens sign (Nonterminal (Outer part n) ∷ s)
  never_optional part n sign other rest s is far free at i =
      no_part text tokens part n (λ limit. [] ∷ (Terminal (Foreign other) ∷ rest) ∷ []) s at is (λ limit. (free at i, (but text tokens sign other (rest ++ s) at far i, tt)))

  pub free_optional : (part n other : ℕ) (rest : Form) (s : Form) → ((limit : ℕ) → outer limit part n ≡ [] ∷ (Terminal (Foreign other) ∷ rest) ∷ []) → apart 102 other ≡ true → apart 39 other ≡ true → apart 1 other ≡ true → apart 0 other ≡ true → FreeCondition s → FreeCondition (Nonterminal (Outer part n) ∷ s)
  free_optional part n other rest s is a b c d free = record {
    or_free = never_optional part n 0 other rest s is d free.or_free;
    conjunction_free = record {
      and_free = never_optional part n 1 other rest s is c free.conjunction_free.and_free;
      negation_free = record {
        comparison_free = never_optional part n 102 other rest s is a free.conjunction_free.negation_free.comparison_free;
        dot_free = never_optional part n 39 other rest s is b free.conjunction_free.negation_free.dot_free;
      };
    };
  }

  -- behind a conjunction `or` may follow, and behind a negation `and`
  conjunction_behind : (n : ℕ) (s : Form) → FreeCondition s → FreeConjunction (MoreOr n ∷ s)
  conjunction_behind n s free =
      let rest = CondConjunction n ∷ MoreOr n ∷ [] in
      record {
        and_free = never_optional 22 n 1 0 rest s (λ limit. refl) refl free.conjunction_free.and_free;
        negation_free = record {
          comparison_free = never_optional 22 n 102 0 rest s (λ limit. refl) refl free.conjunction_free.negation_free.comparison_free;
          dot_free = never_optional 22 n 39 0 rest s (λ limit. refl) refl free.conjunction_free.negation_free.dot_free;
        };
      }

  negation_behind : (n : ℕ) (s : Form) → FreeConjunction s → FreeNegation (MoreAnd n ∷ s)
  negation_behind n s free =
      let rest = CondNegation n ∷ MoreAnd n ∷ [] in
      record {
        comparison_free = never_optional 24 n 102 1 rest s (λ limit. refl) refl free.negation_free.comparison_free;
        dot_free = never_optional 24 n 39 1 rest s (λ limit. refl) refl free.negation_free.dot_free;
      }

  -- a part that may be missing and is
  pub skip : (part n other : ℕ) (rest : Form) (s : Form) (at : ℕ) → ((limit : ℕ) → outer limit part n ≡ [] ∷ (Terminal (Foreign other) ∷ rest) ∷ []) → takes other (lexeme_at text tokens at) ≡ false → Moves text tokens (Nonterminal (Outer part n) ∷ s) at s at
  skip part n other rest s at is none = choose text tokens part n [] [] ((Terminal (Foreign other) ∷ rest) ∷ []) s at (λ limit h. is limit) tt (not_this text tokens other (rest ++ s) at none, tt)

  -- and isn't
  pub enter : (part n other : ℕ) (rest : Form) (s : Form) (at : ℕ) → ((limit : ℕ) → outer limit part n ≡ [] ∷ (Terminal (Foreign other) ∷ rest) ∷ []) → Takes text tokens other at → Never text tokens other s → Moves text tokens (Nonterminal (Outer part n) ∷ s) at (rest ++ s) (at + 1)
  enter part n other rest s at is i free = chain text tokens (choose text tokens part n ([] ∷ []) (Terminal (Foreign other) ∷ rest) [] s at (λ limit h. is limit) (free at i, tt) tt) (pass text tokens other (rest ++ s) at i)

  -- the forms of a negation
  abbrev pub BASE : List Form
  BASE =
      (ColumnPart ∷ COMPARISON ∷ OperandPart ∷ []) ∷ (Sign lexeme.Integer ∷ COMPARISON ∷ OperandPart ∷ []) ∷ (Sign lexeme.Text ∷ COMPARISON ∷ OperandPart ∷ []) ∷ (Sign lexeme.Parameter ∷ COMPARISON ∷ OperandPart ∷ [])
      ∷ (Sign lexeme.True ∷ AfterTruth ∷ []) ∷ (Sign lexeme.False ∷ AfterTruth ∷ []) ∷ []

  abbrev pub INNER : ℕ → List Form
  INNER n = (Sign lexeme.Not ∷ CondNegation (n + 1) ∷ []) ∷ (Sign lexeme.Open ∷ grammar.CondPart (n + 1) ∷ Sign lexeme.Close ∷ []) ∷ ChoiceHead text tokens 26 n ∷ []

  negation_forms : (n limit : ℕ) → n < limit → outer limit 25 n ≡ BASE ++ INNER n
  negation_forms n limit h = rw (below h) refl
    where
      below : n < limit → nat_lt n limit ≡ true
      below h = grind (arith, nat_tests)

  base_forms : (n limit : ℕ) → limit ≤ n → outer limit 25 n ≡ BASE
  base_forms n limit h = rw (above h) refl
    where
      above : limit ≤ n → nat_lt n limit ≡ false
      above h = grind (arith, nat_tests)

  -- a token that is no operand
  none_of_base : (sign : ℕ) (s : Form) (at : ℕ) → apart sign 100 ≡ true → apart sign 30 ≡ true → apart sign 31 ≡ true → apart sign 32 ≡ true → apart sign 3 ≡ true → apart sign 4 ≡ true → Takes text tokens sign at → NoneOf text tokens s at BASE
  none_of_base sign s at a b c d e f i =
      (never_column text tokens sign (COMPARISON ∷ OperandPart ∷ s) at a i, (but text tokens sign 30 (COMPARISON ∷ OperandPart ∷ s) at b i, (but text tokens sign 31 (COMPARISON ∷ OperandPart ∷ s) at c i, (but text tokens sign 32 (COMPARISON ∷ OperandPart ∷ s) at d i, (but text tokens sign 3 (AfterTruth ∷ s) at e i, (but text tokens sign 4 (AfterTruth ∷ s) at f i, tt))))))

  -- an operand begins none of the forms that nest
  none_of_inner : (sign n : ℕ) (s : Form) (at : ℕ) (b : Bool) → apart sign 2 ≡ true → apart sign 33 ≡ true → apart sign 14 ≡ true → Takes text tokens sign at → NoneOf text tokens s at (within b (INNER n))
  none_of_inner sign n s at true a b c i =
      (but text tokens sign 2 (CondNegation (n + 1) ∷ s) at a i, (but text tokens sign 33 (grammar.CondPart (n + 1) ∷ Sign lexeme.Close ∷ s) at b i, (but text tokens sign 14 (Sign lexeme.OpenSquare ∷ Expression (n + 1) ∷ Sign lexeme.CloseSquare ∷ Nonterminal (Outer 26 (n + 1)) ∷ s) at c i, tt)))
  none_of_inner sign n s at false a b c i = tt

  -- an operand that is no truth, up to the comparison
  open_plain : (n sign : ℕ) (before after : List Form) (s : Form) (at : ℕ) → ((limit : ℕ) → outer limit 25 n ≡ before ++ (Terminal (Foreign sign) ∷ COMPARISON ∷ OperandPart ∷ []) ∷ (after ++ within (nat_lt n limit) (INNER n))) → NoneOf text tokens s at before → ((limit : ℕ) → NoneOf text tokens s at (after ++ within (nat_lt n limit) (INNER n))) → Takes text tokens sign at → Moves text tokens (CondNegation n ∷ s) at (COMPARISON ∷ OperandPart ∷ s) (at + 1)
  open_plain n sign before after s at is none none' i =
      chain text tokens (choose_by text tokens 25 n before (Terminal (Foreign sign) ∷ COMPARISON ∷ OperandPart ∷ []) (λ limit. after ++ within (nat_lt n limit) (INNER n)) s at (λ limit h. is limit) none none') (pass text tokens sign (COMPARISON ∷ OperandPart ∷ s) at i)

  to_comparison : (n : ℕ) (s : Form) (at : ℕ) → takes 100 (lexeme_at text tokens at) ≡ false → (Takes text tokens 30 at) ⊎ ((Takes text tokens 31 at) ⊎ (Takes text tokens 32 at)) → Moves text tokens (CondNegation n ∷ s) at (COMPARISON ∷ OperandPart ∷ s) (at + 1)
  to_comparison n s at other (inl i) =
      let s' = COMPARISON ∷ OperandPart ∷ s in
      open_plain n 30 ((ColumnPart ∷ COMPARISON ∷ OperandPart ∷ []) ∷ []) ((Sign lexeme.Text ∷ COMPARISON ∷ OperandPart ∷ []) ∷ (Sign lexeme.Parameter ∷ COMPARISON ∷ OperandPart ∷ []) ∷ (Sign lexeme.True ∷ AfterTruth ∷ []) ∷ (Sign lexeme.False ∷ AfterTruth ∷ []) ∷ []) s at (λ limit. refl)
      (no_column_here text tokens s' at other, tt)
      (λ limit. (but text tokens 30 31 s' at refl i, (but text tokens 30 32 s' at refl i, (but text tokens 30 3 (AfterTruth ∷ s) at refl i, (but text tokens 30 4 (AfterTruth ∷ s) at refl i, none_of_inner 30 n s at (nat_lt n limit) refl refl refl i))))) i
  to_comparison n s at other (inr (inl i)) =
      let s' = COMPARISON ∷ OperandPart ∷ s in
      open_plain n 31 ((ColumnPart ∷ COMPARISON ∷ OperandPart ∷ []) ∷ (Sign lexeme.Integer ∷ COMPARISON ∷ OperandPart ∷ []) ∷ []) ((Sign lexeme.Parameter ∷ COMPARISON ∷ OperandPart ∷ []) ∷ (Sign lexeme.True ∷ AfterTruth ∷ []) ∷ (Sign lexeme.False ∷ AfterTruth ∷ []) ∷ []) s at (λ limit. refl)
      (no_column_here text tokens s' at other, (but text tokens 31 30 s' at refl i, tt))
      (λ limit. (but text tokens 31 32 s' at refl i, (but text tokens 31 3 (AfterTruth ∷ s) at refl i, (but text tokens 31 4 (AfterTruth ∷ s) at refl i, none_of_inner 31 n s at (nat_lt n limit) refl refl refl i)))) i
  to_comparison n s at other (inr (inr i)) =
      let s' = COMPARISON ∷ OperandPart ∷ s in
      open_plain n 32 ((ColumnPart ∷ COMPARISON ∷ OperandPart ∷ []) ∷ (Sign lexeme.Integer ∷ COMPARISON ∷ OperandPart ∷ []) ∷ (Sign lexeme.Text ∷ COMPARISON ∷ OperandPart ∷ []) ∷ []) ((Sign lexeme.True ∷ AfterTruth ∷ []) ∷ (Sign lexeme.False ∷ AfterTruth ∷ []) ∷ []) s at (λ limit. refl)
      (no_column_here text tokens s' at other, (but text tokens 32 30 s' at refl i, (but text tokens 32 31 s' at refl i, tt)))
      (λ limit. (but text tokens 32 3 (AfterTruth ∷ s) at refl i, (but text tokens 32 4 (AfterTruth ∷ s) at refl i, none_of_inner 32 n s at (nat_lt n limit) refl refl refl i))) i

  -- behind `true` or `false`
  to_truth : (n : ℕ) (s : Form) (at : ℕ) → takes 100 (lexeme_at text tokens at) ≡ false → (Takes text tokens 3 at) ⊎ (Takes text tokens 4 at) → Moves text tokens (CondNegation n ∷ s) at (AfterTruth ∷ s) (at + 1)
  to_truth n s at other (inl i) =
      let s' = COMPARISON ∷ OperandPart ∷ s in
      chain text tokens (choose_by text tokens 25 n
      ((ColumnPart ∷ COMPARISON ∷ OperandPart ∷ []) ∷ (Sign lexeme.Integer ∷ COMPARISON ∷ OperandPart ∷ []) ∷ (Sign lexeme.Text ∷ COMPARISON ∷ OperandPart ∷ []) ∷ (Sign lexeme.Parameter ∷ COMPARISON ∷ OperandPart ∷ []) ∷ []) (Sign lexeme.True ∷ AfterTruth ∷ []) (λ limit. (Sign lexeme.False ∷ AfterTruth ∷ []) ∷ within (nat_lt n limit) (INNER n)) s at (λ limit h. refl)
      (no_column_here text tokens s' at other, (but text tokens 3 30 s' at refl i, (but text tokens 3 31 s' at refl i, (but text tokens 3 32 s' at refl i, tt))))
      (λ limit. (but text tokens 3 4 (AfterTruth ∷ s) at refl i, none_of_inner 3 n s at (nat_lt n limit) refl refl refl i)))
      (pass text tokens 3 (AfterTruth ∷ s) at i)
  to_truth n s at other (inr i) =
      let s' = COMPARISON ∷ OperandPart ∷ s in
      chain text tokens (choose_by text tokens 25 n
      ((ColumnPart ∷ COMPARISON ∷ OperandPart ∷ []) ∷ (Sign lexeme.Integer ∷ COMPARISON ∷ OperandPart ∷ []) ∷ (Sign lexeme.Text ∷ COMPARISON ∷ OperandPart ∷ []) ∷ (Sign lexeme.Parameter ∷ COMPARISON ∷ OperandPart ∷ []) ∷ (Sign lexeme.True ∷ AfterTruth ∷ []) ∷ []) (Sign lexeme.False ∷ AfterTruth ∷ []) (λ limit. within (nat_lt n limit) (INNER n)) s at (λ limit h. refl)
      (no_column_here text tokens s' at other, (but text tokens 4 30 s' at refl i, (but text tokens 4 31 s' at refl i, (but text tokens 4 32 s' at refl i, (but text tokens 4 3 (AfterTruth ∷ s) at refl i, tt)))))
      (λ limit. none_of_inner 4 n s at (nat_lt n limit) refl refl refl i))
      (pass text tokens 4 (AfterTruth ∷ s) at i)

  to_compared_column : (n : ℕ) (s : Form) (at : ℕ) → Takes text tokens 100 at → Moves text tokens (CondNegation n ∷ s) at (ColumnPart ∷ COMPARISON ∷ OperandPart ∷ s) at
  to_compared_column n s at i =
      let s' = COMPARISON ∷ OperandPart ∷ s in
      choose_by text tokens 25 n [] (ColumnPart ∷ COMPARISON ∷ OperandPart ∷ [])
      (λ limit. (Sign lexeme.Integer ∷ COMPARISON ∷ OperandPart ∷ []) ∷ (Sign lexeme.Text ∷ COMPARISON ∷ OperandPart ∷ []) ∷ (Sign lexeme.Parameter ∷ COMPARISON ∷ OperandPart ∷ []) ∷ (Sign lexeme.True ∷ AfterTruth ∷ []) ∷ (Sign lexeme.False ∷ AfterTruth ∷ []) ∷ within (nat_lt n limit) (INNER n)) s at (λ limit h. refl) tt
      (λ limit. (but text tokens 100 30 s' at refl i, (but text tokens 100 31 s' at refl i, (but text tokens 100 32 s' at refl i, (but text tokens 100 3 (AfterTruth ∷ s) at refl i, (but text tokens 100 4 (AfterTruth ∷ s) at refl i, none_of_inner 100 n s at (nat_lt n limit) refl refl refl i))))))

  -- the right side of a comparison
  to_right : (with_params : Bool) (s : Form) (at end : ℕ) (op : Op) (right : Operand) → op_at text tokens at ≡ Some op → IsOperand with_params text tokens (at + 1) right end → FreeNegation s → Moves text tokens (COMPARISON ∷ OperandPart ∷ s) at s end
  to_right with_params s at end op right is r free = chain text tokens (pass text tokens 102 (OperandPart ∷ s) at (op_takes text tokens at op is)) (moves_operand text tokens with_params (at + 1) end right s r free.dot_free)

  after_truth : (s : Form) (at : ℕ) → Takes text tokens 102 at → FreeNegation s → Moves text tokens (AfterTruth ∷ s) at (OperandPart ∷ s) (at + 1)
  after_truth s at i free = enter 27 0 102 (OperandPart ∷ []) s at (λ limit. refl) i free.comparison_free

  dot_never : (s : Form) → Never text tokens 39 (COMPARISON ∷ OperandPart ∷ s)
  dot_never s at i = but text tokens 39 102 (OperandPart ∷ s) at refl i

  -- up to the right side
  past_comparison : (n : ℕ) (s : Form) (at : ℕ) → takes 100 (lexeme_at text tokens at) ≡ false → IsValue text tokens (lexeme_at text tokens at) → Takes text tokens 102 (at + 1) → FreeNegation s → Moves text tokens (CondNegation n ∷ s) at (OperandPart ∷ s) (at + 1 + 1)
  past_comparison n s at other (inl i) k free = chain text tokens (to_comparison n s at other (inl i)) (pass text tokens 102 (OperandPart ∷ s) (at + 1) k)
  past_comparison n s at other (inr (inl i)) k free = chain text tokens (to_comparison n s at other (inr (inl i))) (pass text tokens 102 (OperandPart ∷ s) (at + 1) k)
  past_comparison n s at other (inr (inr (inl i))) k free = chain text tokens (to_comparison n s at other (inr (inr i))) (pass text tokens 102 (OperandPart ∷ s) (at + 1) k)
  past_comparison n s at other (inr (inr (inr i))) k free = chain text tokens (to_truth n s at other i) (after_truth s (at + 1) k free)

  to_right_operand : (with_params : Bool) (n : ℕ) (s : Form) (at middle : ℕ) (left : Operand) (op : Op) → IsOperand with_params text tokens at left middle → op_at text tokens middle ≡ Some op → FreeNegation s → Moves text tokens (CondNegation n ∷ s) at (OperandPart ∷ s) (middle + 1)
  to_right_operand with_params n s at middle left op (column_operand column last is) e free =
      chain text tokens (to_compared_column n s at (column_takes text tokens at middle column is)) (chain text tokens (moves_column text tokens at middle column (COMPARISON ∷ OperandPart ∷ s) is (dot_never s)) (pass text tokens 102 (OperandPart ∷ s) middle (op_takes text tokens middle op e)))
  to_right_operand with_params n s at middle left op (value_operand v none is) e free =
      past_comparison n s at (no_name_takes text tokens at none) (value_takes text tokens with_params at left is) (op_takes text tokens (at + 1) op e) free

  spelled_comparison : (with_params : Bool) (n : ℕ) (s : Form) (at middle end : ℕ) (left right : Operand) (op : Op) → IsOperand with_params text tokens at left middle → op_at text tokens middle ≡ Some op → IsOperand with_params text tokens (middle + 1) right end → FreeNegation s → Moves text tokens (CondNegation n ∷ s) at s end
  spelled_comparison with_params n s at middle end left right op l e r free = chain text tokens (to_right_operand with_params n s at middle left op l e free) (moves_operand text tokens with_params (middle + 1) end right s r free.dot_free)

  spelled_truth : (with_params : Bool) (n : ℕ) (s : Form) (at end : ℕ) (b : Bool) → IsOperand with_params text tokens at (operand.Literal (value.Bool b)) end → op_at text tokens end ≡ None → Moves text tokens (CondNegation n ∷ s) at s end
  spelled_truth with_params n s at end b (value_operand v none is) e =
      chain text tokens (to_truth n s at (no_name_takes text tokens at none) (bool_takes text tokens with_params at b is)) (skip 27 0 102 (OperandPart ∷ []) s (at + 1) (λ limit. refl) (no_op_takes text tokens (at + 1) e))

  -- the forms that nest
  into_not : (n : ℕ) (s : Form) (at : ℕ) → n < nesting_limit → Takes text tokens 2 at → Moves text tokens (CondNegation n ∷ s) at (CondNegation (n + 1) ∷ s) (at + 1)
  into_not n s at low i =
      chain text tokens (choose text tokens 25 n BASE (Sign lexeme.Not ∷ CondNegation (n + 1) ∷ []) ((Sign lexeme.Open ∷ grammar.CondPart (n + 1) ∷ Sign lexeme.Close ∷ []) ∷ ChoiceHead text tokens 26 n ∷ []) s at (λ limit h. negation_forms n limit (omega (arith, low, h)))
      (none_of_base 2 s at refl refl refl refl refl refl i)
      (but text tokens 2 33 (grammar.CondPart (n + 1) ∷ Sign lexeme.Close ∷ s) at refl i, (but text tokens 2 14 (Sign lexeme.OpenSquare ∷ Expression (n + 1) ∷ Sign lexeme.CloseSquare ∷ Nonterminal (Outer 26 (n + 1)) ∷ s) at refl i, tt)))
      (pass text tokens 2 (CondNegation (n + 1) ∷ s) at i)

  into_brackets : (n : ℕ) (s : Form) (at : ℕ) → n < nesting_limit → Takes text tokens 33 at → Moves text tokens (CondNegation n ∷ s) at (grammar.CondPart (n + 1) ∷ Sign lexeme.Close ∷ s) (at + 1)
  into_brackets n s at low i =
      chain text tokens (choose text tokens 25 n (BASE ++ (Sign lexeme.Not ∷ CondNegation (n + 1) ∷ []) ∷ []) (Sign lexeme.Open ∷ grammar.CondPart (n + 1) ∷ Sign lexeme.Close ∷ []) (ChoiceHead text tokens 26 n ∷ []) s at (λ limit h. negation_forms n limit (omega (arith, low, h)))
      (let b = none_of_base 33 s at refl refl refl refl refl refl i in (b.0, (b.1.0, (b.1.1.0, (b.1.1.1.0, (b.1.1.1.1.0, (b.1.1.1.1.1.0, (but text tokens 33 2 (CondNegation (n + 1) ∷ s) at refl i, tt))))))))
      (but text tokens 33 14 (Sign lexeme.OpenSquare ∷ Expression (n + 1) ∷ Sign lexeme.CloseSquare ∷ Nonterminal (Outer 26 (n + 1)) ∷ s) at refl i, tt))
      (pass text tokens 33 (grammar.CondPart (n + 1) ∷ Sign lexeme.Close ∷ s) at i)

  into_choice : (n : ℕ) (s : Form) (at : ℕ) → n < nesting_limit → Takes text tokens 14 at → Moves text tokens (CondNegation n ∷ s) at (ChoiceHead text tokens 26 n ++ s) at
  into_choice n s at low i =
      choose text tokens 25 n (BASE ++ (Sign lexeme.Not ∷ CondNegation (n + 1) ∷ []) ∷ (Sign lexeme.Open ∷ grammar.CondPart (n + 1) ∷ Sign lexeme.Close ∷ []) ∷ []) (ChoiceHead text tokens 26 n) [] s at (λ limit h. negation_forms n limit (omega (arith, low, h)))
      (let b = none_of_base 14 s at refl refl refl refl refl refl i in (b.0, (b.1.0, (b.1.1.0, (b.1.1.1.0, (b.1.1.1.1.0, (b.1.1.1.1.1.0, (but text tokens 14 2 (CondNegation (n + 1) ∷ s) at refl i, (but text tokens 14 33 (grammar.CondPart (n + 1) ∷ Sign lexeme.Close ∷ s) at refl i, tt))))))))) tt

  -- the sides of a choice
  abbrev pub COND_SIDES : ℕ → Form
  COND_SIDES n = grammar.CondPart (n + 2) ∷ Sign lexeme.Comma ∷ grammar.CondPart (n + 2) ∷ Sign lexeme.Close ∷ []

  has_sides : (n : ℕ) → HasSides text tokens 26 n (COND_SIDES n)
  has_sides n limit = rw (two n) refl
    where
      two : (n : ℕ) → n + 1 + 1 ≡ n + 2
      two n = omega arith

module _ (with_params : Bool) (names : List (List ℕ)) (text : List ℕ) (tokens : List Token) where
  -- what each part of a condition leads to: a chain to where it may go on, a whole part to what is open behind it
  abbrev pub Reads : CondPart → ℕ → ℕ → Type 0
  Reads (OrChain n) at end = (s : Form) → FreeCondition text tokens s → Moves text tokens (grammar.CondPart n ∷ s) at (MoreOr n ∷ s) end
  Reads (Condition n) at end = (s : Form) → FreeCondition text tokens s → Moves text tokens (grammar.CondPart n ∷ s) at s end
  Reads (AndChain n) at end = (s : Form) → FreeConjunction text tokens s → Moves text tokens (CondConjunction n ∷ s) at (MoreAnd n ∷ s) end
  Reads (Conjunction n) at end = (s : Form) → FreeConjunction text tokens s → Moves text tokens (CondConjunction n ∷ s) at s end
  Reads (Negation n) at end = (s : Form) → FreeNegation text tokens s → Moves text tokens (CondNegation n ∷ s) at s end

  free_close : (s : Form) → FreeCondition text tokens (Sign lexeme.Close ∷ s)
  free_close s = free_sign text tokens 34 s refl refl refl refl

  free_comma : (s : Form) → FreeCondition text tokens (Sign lexeme.Comma ∷ s)
  free_comma s = free_sign text tokens 37 s refl refl refl refl

  open_condition : (n : ℕ) (s : Form) (at : ℕ) → Moves text tokens (grammar.CondPart n ∷ s) at (CondConjunction n ∷ MoreOr n ∷ s) at
  open_condition n s at = choose text tokens 21 n [] (CondConjunction n ∷ MoreOr n ∷ []) [] s at (λ limit h. refl) tt tt

  open_conjunction : (n : ℕ) (s : Form) (at : ℕ) → Moves text tokens (CondConjunction n ∷ s) at (CondNegation n ∷ MoreAnd n ∷ s) at
  open_conjunction n s at = choose text tokens 23 n [] (CondNegation n ∷ MoreAnd n ∷ []) [] s at (λ limit h. refl) tt tt

  link_or : (n : ℕ) (s : Form) (at : ℕ) → Takes text tokens 0 at → FreeCondition text tokens s → Moves text tokens (MoreOr n ∷ s) at (CondConjunction n ∷ MoreOr n ∷ s) (at + 1)
  link_or n s at i free = enter text tokens 22 n 0 (CondConjunction n ∷ MoreOr n ∷ []) s at (λ limit. refl) i free.or_free

  link_and : (n : ℕ) (s : Form) (at : ℕ) → Takes text tokens 1 at → FreeConjunction text tokens s → Moves text tokens (MoreAnd n ∷ s) at (CondNegation n ∷ MoreAnd n ∷ s) (at + 1)
  link_and n s at i free = enter text tokens 24 n 1 (CondNegation n ∷ MoreAnd n ∷ []) s at (λ limit. refl) i free.and_free

  pub reads : (part : CondPart) (at : ℕ) (c : Cond) (end : ℕ) → SpellsCond with_params names text tokens part at c end → Reads part at end
  reads part at c end (one_conjunction n from d last r) = λ s free. chain text tokens (open_condition n s at) (reads (Conjunction n) at d end r (MoreOr n ∷ s) (conjunction_behind text tokens n s free))
  reads part at c end (another_conjunction n from left right middle last l i r) =
      λ s free. chain text tokens (reads (OrChain n) at left middle l s free) (chain text tokens (link_or n s middle i free) (reads (Conjunction n) (middle + 1) right end r (MoreOr n ∷ s) (conjunction_behind text tokens n s free)))
  reads part at c end (whole_condition n from d last r other) =
      λ s free. chain text tokens (reads (OrChain n) at d end r s free) (skip text tokens 22 n 0 (CondConjunction n ∷ MoreOr n ∷ []) s end (λ limit. refl) other)
  reads part at c end (one_negation n from d last r) = λ s free. chain text tokens (open_conjunction n s at) (reads (Negation n) at d end r (MoreAnd n ∷ s) (negation_behind text tokens n s free))
  reads part at c end (another_negation n from left right middle last l i r) =
      λ s free. chain text tokens (reads (AndChain n) at left middle l s free) (chain text tokens (link_and n s middle i free) (reads (Negation n) (middle + 1) right end r (MoreAnd n ∷ s) (negation_behind text tokens n s free)))
  reads part at c end (whole_conjunction n from d last r other) =
      λ s free. chain text tokens (reads (AndChain n) at d end r s free) (skip text tokens 24 n 1 (CondNegation n ∷ MoreAnd n ∷ []) s end (λ limit. refl) other)
  reads part at c end (not_condition n from d last i low r) = λ s free. chain text tokens (into_not text tokens n s at low i) (reads (Negation (n + 1)) (at + 1) d end r s free)
  reads part at c end (condition_in_brackets n from d last i low r close) =
      λ s free. chain text tokens (into_brackets text tokens n s at low i) (chain text tokens (reads (Condition (n + 1)) (at + 1) d last r (Sign lexeme.Close ∷ s) (free_close s)) (pass text tokens 34 s last close))
  reads part at c end (choice_of_conditions n from expr sides left right middle last is l comma r close) =
      λ s free. chain text tokens (into_choice text tokens n s at is.within is.begins)
      (chain text tokens (moves_choice text tokens names 26 n at sides expr (COND_SIDES text tokens n) s (has_sides text tokens n) is)
      (chain text tokens (reads (Condition (n + 2)) sides left middle l (Sign lexeme.Comma ∷ grammar.CondPart (n + 2) ∷ Sign lexeme.Close ∷ s) (free_comma (grammar.CondPart (n + 2) ∷ Sign lexeme.Close ∷ s)))
      (chain text tokens (pass text tokens 37 (grammar.CondPart (n + 2) ∷ Sign lexeme.Close ∷ s) middle comma)
      (chain text tokens (reads (Condition (n + 2)) (middle + 1) right last r (Sign lexeme.Close ∷ s) (free_close s)) (pass text tokens 34 s last close)))))
  reads part at c end (comparison n from left op right middle last l e r) = λ s free. spelled_comparison text tokens with_params n s at middle end left right op l e r free
  reads part at c end (truth n from last l e) = λ s free. spelled_truth text tokens with_params n s at end true l e
  reads part at c end (falsehood n from last l e) = λ s free. spelled_truth text tokens with_params n s at end false l e

  abbrev pub Fails : CondPart → ℕ → ParseFault → Type 0
  Fails (OrChain n) at why = (s : Form) → FreeCondition text tokens s → Faulty text tokens (grammar.CondPart n ∷ s) at why
  Fails (Condition n) at why = (s : Form) → FreeCondition text tokens s → Faulty text tokens (grammar.CondPart n ∷ s) at why
  Fails (AndChain n) at why = (s : Form) → FreeConjunction text tokens s → Faulty text tokens (CondConjunction n ∷ s) at why
  Fails (Conjunction n) at why = (s : Form) → FreeConjunction text tokens s → Faulty text tokens (CondConjunction n ∷ s) at why
  Fails (Negation n) at why = (s : Form) → FreeNegation text tokens s → Faulty text tokens (CondNegation n ∷ s) at why

  abbrev pub nesting_of : CondPart → ℕ
  nesting_of (OrChain n) = n
  nesting_of (Condition n) = n
  nesting_of (AndChain n) = n
  nesting_of (Conjunction n) = n
  nesting_of (Negation n) = n

  no_memory : (part : CondPart) (at : ℕ) → Fails part at fault.Memory
  no_memory (OrChain n) at = λ s free. tt
  no_memory (Condition n) at = λ s free. tt
  no_memory (AndChain n) at = λ s free. tt
  no_memory (Conjunction n) at = λ s free. tt
  no_memory (Negation n) at = λ s free. tt

  -- a value that is refused, or a token that begins no negation
  no_operand : (n at : ℕ) (s : Form) (why : ParseFault) → stands text tokens at lexeme.Not ≡ false → stands text tokens at lexeme.Open ≡ false → stands text tokens at lexeme.Choice ≡ false → takes 100 (lexeme_at text tokens at) ≡ false → ValueFault text tokens (lexeme_at text tokens at) at why → Faulty text tokens (CondNegation n ∷ s) at why
  no_operand n at s why a b c other (not_a_value none) =
      let s' = COMPARISON ∷ OperandPart ∷ s in
      stuck text tokens (CondNegation n ∷ s) at (no_part text tokens 25 n (λ limit. BASE text tokens ++ within (nat_lt n limit) (INNER text tokens n)) s at (λ limit. refl)
      (λ limit. (no_column_here text tokens s' at other, (not_this text tokens 30 s' at none.0, (not_this text tokens 31 s' at none.1, (not_this text tokens 32 s' at none.2, (not_this text tokens 3 (AfterTruth ∷ s) at none.3, (not_this text tokens 4 (AfterTruth ∷ s) at none.4, none_inner (nat_lt n limit)))))))))
    where
      none_inner : (b : Bool) → NoneOf text tokens s at (within b (INNER text tokens n))
      none_inner true = (not_this text tokens 2 (CondNegation (n + 1) ∷ s) at a, (not_this text tokens 33 (grammar.CondPart (n + 1) ∷ Sign lexeme.Close ∷ s) at b, (not_this text tokens 14 (Sign lexeme.OpenSquare ∷ Expression (n + 1) ∷ Sign lexeme.CloseSquare ∷ Nonterminal (Outer 26 (n + 1)) ∷ s) at c, tt)))
      none_inner false = tt
  no_operand n at s why a b c other (too_large i) = reaches text tokens nesting_limit (omega arith) (to_comparison text tokens n s at other (inl i))
  no_operand n at s why a b c other (too_many i) = reaches text tokens nesting_limit (omega arith) (to_comparison text tokens n s at other (inr (inr i)))
  no_operand n at s why a b c other (none_taken i) = reaches text tokens nesting_limit (omega arith) (to_comparison text tokens n s at other (inr (inr i)))

  left_fault : (n at : ℕ) (s : Form) (why : ParseFault) → stands text tokens at lexeme.Not ≡ false → stands text tokens at lexeme.Open ≡ false → stands text tokens at lexeme.Choice ≡ false → OperandFault with_params text tokens at why → Faulty text tokens (CondNegation n ∷ s) at why
  left_fault n at s why a b c operand_memory = tt
  left_fault n at s why a b c (in_column name w named f) =
      behind text tokens why (to_compared_column text tokens n s at (name_takes text tokens at name named)) (faulty_column text tokens at why (COMPARISON ∷ OperandPart ∷ s) f (dot_never text tokens s))
  left_fault n at s why a b c (no_value w none is) = no_operand n at s why a b c (no_name_takes text tokens at none) (value_fault text tokens with_params at why is)

  -- an operand that is no truth, without a comparison behind it
  uncompared : (n at middle : ℕ) (s : Form) (left : Operand) → IsOperand with_params text tokens at left middle → left ≢ operand.Literal (value.Bool true) → left ≢ operand.Literal (value.Bool false) → op_at text tokens middle ≡ None → Faulty text tokens (CondNegation n ∷ s) at (fault.Syntax middle)
  uncompared n at middle s left (column_operand column last is) a b e =
      behind text tokens (fault.Syntax middle) (chain text tokens (to_compared_column text tokens n s at (column_takes text tokens at middle column is)) (moves_column text tokens at middle column (COMPARISON ∷ OperandPart ∷ s) is (dot_never text tokens s)))
      (missing text tokens 102 (OperandPart ∷ s) middle (no_op_takes text tokens middle e))
  uncompared n at middle s left (value_operand v none is) a b e =
      behind text tokens (fault.Syntax (at + 1)) (to_comparison text tokens n s at (no_name_takes text tokens at none) (plain_takes text tokens with_params at left a b is))
      (missing text tokens 102 (OperandPart ∷ s) (at + 1) (no_op_takes text tokens (at + 1) e))

  -- to the sides of a choice
  to_left : (n at sides : ℕ) (expr : Expr) (s : Form) → IsChoice names text tokens n at expr sides → Moves text tokens (CondNegation n ∷ s) at (grammar.CondPart (n + 2) ∷ Sign lexeme.Comma ∷ grammar.CondPart (n + 2) ∷ Sign lexeme.Close ∷ s) sides
  to_left n at sides expr s is = chain text tokens (into_choice text tokens n s at is.within is.begins) (moves_choice text tokens names 26 n at sides expr (COND_SIDES text tokens n) s (has_sides text tokens n) is)

  past_left : (n at sides middle : ℕ) (expr : Expr) (left : Cond) (s : Form) → IsChoice names text tokens n at expr sides → SpellsCond with_params names text tokens (Condition (n + 2)) sides left middle → Moves text tokens (CondNegation n ∷ s) at (Sign lexeme.Comma ∷ grammar.CondPart (n + 2) ∷ Sign lexeme.Close ∷ s) middle
  past_left n at sides middle expr left s is l = chain text tokens (to_left n at sides expr s is) (reads (Condition (n + 2)) sides left middle l (Sign lexeme.Comma ∷ grammar.CondPart (n + 2) ∷ Sign lexeme.Close ∷ s) (free_comma (grammar.CondPart (n + 2) ∷ Sign lexeme.Close ∷ s)))

  to_right_side : (n at sides middle : ℕ) (expr : Expr) (left : Cond) (s : Form) → IsChoice names text tokens n at expr sides → SpellsCond with_params names text tokens (Condition (n + 2)) sides left middle → Takes text tokens 37 middle → Moves text tokens (CondNegation n ∷ s) at (grammar.CondPart (n + 2) ∷ Sign lexeme.Close ∷ s) (middle + 1)
  to_right_side n at sides middle expr left s is l comma = chain text tokens (past_left n at sides middle expr left s is l) (pass text tokens 37 (grammar.CondPart (n + 2) ∷ Sign lexeme.Close ∷ s) middle comma)

  -- the forms that nest, where the text may not nest deeper
  deep_negation : (n sign at : ℕ) (before after : List Form) (rest : Form) (s : Form) → n ≤ nesting_limit → nesting_limit ≤ n → Takes text tokens sign at → NoneOf text tokens s at (BASE text tokens) → BASE text tokens ++ INNER text tokens n ≡ before ++ (Terminal (Foreign sign) ∷ rest) ∷ after → Faulty text tokens (CondNegation n ∷ s) at (fault.TooDeep at)
  deep_negation n sign at before after rest s high low i none is =
      deep text tokens 25 n sign (BASE text tokens) before after rest s at low i (base_forms text tokens n nesting_limit low) none (λ limit h lower. negation_forms text tokens n limit lower ∙ is) high

  pub fails : (part : CondPart) (at : ℕ) (why : ParseFault) → nesting_of part ≤ nesting_limit → CondFault with_params names text tokens part at why → Fails part at why
  fails part at why high (cond_memory p from) = no_memory part at
  fails part at why high (in_first_conjunction n from w f) = λ s free. behind text tokens why (open_condition n s at) (fails (Conjunction n) at why high f (MoreOr n ∷ s) (conjunction_behind text tokens n s free))
  fails part at why high (in_next_conjunction n from left middle w l i f) =
      λ s free. behind text tokens why (chain text tokens (reads (OrChain n) at left middle l s free) (link_or n s middle i free)) (fails (Conjunction n) (middle + 1) why high f (MoreOr n ∷ s) (conjunction_behind text tokens n s free))
  fails part at why high (in_first_negation n from w f) = λ s free. behind text tokens why (open_conjunction n s at) (fails (Negation n) at why high f (MoreAnd n ∷ s) (negation_behind text tokens n s free))
  fails part at why high (in_next_negation n from left middle w l i f) =
      λ s free. behind text tokens why (chain text tokens (reads (AndChain n) at left middle l s free) (link_and n s middle i free)) (fails (Negation n) (middle + 1) why high f (MoreAnd n ∷ s) (negation_behind text tokens n s free))
  fails part at why high (not_too_deep n from i low) =
      λ s free. deep_negation n 2 at (BASE text tokens) ((Sign lexeme.Open ∷ grammar.CondPart (n + 1) ∷ Sign lexeme.Close ∷ []) ∷ ChoiceHead text tokens 26 n ∷ []) (CondNegation (n + 1) ∷ []) s high low i (none_of_base text tokens 2 s at refl refl refl refl refl refl i) refl
  fails part at why high (in_not n from w i low f) = λ s free. behind text tokens why (into_not text tokens n s at low i) (fails (Negation (n + 1)) (at + 1) why (omega (arith, low)) f s free)
  fails part at why high (cond_too_deep n from i low) =
      λ s free. deep_negation n 33 at (BASE text tokens ++ (Sign lexeme.Not ∷ CondNegation (n + 1) ∷ []) ∷ []) (ChoiceHead text tokens 26 n ∷ []) (grammar.CondPart (n + 1) ∷ Sign lexeme.Close ∷ []) s high low i (none_of_base text tokens 33 s at refl refl refl refl refl refl i) refl
  fails part at why high (in_cond_brackets n from w i low f) =
      λ s free. behind text tokens why (into_brackets text tokens n s at low i) (fails (Condition (n + 1)) (at + 1) why (omega (arith, low)) f (Sign lexeme.Close ∷ s) (free_close s))
  fails part at why high (cond_unclosed n from c end i low r other) =
      λ s free. behind text tokens why (chain text tokens (into_brackets text tokens n s at low i) (reads (Condition (n + 1)) (at + 1) c end r (Sign lexeme.Close ∷ s) (free_close s))) (missing text tokens 34 s end other)
  fails part at why high (in_cond_choice n from w f) =
      λ s free. faulty_choice text tokens names 26 n at why (COND_SIDES text tokens n) (CondNegation n ∷ s) s (has_sides text tokens n)
      (λ i low. deep_negation n 14 at (BASE text tokens ++ (Sign lexeme.Not ∷ CondNegation (n + 1) ∷ []) ∷ (Sign lexeme.Open ∷ grammar.CondPart (n + 1) ∷ Sign lexeme.Close ∷ []) ∷ []) [] (Sign lexeme.OpenSquare ∷ Expression (n + 1) ∷ Sign lexeme.CloseSquare ∷ Nonterminal (Outer 26 (n + 1)) ∷ []) s high low i (none_of_base text tokens 14 s at refl refl refl refl refl refl i) refl)
      (λ i low. into_choice text tokens n s at low i) f
  fails part at why high (in_left_cond n from expr sides w is f) =
      λ s free. behind text tokens why (to_left n at sides expr s is) (fails (Condition (n + 2)) sides why (omega (arith, is.sides_within)) f (Sign lexeme.Comma ∷ grammar.CondPart (n + 2) ∷ Sign lexeme.Close ∷ s) (free_comma (grammar.CondPart (n + 2) ∷ Sign lexeme.Close ∷ s)))
  fails part at why high (no_right_cond n from expr sides left middle is l other) =
      λ s free. behind text tokens why (past_left n at sides middle expr left s is l) (missing text tokens 37 (grammar.CondPart (n + 2) ∷ Sign lexeme.Close ∷ s) middle other)
  fails part at why high (in_right_cond n from expr sides left middle w is l comma f) =
      λ s free. behind text tokens why (to_right_side n at sides middle expr left s is l comma) (fails (Condition (n + 2)) (middle + 1) why (omega (arith, is.sides_within)) f (Sign lexeme.Close ∷ s) (free_close s))
  fails part at why high (cond_sides_unclosed n from expr sides left right middle end is l comma r other) =
      λ s free. behind text tokens why (chain text tokens (to_right_side n at sides middle expr left s is l comma) (reads (Condition (n + 2)) (middle + 1) right end r (Sign lexeme.Close ∷ s) (free_close s))) (missing text tokens 34 s end other)
  fails part at why high (in_left_operand n from w a b c f) = λ s free. left_fault n at s why a b c f
  fails part at why high (no_comparison n from left middle l a b e) = λ s free. uncompared n at middle s left l a b e
  fails part at why high (in_right_operand n from left op middle w l e f) =
      λ s free. behind text tokens why (to_right_operand text tokens with_params n s at middle left op l e free) (faulty_operand text tokens with_params (middle + 1) why s f free.dot_free)

  -- a condition behind `where`
  pub reads_where : (n at end : ℕ) (c : Cond) (s : Form) → IsWhere with_params names text tokens n at c end → FreeCondition text tokens s → Never text tokens 24 s → Moves text tokens (Where n ∷ s) at s end
  reads_where n at end c s (no_where other) free none = skip text tokens 20 n 24 (grammar.CondPart n ∷ []) s at (λ limit. refl) other
  reads_where n at end c s (some_where d last i r) free none = chain text tokens (enter text tokens 20 n 24 (grammar.CondPart n ∷ []) s at (λ limit. refl) i none) (reads (Condition n) (at + 1) c end r s free)

  pub fails_where : (n at : ℕ) (why : ParseFault) (s : Form) → n ≤ nesting_limit → WhereFault with_params names text tokens n at why → FreeCondition text tokens s → Never text tokens 24 s → Faulty text tokens (Where n ∷ s) at why
  fails_where n at why s high f free none = behind text tokens why (enter text tokens 20 n 24 (grammar.CondPart n ∷ []) s at (λ limit. refl) f.begins none) (fails (Condition n) (at + 1) why high f.in_where s free)
