-- What the small parts of a statement and its conditions spell is what their programs come to, and so is each fault.
use Rattle.std.proofs.Common.{◌≡◌, ◌≢◌, ℕ, ◌+◌, ◌<◌, ◌≤◌, Bool, true, false, nat_lt, List, [], ◌∷◌, Option, Some, None, Result, Err, inl, inr, refl, arith}
use Rattle.std.proofs.lemmas.Bool.Decides.{nat_tests}
use Rattle.values.specs.declared.column_name.ColName.{ColName}
use Rattle.feature_expr.specs.declared.expr.Expr.{Expr}
use Rattle.word_tokens.specs.declared.token.Token.{Token}
use Rattle.values.specs.declared.value.Value.TheVariants as value
use Rattle.vra_syntax.specs.declared.cond.Cond.{Cond}
use Rattle.vra_syntax.specs.declared.cond.Cond as cond
use Rattle.vra_syntax.specs.declared.cond.Operand.{Operand}
use Rattle.vra_syntax.specs.declared.cond.Operand.TheVariants as operand
use Rattle.vra_syntax.specs.declared.items.Item.{Item}
use Rattle.vra_syntax.specs.declared.items.Items.{Items}
use Rattle.vra_syntax.specs.declared.items.Items.TheVariants as kept
use Rattle.vra_syntax.specs.declared.statement.Statement.{Statement}
use Rattle.query_parser.specs.Conditions.{CondPart, OrChain, Condition, AndChain, Conjunction, Negation, SpellsCond, one_conjunction, another_conjunction, whole_condition, one_negation, another_negation, whole_conjunction, not_condition, condition_in_brackets, choice_of_conditions, comparison, truth, falsehood, IsWhere, no_where, some_where}
use Rattle.query_parser.specs.Faults.{ColumnFault, column_memory, no_column, no_base, OperandFault, operand_memory, in_column, no_value, ChoiceFault, choice_too_deep, no_square, in_chooser, square_unclosed, no_sides, sides_too_deep, CondFault, cond_memory, in_first_conjunction, in_next_conjunction, in_first_negation, in_next_negation, not_too_deep, in_not, cond_too_deep, in_cond_brackets, cond_unclosed, in_cond_choice, in_left_cond, no_right_cond, in_right_cond, cond_sides_unclosed, in_left_operand, no_comparison, in_right_operand, WhereFault, WhenFault, ItemFault, in_item_column, in_rename, in_item_when, ItemsFault, items_memory, in_first_item, in_next_item}
use Rattle.query_parser.specs.Lexemes.{lexeme_at, stands, name_at, op_at}
use Rattle.query_parser.specs.Parts.{IsColumn, plain_column, prefixed_column, IsOperand, column_operand, value_operand, IsChoice, IsRename, no_rename, some_rename, IsItemWhen, no_item_when, some_item_when, IsWhen, no_when, some_when, IsItem, ItemsTo, one_item, another_item, AreItems, all_items, listed_items}
use Rattle.query_parser.specs.StatementGrammar.{takes}
use Rattle.query_parser.specs.Truths.{truth_in}
use Rattle.query_parser.specs.declared.fault.ParseFault.{ParseFault}
use Rattle.query_parser.specs.declared.fault.ParseFault.TheVariants as fault
use Rattle.query_parser.specs.declared.lexeme.Lexeme.TheVariants as lexeme
use Rattle.feature_expr.specs.Nesting.{nesting_limit}
use Rattle.query_parser.proofs.Programs.{AColumn, AnOperand, AChoice, ARename, AnItemWhen, AWhen, AnItem, MoreItems, TheItems, ACondition, MoreOr, AConjunction, MoreAnd, ANegation, AWhere, Program, Ask, compared, behind_chooser, Runs, ends, asks, expresses, refuses}
use Rattle.query_parser.proofs.SignLaws.{IsValue, name_takes, value_takes}
use Rattle.query_parser.proofs.Walks.{apart, not_both}

pub below : (n : ℕ) → n < nesting_limit → nat_lt n nesting_limit ≡ true
below n h = grind (arith, nat_tests)

pub above : (n : ℕ) → nesting_limit ≤ n → nat_lt n nesting_limit ≡ false
above n h = grind (arith, nat_tests)

pub not_true : (b : Bool) → (b ≡ true → ⊥) → b ≡ false
not_true true never = absurd (never refl)
not_true false never = refl

no_truth : (left : Operand) → left ≢ operand.Literal (value.Bool true) → left ≢ operand.Literal (value.Bool false) → truth_in left ≡ None
no_truth (operand.Column column) a b = refl
no_truth (operand.Param number) a b = refl
no_truth (operand.Literal (value.Int number)) a b = refl
no_truth (operand.Literal (value.Text text)) a b = refl
no_truth (operand.Literal (value.Bool true)) a b = absurd (a refl)
no_truth (operand.Literal (value.Bool false)) a b = absurd (b refl)

module _ (with_params : Bool) (names : List (List ℕ)) (text : List ℕ) (tokens : List Token) where
  abbrev pub Answer : Type 0
  Answer = Result (List Statement) ParseFault

  abbrev pub R : Program → Answer → Type 0
  R p a = Runs with_params names text tokens p a

  -- a token that takes one sign is no other one
  pub other_sign : (one other at : ℕ) → apart one other ≡ true → takes one (lexeme_at text tokens at) ≡ true → takes other (lexeme_at text tokens at) ≡ false
  other_sign one other at far is = not_true (takes other (lexeme_at text tokens at)) (λ h. not_both one other (lexeme_at text tokens at) far is h)

  reads_column : (at : ℕ) (column : ColName) (end : ℕ) → IsColumn text tokens at column end → (k : ColName → ℕ → Program) (a : Answer) → R (k column end) a → R (Ask (AColumn at) k) a
  reads_column at column end (plain_column base named other) k a r = asks (AColumn at) k a (rw (named, other) r)
  reads_column at column end (prefixed_column prefix base named dot based) k a r = asks (AColumn at) k a (rw (named, dot, based) r)

  fails_column : (at : ℕ) (why : ParseFault) → ColumnFault text tokens at why → why ≢ fault.Memory → (k : ColName → ℕ → Program) → R (Ask (AColumn at) k) (Err why)
  fails_column at why column_memory other k = absurd (other refl)
  fails_column at why (no_column none) other k = asks (AColumn at) k (Err why) (rw none (ends (Err why)))
  fails_column at why (no_base prefix named dot none) other k = asks (AColumn at) k (Err why) (rw (named, dot, none) (ends (Err why)))

  column_named : (at : ℕ) (column : ColName) (end : ℕ) → IsColumn text tokens at column end → (first : List ℕ) × (name_at text tokens at ≡ Some first)
  column_named at column end (plain_column base named other) = (base, named)
  column_named at column end (prefixed_column prefix base named dot based) = (prefix, named)

  reads_operand : (at : ℕ) (v : Operand) (end : ℕ) → IsOperand with_params text tokens at v end → (k : Operand → ℕ → Program) (a : Answer) → R (k v end) a → R (Ask (AnOperand at) k) a
  reads_operand at v end (column_operand column last d) k a r =
      let name = column_named at column end d in
      asks (AnOperand at) k a (rw name.1 (reads_column at column end d (λ column end. k (operand.Column column) end) a r))
  reads_operand at v end (value_operand w none is) k a r = asks (AnOperand at) k a (rw (none, is) r)

  fails_operand : (at : ℕ) (why : ParseFault) → OperandFault with_params text tokens at why → why ≢ fault.Memory → (k : Operand → ℕ → Program) → R (Ask (AnOperand at) k) (Err why)
  fails_operand at why operand_memory other k = absurd (other refl)
  fails_operand at why (in_column name w named f) other k = asks (AnOperand at) k (Err why) (rw named (fails_column at why f other (λ column end. k (operand.Column column) end)))
  fails_operand at why (no_value w none is) other k = asks (AnOperand at) k (Err why) (rw (none, is) (ends (Err why)))

  -- which of the signs begins no operand
  record IsStrange (sign : ℕ) : Type 0 where
    name : apart 100 sign ≡ true
    yes_word : apart 3 sign ≡ true
    no_word : apart 4 sign ≡ true
    number : apart 30 sign ≡ true
    chars : apart 31 sign ≡ true
    param : apart 32 sign ≡ true

  value_apart : (sign at : ℕ) → IsStrange sign → IsValue text tokens (lexeme_at text tokens at) → takes sign (lexeme_at text tokens at) ≡ false
  value_apart sign at s (inl is) = other_sign 30 sign at s.number is
  value_apart sign at s (inr (inl is)) = other_sign 31 sign at s.chars is
  value_apart sign at s (inr (inr (inl is))) = other_sign 32 sign at s.param is
  value_apart sign at s (inr (inr (inr (inl is)))) = other_sign 3 sign at s.yes_word is
  value_apart sign at s (inr (inr (inr (inr is)))) = other_sign 4 sign at s.no_word is

  operand_apart : (sign at : ℕ) (v : Operand) (end : ℕ) → IsStrange sign → IsOperand with_params text tokens at v end → takes sign (lexeme_at text tokens at) ≡ false
  operand_apart sign at v end s (column_operand column last d) = let name = column_named at column end d in other_sign 100 sign at s.name (name_takes text tokens at name.0 name.1)
  operand_apart sign at v end s (value_operand w none is) = value_apart sign at s (value_takes text tokens with_params at v is)

  strange : (sign : ℕ) → apart 100 sign ≡ true → apart 3 sign ≡ true → apart 4 sign ≡ true → apart 30 sign ≡ true → apart 31 sign ≡ true → apart 32 sign ≡ true → IsStrange sign
  strange sign a b c d f g = record { name = a; yes_word = b; no_word = c; number = d; chars = f; param = g }

  pub reads_choice : (n at : ℕ) (expr : Expr) (sides : ℕ) → IsChoice names text tokens n at expr sides → (k : Expr → ℕ → Program) (a : Answer) → R (k expr sides) a → R (Ask (AChoice n at) k) a
  reads_choice n at expr sides d k a r =
      asks (AChoice n at) k a (rw (below n d.within, d.square) (expresses (n + 1) (at + 2) (behind_chooser with_params names text tokens n k) expr d.close a d.chooses (rw (d.squared, d.opens, below (n + 1) d.sides_within) (rw d.ends at r))))

  pub choice_begins : (n at : ℕ) (why : ParseFault) → ChoiceFault names text tokens n at why → stands text tokens at lexeme.Choice ≡ true
  choice_begins n at why (choice_too_deep begins deep) = begins
  choice_begins n at why (no_square begins low missing) = begins
  choice_begins n at why (in_chooser w begins low square f) = begins
  choice_begins n at why (square_unclosed expr close begins low square d missing) = begins
  choice_begins n at why (no_sides expr close begins low square d squared missing) = begins
  choice_begins n at why (sides_too_deep expr close begins low square d squared opens deep) = begins

  pub fails_choice : (n at : ℕ) (why : ParseFault) → ChoiceFault names text tokens n at why → why ≢ fault.Memory → (k : Expr → ℕ → Program) → R (Ask (AChoice n at) k) (Err why)
  fails_choice n at why (choice_too_deep begins deep) other k = asks (AChoice n at) k (Err why) (rw (above n deep) (ends (Err why)))
  fails_choice n at why (no_square begins low missing) other k = asks (AChoice n at) k (Err why) (rw (below n low, missing) (ends (Err why)))
  fails_choice n at why (in_chooser w begins low square f) other k = asks (AChoice n at) k (Err why) (rw (below n low, square) (refuses (n + 1) (at + 2) (behind_chooser with_params names text tokens n k) why f other))
  fails_choice n at why (square_unclosed expr close begins low square d missing) other k =
      asks (AChoice n at) k (Err why) (rw (below n low, square) (expresses (n + 1) (at + 2) (behind_chooser with_params names text tokens n k) expr close (Err why) d (rw missing (ends (Err why)))))
  fails_choice n at why (no_sides expr close begins low square d squared missing) other k =
      asks (AChoice n at) k (Err why) (rw (below n low, square) (expresses (n + 1) (at + 2) (behind_chooser with_params names text tokens n k) expr close (Err why) d (rw (squared, missing) (ends (Err why)))))
  fails_choice n at why (sides_too_deep expr close begins low square d squared opens deep) other k =
      asks (AChoice n at) k (Err why) (rw (below n low, square) (expresses (n + 1) (at + 2) (behind_chooser with_params names text tokens n k) expr close (Err why) d (rw (squared, opens, above (n + 1) deep) (ends (Err why)))))

  reads_rename : (at : ℕ) (rename : Option ColName) (end : ℕ) → IsRename text tokens at rename end → (k : Option ColName → ℕ → Program) (a : Answer) → R (k rename end) a → R (Ask (ARename at) k) a
  reads_rename at rename end (no_rename missing) k a r = asks (ARename at) k a (rw missing r)
  reads_rename at rename end (some_rename column last word d) k a r = asks (ARename at) k a (rw word (reads_column (at + 1) column end d _ a r))

  reads_item_when : (n at : ℕ) (condition : Option Expr) (end : ℕ) → IsItemWhen names text tokens n at condition end → (k : Option Expr → ℕ → Program) (a : Answer) → R (k condition end) a → R (Ask (AnItemWhen n at) k) a
  reads_item_when n at condition end (no_item_when missing) k a r = asks (AnItemWhen n at) k a (rw missing r)
  reads_item_when n at condition end (some_item_when expr last word d) k a r = asks (AnItemWhen n at) k a (rw word (expresses n (at + 1) _ expr end a d r))

  pub reads_when : (at : ℕ) (expr : Expr) (end : ℕ) → IsWhen names text tokens at expr end → (k : Expr → ℕ → Program) (a : Answer) → R (k expr end) a → R (Ask (AWhen at) k) a
  reads_when at expr end (no_when missing) k a r = asks (AWhen at) k a (rw missing r)
  reads_when at expr end (some_when x last word d) k a r = asks (AWhen at) k a (rw word (expresses 0 (at + 1) k expr end a d r))

  pub fails_when : (at : ℕ) (why : ParseFault) → WhenFault names text tokens 0 at why → why ≢ fault.Memory → (k : Expr → ℕ → Program) → R (Ask (AWhen at) k) (Err why)
  fails_when at why f other k = asks (AWhen at) k (Err why) (rw f.begins (refuses 0 (at + 1) k why f.in_when other))

  reads_item : (n at : ℕ) (item : Item) (end : ℕ) → IsItem names text tokens n at item end → (k : Item → ℕ → Program) (a : Answer) → R (k item end) a → R (Ask (AnItem n at) k) a
  reads_item n at item end d k a r =
      asks (AnItem n at) k a (reads_column at item.column d.behind d.named _ a (reads_rename d.behind item.rename d.last d.renamed _ a (reads_item_when n d.last item.cond end d.condition _ a r)))

  fails_item : (n at : ℕ) (why : ParseFault) → ItemFault names text tokens n at why → why ≢ fault.Memory → (k : Item → ℕ → Program) → R (Ask (AnItem n at) k) (Err why)
  fails_item n at why (in_item_column w f) other k = asks (AnItem n at) k (Err why) (fails_column at why f other _)
  fails_item n at why (in_rename column end w d word f) other k =
      asks (AnItem n at) k (Err why) (reads_column at column end d _ (Err why) (asks (ARename end) _ (Err why) (rw word (fails_column (end + 1) why f other _))))
  fails_item n at why (in_item_when column behind rename last w d e f) other k =
      asks (AnItem n at) k (Err why) (reads_column at column behind d _ (Err why) (reads_rename behind rename last e _ (Err why) (asks (AnItemWhen n last) _ (Err why) (rw f.begins (refuses n (last + 1) _ why f.in_when other)))))

  -- what goes on behind some items goes on from the first
  reads_items_to : (n at : ℕ) (before : List Item) (end : ℕ) → ItemsTo names text tokens n at before end → (k : List Item → ℕ → Program) (a : Answer) → R (Ask (MoreItems n before end) k) a → R (Ask (AnItem n at) (λ item end. Ask (MoreItems n (item ∷ []) end) k)) a
  reads_items_to n at before end (one_item item last d) k a r = reads_item n at item end d _ a r
  reads_items_to n at before end (another_item others place item last ds comma d) k a r =
      reads_items_to n at others place ds k a (asks (MoreItems n others place) k a (rw comma (reads_item n (place + 1) item end d _ a r)))

  pub reads_items : (n at : ℕ) (items : Items) (end : ℕ) → AreItems names text tokens n at items end → (k : Items → ℕ → Program) (a : Answer) → R (k items end) a → R (Ask (TheItems n at) k) a
  reads_items n at items end (all_items star) k a r = asks (TheItems n at) k a (rw star r)
  reads_items n at items end (listed_items listed last star ds comma) k a r =
      asks (TheItems n at) k a (rw star (reads_items_to n at listed end ds (λ all last. k (kept.Listed all) last) a (asks (MoreItems n listed end) _ a (rw comma r))))

  pub fails_items : (n at : ℕ) (why : ParseFault) → ItemsFault names text tokens n at why → why ≢ fault.Memory → (k : Items → ℕ → Program) → R (Ask (TheItems n at) k) (Err why)
  fails_items n at why items_memory other k = absurd (other refl)
  fails_items n at why (in_first_item w star f) other k = asks (TheItems n at) k (Err why) (rw star (fails_item n at why f other _))
  fails_items n at why (in_next_item before place w star ds comma f) other k =
      asks (TheItems n at) k (Err why) (rw star (reads_items_to n at before place ds (λ all last. k (kept.Listed all) last) (Err why) (asks (MoreItems n before place) _ (Err why) (rw comma (fails_item n (place + 1) why f other _)))))

  -- conditions: what goes on behind a part goes on from its beginning
  abbrev pub ReadsCond : CondPart → ℕ → Cond → ℕ → Type 0
  ReadsCond (OrChain n) at c end = (k : Cond → ℕ → Program) (a : Answer) → R (Ask (MoreOr n c end) k) a → R (Ask (ACondition n at) k) a
  ReadsCond (Condition n) at c end = (k : Cond → ℕ → Program) (a : Answer) → R (k c end) a → R (Ask (ACondition n at) k) a
  ReadsCond (AndChain n) at c end = (k : Cond → ℕ → Program) (a : Answer) → R (Ask (MoreAnd n c end) k) a → R (Ask (AConjunction n at) k) a
  ReadsCond (Conjunction n) at c end = (k : Cond → ℕ → Program) (a : Answer) → R (k c end) a → R (Ask (AConjunction n at) k) a
  ReadsCond (Negation n) at c end = (k : Cond → ℕ → Program) (a : Answer) → R (k c end) a → R (Ask (ANegation n at) k) a

  -- behind a first operand
  behind_operand : (n at : ℕ) (left : Operand) (middle : ℕ) → IsOperand with_params text tokens at left middle → (k : Cond → ℕ → Program) (a : Answer) → R (compared (op_at text tokens middle) left middle k) a → R (Ask (ANegation n at) k) a
  behind_operand n at left middle d k a r =
      let s = operand_apart 2 at left middle (strange 2 refl refl refl refl refl refl) d in
      let t = operand_apart 33 at left middle (strange 33 refl refl refl refl refl refl) d in
      let u = operand_apart 14 at left middle (strange 14 refl refl refl refl refl refl) d in
      asks (ANegation n at) k a (rw (s, t, u) (reads_operand at left middle d _ a r))

  pub reads_cond : (part : CondPart) (at : ℕ) (c : Cond) (end : ℕ) → SpellsCond with_params names text tokens part at c end → ReadsCond part at c end
  reads_cond part at c end (one_conjunction n from x last d) = λ k a r. asks (ACondition n at) k a (reads_cond (Conjunction n) at c end d _ a r)
  reads_cond part at c end (another_conjunction n from left right middle last d or d') =
      λ k a r. reads_cond (OrChain n) at left middle d k a (asks (MoreOr n left middle) k a (rw or (reads_cond (Conjunction n) (middle + 1) right end d' _ a r)))
  reads_cond part at c end (whole_condition n from x last d or) = λ k a r. reads_cond (OrChain n) at c end d k a (asks (MoreOr n c end) k a (rw or r))
  reads_cond part at c end (one_negation n from x last d) = λ k a r. asks (AConjunction n at) k a (reads_cond (Negation n) at c end d _ a r)
  reads_cond part at c end (another_negation n from left right middle last d and d') =
      λ k a r. reads_cond (AndChain n) at left middle d k a (asks (MoreAnd n left middle) k a (rw and (reads_cond (Negation n) (middle + 1) right end d' _ a r)))
  reads_cond part at c end (whole_conjunction n from x last d and) = λ k a r. reads_cond (AndChain n) at c end d k a (asks (MoreAnd n c end) k a (rw and r))
  reads_cond part at c end (not_condition n from inner last not low d) = λ k a r. asks (ANegation n at) k a (rw (not, below n low) (reads_cond (Negation (n + 1)) (at + 1) inner end d _ a r))
  reads_cond part at c end (condition_in_brackets n from x last opens low d close) =
      λ k a r. asks (ANegation n at) k a (rw (other_sign 33 2 at refl opens, opens, below n low) (reads_cond (Condition (n + 1)) (at + 1) c last d _ a (rw close r)))
  reads_cond part at c end (choice_of_conditions n from expr sides left right middle last is d comma d' close) =
      λ k a r. asks (ANegation n at) k a (rw (other_sign 14 2 at refl is.begins, other_sign 14 33 at refl is.begins, is.begins) (reads_choice n at expr sides is _ a (reads_cond (Condition (n + 2)) sides left middle d _ a (rw comma (reads_cond (Condition (n + 2)) (middle + 1) right last d' _ a (rw close r))))))
  reads_cond part at c end (comparison n from left op right middle last d is d') = λ k a r. behind_operand n at left middle d k a (rw is (reads_operand (middle + 1) right end d' _ a r))
  reads_cond part at c end (truth n from last d none) = λ k a r. behind_operand n at (operand.Literal (value.Bool true)) end d k a (rw none r)
  reads_cond part at c end (falsehood n from last d none) = λ k a r. behind_operand n at (operand.Literal (value.Bool false)) end d k a (rw none r)

  abbrev pub FailsCond : CondPart → ℕ → ParseFault → Type 0
  FailsCond (OrChain n) at why = Unit {0}
  FailsCond (Condition n) at why = (k : Cond → ℕ → Program) → R (Ask (ACondition n at) k) (Err why)
  FailsCond (AndChain n) at why = Unit {0}
  FailsCond (Conjunction n) at why = (k : Cond → ℕ → Program) → R (Ask (AConjunction n at) k) (Err why)
  FailsCond (Negation n) at why = (k : Cond → ℕ → Program) → R (Ask (ANegation n at) k) (Err why)

  pub fails_cond : (part : CondPart) (at : ℕ) (why : ParseFault) → CondFault with_params names text tokens part at why → why ≢ fault.Memory → FailsCond part at why
  fails_cond part at why (cond_memory p from) other = absurd (other refl)
  fails_cond part at why (in_first_conjunction n from w f) other = λ k. asks (ACondition n at) k (Err why) (fails_cond (Conjunction n) at why f other _)
  fails_cond part at why (in_next_conjunction n from left middle w d or f) other =
      λ k. reads_cond (OrChain n) at left middle d k (Err why) (asks (MoreOr n left middle) k (Err why) (rw or (fails_cond (Conjunction n) (middle + 1) why f other _)))
  fails_cond part at why (in_first_negation n from w f) other = λ k. asks (AConjunction n at) k (Err why) (fails_cond (Negation n) at why f other _)
  fails_cond part at why (in_next_negation n from left middle w d and f) other =
      λ k. reads_cond (AndChain n) at left middle d k (Err why) (asks (MoreAnd n left middle) k (Err why) (rw and (fails_cond (Negation n) (middle + 1) why f other _)))
  fails_cond part at why (not_too_deep n from not deep) other = λ k. asks (ANegation n at) k (Err why) (rw (not, above n deep) (ends (Err why)))
  fails_cond part at why (in_not n from w not low f) other = λ k. asks (ANegation n at) k (Err why) (rw (not, below n low) (fails_cond (Negation (n + 1)) (at + 1) why f other _))
  fails_cond part at why (cond_too_deep n from opens deep) other = λ k. asks (ANegation n at) k (Err why) (rw (other_sign 33 2 at refl opens, opens, above n deep) (ends (Err why)))
  fails_cond part at why (in_cond_brackets n from w opens low f) other = λ k. asks (ANegation n at) k (Err why) (rw (other_sign 33 2 at refl opens, opens, below n low) (fails_cond (Condition (n + 1)) (at + 1) why f other _))
  fails_cond part at why (cond_unclosed n from c end opens low d missing) other =
      λ k. asks (ANegation n at) k (Err why) (rw (other_sign 33 2 at refl opens, opens, below n low) (reads_cond (Condition (n + 1)) (at + 1) c end d _ (Err why) (rw missing (ends (Err why)))))
  fails_cond part at why (in_cond_choice n from w f) other =
      let begins = choice_begins n at why f in
      λ k. asks (ANegation n at) k (Err why) (rw (other_sign 14 2 at refl begins, other_sign 14 33 at refl begins, begins) (fails_choice n at why f other _))
  fails_cond part at why (in_left_cond n from expr sides w is f) other =
      λ k. asks (ANegation n at) k (Err why) (rw (other_sign 14 2 at refl is.begins, other_sign 14 33 at refl is.begins, is.begins) (reads_choice n at expr sides is _ (Err why) (fails_cond (Condition (n + 2)) sides why f other _)))
  fails_cond part at why (no_right_cond n from expr sides left middle is d missing) other =
      λ k. asks (ANegation n at) k (Err why) (rw (other_sign 14 2 at refl is.begins, other_sign 14 33 at refl is.begins, is.begins) (reads_choice n at expr sides is _ (Err why) (reads_cond (Condition (n + 2)) sides left middle d _ (Err why) (rw missing (ends (Err why))))))
  fails_cond part at why (in_right_cond n from expr sides left middle w is d comma f) other =
      λ k. asks (ANegation n at) k (Err why) (rw (other_sign 14 2 at refl is.begins, other_sign 14 33 at refl is.begins, is.begins) (reads_choice n at expr sides is _ (Err why) (reads_cond (Condition (n + 2)) sides left middle d _ (Err why) (rw comma (fails_cond (Condition (n + 2)) (middle + 1) why f other _)))))
  fails_cond part at why (cond_sides_unclosed n from expr sides left right middle end is d comma d' missing) other =
      λ k. asks (ANegation n at) k (Err why) (rw (other_sign 14 2 at refl is.begins, other_sign 14 33 at refl is.begins, is.begins) (reads_choice n at expr sides is _ (Err why) (reads_cond (Condition (n + 2)) sides left middle d _ (Err why) (rw comma (reads_cond (Condition (n + 2)) (middle + 1) right end d' _ (Err why) (rw missing (ends (Err why))))))))
  fails_cond part at why (in_left_operand n from w not opens choice f) other = λ k. asks (ANegation n at) k (Err why) (rw (not, opens, choice) (fails_operand at why f other _))
  fails_cond part at why (no_comparison n from left middle d a b none) other = λ k. behind_operand n at left middle d k (Err why) (rw (none, no_truth left a b) (ends (Err why)))
  fails_cond part at why (in_right_operand n from left op middle w d is f) other = λ k. behind_operand n at left middle d k (Err why) (rw is (fails_operand (middle + 1) why f other _))

  pub reads_where : (n at : ℕ) (c : Cond) (end : ℕ) → IsWhere with_params names text tokens n at c end → (k : Cond → ℕ → Program) (a : Answer) → R (k c end) a → R (Ask (AWhere n at) k) a
  reads_where n at c end (no_where missing) k a r = asks (AWhere n at) k a (rw missing r)
  reads_where n at c end (some_where x last word d) k a r = asks (AWhere n at) k a (rw word (reads_cond (Condition n) (at + 1) c end d k a r))

  pub fails_where : (n at : ℕ) (why : ParseFault) → WhereFault with_params names text tokens n at why → why ≢ fault.Memory → (k : Cond → ℕ → Program) → R (Ask (AWhere n at) k) (Err why)
  fails_where n at why f other k = asks (AWhere n at) k (Err why) (rw f.begins (fails_cond (Condition n) (at + 1) why f.in_where other k))
