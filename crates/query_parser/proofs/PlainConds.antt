-- A condition that a text spells is plain.
use Rattle.std.proofs.Common.{◌≡◌, ℕ, ◌+◌, ◌<◌, ◌≤◌, Bool, true, false, List, refl, arith}
use Rattle.word_tokens.specs.Tokens.{AreTokens}
use Rattle.feature_expr.specs.declared.expr.Expr.{Expr}
use Rattle.word_tokens.specs.declared.token.Token.{Token}
use Rattle.vra_syntax.specs.declared.cond.Cond.{Cond}
use Rattle.vra_syntax.specs.declared.cond.Cond as cond
use Rattle.query_parser.specs.Conditions.{CondPart, OrChain, Condition, AndChain, Conjunction, Negation, SpellsCond, one_conjunction, another_conjunction, whole_condition, one_negation, another_negation, whole_conjunction, not_condition, condition_in_brackets, choice_of_conditions, comparison, truth, falsehood, IsWhere, no_where, some_where}
use Rattle.query_printer.specs.Printing.{takes_and, takes_or}
use Rattle.feature_expr.specs.Nesting.{nesting_limit}
use Rattle.query_printer.specs.declared.print_cond.CondPlace.{CondPlace}
use Rattle.query_printer.specs.declared.print_cond.CondPlace.TheVariants as cplace
use Rattle.query_parser.proofs.Printables.{PlainExpr, PlainCond, plain_comparison, plain_true, plain_false, plain_not, free_and, bound_and, free_or, bound_or, plain_cond_choice}
use Rattle.query_parser.proofs.PlainParts.{plain_operand_at, plain_choice_at}

-- fewer brackets may be open round an expression
pub expr_shallower : (names : List (List ℕ)) (m n : ℕ) (expr : Expr) → n ≤ m → PlainExpr names m expr → PlainExpr names n expr
expr_shallower names m n expr low plain = (plain.0, let deep = plain.1 in omega (arith, low, deep))

module _ (with_params : Bool) (names : List (List ℕ)) where
  abbrev Plain : ℕ → CondPlace → Cond → Type 0
  Plain n at c = PlainCond with_params names n at c

  -- and round a condition
  pub cond_shallower : (m n : ℕ) (at : CondPlace) (c : Cond) → n ≤ m → Plain m at c → Plain n at c
  cond_shallower k n a x low (plain_comparison m at left op right p q) = plain_comparison n a left op right p q
  cond_shallower k n a x low (plain_true m at) = plain_true n a
  cond_shallower k n a x low (plain_false m at) = plain_false n a
  cond_shallower k n a x low (plain_not m at inner deep p) = plain_not n a inner (omega (arith, low, deep)) (cond_shallower (m + 1) (n + 1) cplace.Operand inner (omega (arith, low)) p)
  cond_shallower k n a x low (free_and m at left right free p q) = free_and n a left right free (cond_shallower m n cplace.Conjunct left low p) (cond_shallower m n cplace.Operand right low q)
  cond_shallower k n a x low (bound_and m at left right bound deep p q) =
      bound_and n a left right bound (omega (arith, low, deep)) (cond_shallower (m + 1) (n + 1) cplace.Conjunct left (omega (arith, low)) p) (cond_shallower (m + 1) (n + 1) cplace.Operand right (omega (arith, low)) q)
  cond_shallower k n a x low (free_or m at left right free p q) = free_or n a left right free (cond_shallower m n cplace.Disjunct left low p) (cond_shallower m n cplace.Conjunct right low q)
  cond_shallower k n a x low (bound_or m at left right bound deep p q) =
      bound_or n a left right bound (omega (arith, low, deep)) (cond_shallower (m + 1) (n + 1) cplace.Disjunct left (omega (arith, low)) p) (cond_shallower (m + 1) (n + 1) cplace.Conjunct right (omega (arith, low)) q)
  cond_shallower k n a x low (plain_cond_choice m at expr left right deep e p q) =
      plain_cond_choice n a expr left right (omega (arith, low, deep)) (expr_shallower names (m + 1) (n + 1) expr (omega (arith, low)) e) (cond_shallower (m + 2) (n + 2) cplace.Disjunct left (omega (arith, low)) p) (cond_shallower (m + 2) (n + 2) cplace.Disjunct right (omega (arith, low)) q)

  -- a chain at a place where it needs brackets or not
  and_at : (n : ℕ) (at : CondPlace) (left right : Cond) (b : Bool) → takes_and at ≡ b → n < nesting_limit → Plain (n + 1) cplace.Conjunct left → Plain (n + 1) cplace.Operand right → Plain n at (cond.And left right)
  and_at n at left right true is deep p q = free_and n at left right is (cond_shallower (n + 1) n cplace.Conjunct left (omega arith) p) (cond_shallower (n + 1) n cplace.Operand right (omega arith) q)
  and_at n at left right false is deep p q = bound_and n at left right is deep p q

  or_at : (n : ℕ) (at : CondPlace) (left right : Cond) (b : Bool) → takes_or at ≡ b → n < nesting_limit → Plain (n + 1) cplace.Disjunct left → Plain (n + 1) cplace.Conjunct right → Plain n at (cond.Or left right)
  or_at n at left right true is deep p q = free_or n at left right is (cond_shallower (n + 1) n cplace.Disjunct left (omega arith) p) (cond_shallower (n + 1) n cplace.Conjunct right (omega arith) q)
  or_at n at left right false is deep p q = bound_or n at left right is deep p q

  -- what stands at a place stands where as much may stand without brackets
  cond_looser : (n : ℕ) (from at : CondPlace) (c : Cond) → (takes_and from ≡ true → takes_and at ≡ true) → (takes_or from ≡ true → takes_or at ≡ true) → Plain n from c → Plain n at c
  cond_looser k f at x ands ors (plain_comparison n from left op right p q) = plain_comparison n at left op right p q
  cond_looser k f at x ands ors (plain_true n from) = plain_true n at
  cond_looser k f at x ands ors (plain_false n from) = plain_false n at
  cond_looser k f at x ands ors (plain_not n from inner deep p) = plain_not n at inner deep p
  cond_looser k f at x ands ors (free_and n from left right free p q) = free_and n at left right (ands free) p q
  cond_looser k f at x ands ors (bound_and n from left right bound deep p q) = and_at n at left right (takes_and at) refl deep p q
  cond_looser k f at x ands ors (free_or n from left right free p q) = free_or n at left right (ors free) p q
  cond_looser k f at x ands ors (bound_or n from left right bound deep p q) = or_at n at left right (takes_or at) refl deep p q
  cond_looser k f at x ands ors (plain_cond_choice n from expr left right deep e p q) = plain_cond_choice n at expr left right deep e p q

  conjunct_of : (n : ℕ) (c : Cond) → Plain n cplace.Operand c → Plain n cplace.Conjunct c
  conjunct_of n c p = cond_looser n cplace.Operand cplace.Conjunct c (λ h. refl) (λ h. absurd (cc h)) p

  disjunct_of : (n : ℕ) (c : Cond) → Plain n cplace.Conjunct c → Plain n cplace.Disjunct c
  disjunct_of n c p = cond_looser n cplace.Conjunct cplace.Disjunct c (λ h. refl) (λ h. refl) p

  -- in brackets it is an operand
  operand_of : (n : ℕ) (c : Cond) → n < nesting_limit → Plain (n + 1) cplace.Disjunct c → Plain n cplace.Operand c
  operand_of n x deep (plain_comparison m at left op right p q) = plain_comparison n cplace.Operand left op right p q
  operand_of n x deep (plain_true m at) = plain_true n cplace.Operand
  operand_of n x deep (plain_false m at) = plain_false n cplace.Operand
  operand_of n x deep (plain_not m at inner deep' p) = plain_not n cplace.Operand inner deep (cond_shallower (n + 1 + 1) (n + 1) cplace.Operand inner (omega arith) p)
  operand_of n x deep (free_and m at left right free p q) = bound_and n cplace.Operand left right refl deep p q
  operand_of n x deep (bound_and m at left right bound deep' p q) = absurd (cc bound)
  operand_of n x deep (free_or m at left right free p q) = bound_or n cplace.Operand left right refl deep p q
  operand_of n x deep (bound_or m at left right bound deep' p q) = absurd (cc bound)
  operand_of n x deep (plain_cond_choice m at expr left right deep' e p q) =
      plain_cond_choice n cplace.Operand expr left right (omega (arith, deep')) (expr_shallower names (n + 1 + 1) (n + 1) expr (omega arith) e) (cond_shallower (n + 1 + 2) (n + 2) cplace.Disjunct left (omega arith) p) (cond_shallower (n + 1 + 2) (n + 2) cplace.Disjunct right (omega arith) q)

module _ (with_params : Bool) (names : List (List ℕ)) (text : List ℕ) (tokens : List Token) (are : AreTokens text tokens) where
  -- where each part may stand
  abbrev PlainPart : CondPart → Cond → Type 0
  PlainPart (OrChain n) c = PlainCond with_params names n cplace.Disjunct c
  PlainPart (Condition n) c = PlainCond with_params names n cplace.Disjunct c
  PlainPart (AndChain n) c = PlainCond with_params names n cplace.Conjunct c
  PlainPart (Conjunction n) c = PlainCond with_params names n cplace.Conjunct c
  PlainPart (Negation n) c = PlainCond with_params names n cplace.Operand c

  plain_part : (part : CondPart) (at : ℕ) (c : Cond) (end : ℕ) → SpellsCond with_params names text tokens part at c end → PlainPart part c
  plain_part p a x z (one_conjunction n at c end d) = disjunct_of with_params names n c (plain_part (Conjunction n) at c end d)
  plain_part p a x z (another_conjunction n at left right middle end d or d') = free_or n cplace.Disjunct left right refl (plain_part (OrChain n) at left middle d) (plain_part (Conjunction n) (middle + 1) right end d')
  plain_part p a x z (whole_condition n at c end d none) = plain_part (OrChain n) at c end d
  plain_part p a x z (one_negation n at c end d) = conjunct_of with_params names n c (plain_part (Negation n) at c end d)
  plain_part p a x z (another_negation n at left right middle end d and d') = free_and n cplace.Conjunct left right refl (plain_part (AndChain n) at left middle d) (plain_part (Negation n) (middle + 1) right end d')
  plain_part p a x z (whole_conjunction n at c end d none) = plain_part (AndChain n) at c end d
  plain_part p a x z (not_condition n at inner end is deep d) = plain_not n cplace.Operand inner deep (plain_part (Negation (n + 1)) (at + 1) inner end d)
  plain_part p a x z (condition_in_brackets n at c end is deep d close) = operand_of with_params names n c deep (plain_part (Condition (n + 1)) (at + 1) c end d)
  plain_part p a x z (choice_of_conditions n at expr sides left right middle end is d comma d' close) =
      plain_cond_choice n cplace.Operand expr left right is.sides_within (plain_choice_at names text tokens n at expr sides is) (plain_part (Condition (n + 2)) sides left middle d) (plain_part (Condition (n + 2)) (middle + 1) right end d')
  plain_part p a x z (comparison n at left op right middle end l is r) =
      plain_comparison n cplace.Operand left op right (plain_operand_at text tokens with_params are at left middle l) (plain_operand_at text tokens with_params are (middle + 1) right end r)
  plain_part p a x z (truth n at end is alone) = plain_true n cplace.Operand
  plain_part p a x z (falsehood n at end is alone) = plain_false n cplace.Operand

  pub plain_condition_at : (n at : ℕ) (c : Cond) (end : ℕ) → SpellsCond with_params names text tokens (Condition n) at c end → PlainCond with_params names n cplace.Disjunct c
  plain_condition_at n at c end d = plain_part (Condition n) at c end d

  pub plain_where_at : (n at : ℕ) (c : Cond) (end : ℕ) → IsWhere with_params names text tokens n at c end → PlainCond with_params names n cplace.Disjunct c
  plain_where_at n a x z (no_where none) = plain_true n cplace.Disjunct
  plain_where_at n a x z (some_where c end is d) = plain_condition_at n (a + 1) c end d
