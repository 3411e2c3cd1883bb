-- What is spelled has named features alone.
use Rattle.std.proofs.Common.{◌≡◌, ℕ, ◌+◌, ◌<◌, ◌==◌, ◌||◌, Bool, true, false, IsTrue, List, [], Option, Some, None, length, slice_get, refl, sym, ap, ◌∙◌, arith}
use Rattle.std.specs.Str.{bytes_eq}
use Rattle.std.proofs.lemmas.Bool.Decides.{nat_tests}
use Rattle.std.proofs.lemmas.List.Quantifiers.{position-Some}
use Rattle.feature_expr.specs.declared.expr.Expr.{Expr}
use Rattle.feature_expr.specs.declared.expr.Expr.TheFolds.{fold-roll-Expr}
use Rattle.feature_expr.specs.declared.expr.Expr.TheVariants.{rolls-True, rolls-False, rolls-Feature}
use Rattle.feature_expr.specs.declared.expr.Expr.TheOpen.{Expr-F}
use Rattle.feature_expr.specs.declared.expr.Expr as e
use Rattle.word_tokens.specs.declared.token.Token.{Token}
use Rattle.feature_expr.specs.Expressions.{mentions_step, mentions}
use Rattle.feature_expr.specs.Printing.{HasNames}
use Rattle.word_tokens.specs.Tokens.{bytes_of}
use Rattle.feature_expr.specs.ExprGrammar.{Part, Disjunction, Conjunction, Negation, feature_of, Spells, one_conjunction, disjunction, one_negation, conjunction, negation, truth, falsehood, feature, brackets}
use Rattle.feature_expr.proofs.PrintedLaws.{mentions_And, mentions_Or, mentions_Not}

mentions_True : (i : ℕ) → mentions i e.True ≡ false
mentions_True i = ap (mentions i) (sym rolls-True) ∙ fold-roll-Expr Bool (mentions_step i) Expr-F.True

mentions_False : (i : ℕ) → mentions i e.False ≡ false
mentions_False i = ap (mentions i) (sym rolls-False) ∙ fold-roll-Expr Bool (mentions_step i) Expr-F.False

mentions_Feature : (i k : ℕ) → mentions i (e.Feature k) ≡ (k == i)
mentions_Feature i k = ap (mentions i) (sym (rolls-Feature k)) ∙ fold-roll-Expr Bool (mentions_step i) (Expr-F.Feature k)

either : (a b : Bool) (X : Type 0) → (IsTrue a → X) → (IsTrue b → X) → IsTrue (a || b) → X
either true b X f g h = f refl
either false b X f g h = g h

same_below : (i k n : ℕ) → (k == i) ≡ true → k < n → i < n
same_below i k n same below = grind (arith, nat_tests)

module _ (names : List (List ℕ)) (text : List ℕ) (tokens : List Token) where
  found_below : (k : ℕ) (found : Option Token) → feature_of names text found ≡ Some k → k < length names
  found_below k (Some token) is = (position-Some (λ name. bytes_eq name (bytes_of text token)) names k [] is).0
  found_below k None is = absurd (cc is)

  pub names_spelled : (part : Part) (at : ℕ) (x : Expr) (m : ℕ) → Spells names text tokens part at x m → HasNames names x
  names_spelled p a x z (one_conjunction n at end expr d) = names_spelled (Conjunction n) at expr end d
  names_spelled p a x z (disjunction n at middle end left right d is d') =
      λ i h. either (mentions i left) (mentions i right) (i < length names) (names_spelled (Disjunction n) at left middle d i) (names_spelled (Conjunction n) (middle + 1) right end d' i) (rw (mentions_Or i left right) at h)
  names_spelled p a x z (one_negation n at end expr d) = names_spelled (Negation n) at expr end d
  names_spelled p a x z (conjunction n at middle end left right d is d') =
      λ i h. either (mentions i left) (mentions i right) (i < length names) (names_spelled (Conjunction n) at left middle d i) (names_spelled (Negation n) (middle + 1) right end d' i) (rw (mentions_And i left right) at h)
  names_spelled p a x z (negation n at end inner is d) = λ i h. names_spelled (Negation (n + 1)) (at + 1) inner end d i (rw (mentions_Not i inner) at h)
  names_spelled p a x z (truth n at is) = λ i h. absurd (cc (h, mentions_True i))
  names_spelled p a x z (falsehood n at is) = λ i h. absurd (cc (h, mentions_False i))
  names_spelled p a x z (feature n at k is known) = λ i h. same_below i k (length names) (rw (mentions_Feature i k) at h) (found_below k (slice_get tokens at) known)
  names_spelled p a x z (brackets n at end expr is d close) = names_spelled (Disjunction (n + 1)) (at + 1) expr end d
