-- Tokens that spell an expression within a limit on nesting, put together part by part.
use Rattle.std.proofs.Common.{◌≡◌, ◌≢◌, ℕ, ◌+◌, ◌<◌, List, Some, []}
use Rattle.feature_expr.specs.declared.expr.Expr.{Expr}
use Rattle.feature_expr.specs.declared.expr.Expr as e
use Rattle.feature_expr.specs.declared.parse.Sign.TheVariants as sign
use Rattle.word_tokens.specs.declared.token.Token.{Token}
use Rattle.feature_expr.specs.ExprGrammar.{Part, Disjunction, MoreOr, Conjunction, MoreAnd, Negation, sign_at, feature_at, IsRead, Spells, one_conjunction, disjunction, one_negation, conjunction, negation, truth, falsehood, feature, brackets}
use Rattle.feature_expr.proofs.ExprLaws.{LeadsTo, or_links, or_linked, or_read, and_links, and_linked, and_read, read_not, read_open}
use Rattle.feature_expr.proofs.NegationLaws.{leads_true, leads_false, leads_feature}

module _ (names : List (List ℕ)) (text : List ℕ) (tokens : List Token) (limit : ℕ) where
  -- a chain may have more links
  abbrev pub Passes : Part → ℕ → ℕ → Type 0
  Passes (Disjunction n) at end = sign_at text tokens end ≢ sign.And → LeadsTo text tokens limit (Disjunction n) at (MoreOr n) end []
  Passes (Conjunction n) at end = LeadsTo text tokens limit (Conjunction n) at (MoreAnd n) end []
  Passes (Negation n) at end = IsRead text tokens limit (Negation n) at end
  Passes _ at end = Unit {0}

  -- the tokens from one place to another are this part and spell this expression
  pub record IsWritten (part : Part) (at : ℕ) (expr : Expr) (end : ℕ) : Type 0 where
    pub spelled : Spells names text tokens part at expr end
    pub passes : Passes part at end

  pub written_true : (n at : ℕ) → sign_at text tokens at ≡ sign.True → IsWritten (Negation n) at e.True (at + 1)
  written_true n at is = record { spelled = truth n at is; passes = λ outer fitting most h. leads_true outer fitting text tokens most n at is }

  pub written_false : (n at : ℕ) → sign_at text tokens at ≡ sign.False → IsWritten (Negation n) at e.False (at + 1)
  written_false n at is = record { spelled = falsehood n at is; passes = λ outer fitting most h. leads_false outer fitting text tokens most n at is }

  pub written_feature : (n at i : ℕ) → sign_at text tokens at ≡ sign.Feature → feature_at names text tokens at ≡ Some i → IsWritten (Negation n) at (e.Feature i) (at + 1)
  written_feature n at i is known = record { spelled = feature n at i is known; passes = λ outer fitting most h. leads_feature outer fitting text tokens most n at is }

  pub written_not : (n at end : ℕ) (inner : Expr) → n < limit → sign_at text tokens at ≡ sign.Not → IsWritten (Negation (n + 1)) (at + 1) inner end → IsWritten (Negation n) at (e.Not inner) end
  written_not n at end inner below is w = record { spelled = negation n at end inner is w.spelled; passes = read_not names text tokens limit n at end below is w.passes }

  -- where no link follows, it is read up to there
  pub written_read : (n at end : ℕ) (expr : Expr) → IsWritten (Disjunction n) at expr end → sign_at text tokens end ≢ sign.Or → sign_at text tokens end ≢ sign.And → IsRead text tokens limit (Disjunction n) at end
  written_read n at end expr w or and = or_read names text tokens limit n at end (w.passes and) or

  pub written_brackets : (n at end : ℕ) (expr : Expr) → n < limit → sign_at text tokens at ≡ sign.Open → IsWritten (Disjunction (n + 1)) (at + 1) expr end → sign_at text tokens end ≡ sign.Close → IsWritten (Negation n) at expr (end + 1)
  written_brackets n at end expr below is w close = record {
    spelled = brackets n at end expr is w.spelled close;
    passes = read_open names text tokens limit n at end below is (written_read (n + 1) (at + 1) end expr w (λ h. cc (close, h)) (λ h. cc (close, h))) close;
  }

  pub written_first_and : (n at end : ℕ) (expr : Expr) → IsWritten (Negation n) at expr end → IsWritten (Conjunction n) at expr end
  written_first_and n at end expr w = record { spelled = one_negation n at end expr w.spelled; passes = and_links names text tokens limit n at end w.passes }

  pub written_first_or : (n at end : ℕ) (expr : Expr) → IsWritten (Conjunction n) at expr end → IsWritten (Disjunction n) at expr end
  written_first_or n at end expr w = record {
    spelled = one_conjunction n at end expr w.spelled;
    passes = λ and. or_links names text tokens limit n at end (and_read names text tokens limit n at end w.passes and);
  }

  pub written_and : (n at middle end : ℕ) (left right : Expr) → IsWritten (Conjunction n) at left middle → sign_at text tokens middle ≡ sign.And → IsWritten (Negation n) (middle + 1) right end → IsWritten (Conjunction n) at (e.And left right) end
  written_and n at middle end left right w is v = record {
    spelled = conjunction n at middle end left right w.spelled is v.spelled;
    passes = and_linked names text tokens limit n at middle end w.passes is v.passes;
  }

  pub written_or : (n at middle end : ℕ) (left right : Expr) → IsWritten (Disjunction n) at left middle → sign_at text tokens middle ≡ sign.Or → IsWritten (Conjunction n) (middle + 1) right end → IsWritten (Disjunction n) at (e.Or left right) end
  written_or n at middle end left right w is v = record {
    spelled = disjunction n at middle end left right w.spelled is v.spelled;
    passes = λ and. or_linked names text tokens limit n at middle end (w.passes (λ h. cc (is, h))) is (and_read names text tokens limit n (middle + 1) end v.passes and);
  }
