-- A conjunction to which a condition is added only where it isn't its last link already.
use Rattle.std.proofs.Common.{◌≡◌, ◌∙◌, ℕ, ◌+◌, ◌≤◌, Bool, true, false, ◌&&◌, ◌||◌, List, refl, sym, ap, true≢false, inl, inr, arith}
use Rattle.feature_expr.specs.Expressions.{and_of, mentions, weight_of}
use Rattle.feature_expr.specs.Same.{same_expr}
use Rattle.feature_expr.specs.SameLaws.{same_yes}
use Rattle.feature_expr.specs.Satisfaction.{satisfies, holds_at}
use Rattle.feature_expr.specs.declared.expr.Expr.{Expr, fold-Expr, map-Expr, out-Expr}
use Rattle.feature_expr.specs.declared.expr.Expr.TheFolds.{fold_out-Expr}
use Rattle.feature_expr.specs.declared.expr.Expr.TheOpen.{Expr-F}
use Rattle.row_conditions.proofs.BoolLaws.{or_cases}
use Rattle.row_conditions.proofs.FoldingLaws.{and_holds}
use Rattle.plan_tables.specs.Tables.{and_once, is_last_link}

and_self : (b : Bool) → b ≡ (b && b)
and_self true = refl
and_self false = refl

and_again : (a b : Bool) → (a && b) ≡ ((a && b) && b)
and_again true true = refl
and_again true false = refl
and_again false b = refl

module _ (c : List ℕ) (l r : Expr) where
  linked : (x : Expr-F Expr) → out-Expr l ≡ x → is_last_link x r ≡ true → satisfies c l ≡ (satisfies c l && satisfies c r)
  linked (Expr-F.And a b) is h =
      let whole : satisfies c l ≡ (satisfies c a && satisfies c b) = fold_out-Expr Bool (holds_at c) l ∙ ap (λ y. holds_at c (map-Expr Expr Bool (fold-Expr Bool (holds_at c)) y)) is in
      whole
      ∙ and_again (satisfies c a) (satisfies c b)
      ∙ ap (λ x. (satisfies c a && satisfies c b) && satisfies c x) (same_yes b r h)
      ∙ ap (λ t. t && satisfies c r) (sym whole)
  linked Expr-F.True is h = absurd (true≢false (sym h))
  linked Expr-F.False is h = absurd (true≢false (sym h))
  linked (Expr-F.Feature i) is h = absurd (true≢false (sym h))
  linked (Expr-F.Not inner) is h = absurd (true≢false (sym h))
  linked (Expr-F.Or a b) is h = absurd (true≢false (sym h))

  stays : (same_expr l r || is_last_link (out-Expr l) r) ≡ true → satisfies c l ≡ (satisfies c l && satisfies c r)
  stays h =
      elim (or_cases (same_expr l r) (is_last_link (out-Expr l) r) h) [
        | inl same ↦ and_self (satisfies c l) ∙ ap (λ x. satisfies c l && satisfies c x) (same_yes l r same)
        | inr last ↦ linked (out-Expr l) refl last
      ]

  once_step : (there : Bool) → (same_expr l r || is_last_link (out-Expr l) r) ≡ there → satisfies c (and_once l r) ≡ (satisfies c l && satisfies c r)
  once_step false is = rw is (and_holds c l r)
  once_step true is = rw is (stays is)

  pub and_once_holds : satisfies c (and_once l r) ≡ (satisfies c l && satisfies c r)
  and_once_holds = once_step (same_expr l r || is_last_link (out-Expr l) r) refl

module _ (l r : Expr) where
  weighs_step : (most : ℕ) (there : Bool) → (same_expr l r || is_last_link (out-Expr l) r) ≡ there → weight_of (and_of l r) ≤ most → weight_of l ≤ most → weight_of (and_once l r) ≤ most
  weighs_step most false is both alone = rw is both
  weighs_step most true is both alone = rw is alone

  -- it weighs no more than what bounds the conjunction and the condition alone
  pub and_once_weighs : (most : ℕ) → weight_of (and_of l r) ≤ most → weight_of l ≤ most → weight_of (and_once l r) ≤ most
  and_once_weighs most both alone = weighs_step most (same_expr l r || is_last_link (out-Expr l) r) refl both alone

  lacks_step : (i : ℕ) (there : Bool) → (same_expr l r || is_last_link (out-Expr l) r) ≡ there → mentions i (and_of l r) ≡ false → mentions i l ≡ false → mentions i (and_once l r) ≡ false
  lacks_step i false is both alone = rw is both
  lacks_step i true is both alone = rw is alone

  pub and_once_lacks : (i : ℕ) → mentions i (and_of l r) ≡ false → mentions i l ≡ false → mentions i (and_once l r) ≡ false
  and_once_lacks i both alone = lacks_step i (same_expr l r || is_last_link (out-Expr l) r) refl both alone

-- a condition that adds so much at most
pub once_adds : (cond : Expr) (more : ℕ) → ((c : Expr) → weight_of (and_of c cond) ≤ weight_of c + more) → (c : Expr) → weight_of (and_once c cond) ≤ weight_of c + more
once_adds cond more adds c = and_once_weighs c cond (weight_of c + more) (adds c) (omega arith)
