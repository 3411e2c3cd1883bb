-- What is read within a limit on nesting is printed within it.
use Rattle.std.proofs.Common.{◌≡◌, ◌≢◌, ℕ, ◌+◌, ◌<◌, ◌≤◌, true, nat_lt, List, [], ◌∷◌, refl, sym, subst, ap, ◌∙◌, arith}
use Rattle.std.proofs.lemmas.Bool.Decides.{nat_tests}
use Rattle.feature_expr.specs.declared.expr.Expr.{Expr, roll-Expr, map-Expr}
use Rattle.feature_expr.specs.declared.expr.Expr.TheFolds.{fold-roll-Expr, ind-Expr}
use Rattle.feature_expr.specs.declared.expr.Expr.TheVariants.{rolls-True, rolls-False, rolls-Feature, rolls-Not, rolls-And, rolls-Or}
use Rattle.feature_expr.specs.declared.expr.Expr.TheOpen.{Expr-F}
use Rattle.feature_expr.specs.declared.expr.Expr as e
use Rattle.feature_expr.specs.declared.parse.Sign.{Sign}
use Rattle.feature_expr.specs.declared.parse.Sign.TheVariants as sign
use Rattle.feature_expr.specs.declared.print.Position.{Position}
use Rattle.feature_expr.specs.declared.print.Position.TheVariants as position
use Rattle.word_tokens.specs.declared.token.Token.{Token}
use Rattle.word_tokens.specs.Grammar.{Symbol, Terminal, Nonterminal, Matches, NeverFirst, IsFree}
use Rattle.word_tokens.proofs.GrammarLaws.{here, open_sign, close_sign}
use Rattle.word_tokens.proofs.ChainForms.{to_first, to_item, ends}
use Rattle.feature_expr.specs.Printing.{nesting_step, nesting_at, text_nesting}
use Rattle.feature_expr.specs.ExprGrammar.{Part, Disjunction, MoreOr, Conjunction, MoreAnd, Negation, Outer, Mark, Own, forms, fits, sign_at, IsRead, Spells}
use Rattle.feature_expr.specs.ExprTexts.{alone, none_fits, IsViable}
use Rattle.feature_expr.proofs.ExprLaws.{or_chain, and_chain}
use Rattle.feature_expr.proofs.NegationLaws.{After, negation_on, never_or, never_and}
use Rattle.feature_expr.proofs.PrintedLaws.{nesting_And, nesting_Or, nesting_Not}
use Rattle.feature_expr.proofs.ReadingLaws.{Stage, Whole, Begun, Reads, first_or, no_or, next_or, first_and, no_and, next_and, begins, behind_not, behind_true, behind_false, behind_feature, behind_open, onward}
use Rattle.feature_expr.proofs.TextLaws.{end_free}

nesting_True : (p : Position) → nesting_at e.True p ≡ 0
nesting_True p = ap (λ (x : Expr). nesting_at x p) (sym rolls-True) ∙ ap (λ (f : Position → ℕ). f p) (fold-roll-Expr (Position → ℕ) nesting_step Expr-F.True)

nesting_False : (p : Position) → nesting_at e.False p ≡ 0
nesting_False p = ap (λ (x : Expr). nesting_at x p) (sym rolls-False) ∙ ap (λ (f : Position → ℕ). f p) (fold-roll-Expr (Position → ℕ) nesting_step Expr-F.False)

nesting_Feature : (i : ℕ) (p : Position) → nesting_at (e.Feature i) p ≡ 0
nesting_Feature i p = ap (λ (x : Expr). nesting_at x p) (sym (rolls-Feature i)) ∙ ap (λ (f : Position → ℕ). f p) (fold-roll-Expr (Position → ℕ) nesting_step (Expr-F.Feature i))

-- brackets are one level at most
record IsStep (x : Expr) : Type 0 where
  looser : nesting_at x position.Disjunct ≤ nesting_at x position.Conjunct
  tighter : nesting_at x position.Conjunct ≤ nesting_at x position.Operand
  one : nesting_at x position.Operand ≤ nesting_at x position.Disjunct + 1

step_from : (x : Expr) (a b c : ℕ) → nesting_at x position.Operand ≡ a → nesting_at x position.Conjunct ≡ b → nesting_at x position.Disjunct ≡ c → c ≤ b → b ≤ a → a ≤ c + 1 → IsStep x
step_from x a b c ha hb hc cb ba ac = record { looser = rw (hb, hc) cb; tighter = rw (ha, hb) ba; one = rw (ha, hc) ac }

step_at : (y : Expr-F ((x : Expr) × IsStep x)) → IsStep (roll-Expr (map-Expr ((x : Expr) × IsStep x) Expr (λ x. x.0) y))
step_at Expr-F.True = subst IsStep (sym rolls-True) (step_from e.True 0 0 0 (nesting_True _) (nesting_True _) (nesting_True _) (omega arith) (omega arith) (omega arith))
step_at Expr-F.False = subst IsStep (sym rolls-False) (step_from e.False 0 0 0 (nesting_False _) (nesting_False _) (nesting_False _) (omega arith) (omega arith) (omega arith))
step_at (Expr-F.Feature i) = subst IsStep (sym (rolls-Feature i)) (step_from (e.Feature i) 0 0 0 (nesting_Feature i _) (nesting_Feature i _) (nesting_Feature i _) (omega arith) (omega arith) (omega arith))
step_at (Expr-F.Not inner) = subst IsStep (sym (rolls-Not inner.0)) (step_from (e.Not inner.0) _ _ _ (nesting_Not inner.0 position.Operand) (nesting_Not inner.0 position.Conjunct) (nesting_Not inner.0 position.Disjunct) (omega arith) (omega arith) (omega arith))
step_at (Expr-F.And left right) = subst IsStep (sym (rolls-And left.0 right.0)) (step_from (e.And left.0 right.0) _ _ _ (nesting_And left.0 right.0 position.Operand) (nesting_And left.0 right.0 position.Conjunct) (nesting_And left.0 right.0 position.Disjunct) (omega arith) (omega arith) (omega arith))
step_at (Expr-F.Or left right) = subst IsStep (sym (rolls-Or left.0 right.0)) (step_from (e.Or left.0 right.0) _ _ _ (nesting_Or left.0 right.0 position.Operand) (nesting_Or left.0 right.0 position.Conjunct) (nesting_Or left.0 right.0 position.Disjunct) (omega arith) (omega arith) (omega arith))

is_step : (x : Expr) → IsStep x
is_step = ind-Expr IsStep (λ x y is. subst (λ z. IsStep (roll-Expr z)) is (step_at y))

module _ (names : List (List ℕ)) (text : List ℕ) (tokens : List Token) where
  order : (stage : Stage) (before : Expr) (at : ℕ) (x : Expr) (m : ℕ) → Reads names text tokens stage before at x m → at ≤ m
  order stage b a x m (first_or n at middle end before first expr r s) = let h = order (Whole (Conjunction n)) before at first middle r in let g = order (Whole (MoreOr n)) first middle expr end s in omega (arith, h, g)
  order stage b a x m (no_or n at before other) = omega arith
  order stage b a x m (next_or n at middle end before right expr is r s) = let h = order (Whole (Conjunction n)) before (at + 1) right middle r in let g = order (Whole (MoreOr n)) (e.Or before right) middle expr end s in omega (arith, h, g)
  order stage b a x m (first_and n at middle end before first expr r s) = let h = order (Whole (Negation n)) before at first middle r in let g = order (Whole (MoreAnd n)) first middle expr end s in omega (arith, h, g)
  order stage b a x m (no_and n at before other) = omega arith
  order stage b a x m (next_and n at middle end before right expr is r s) = let h = order (Whole (Negation n)) before (at + 1) right middle r in let g = order (Whole (MoreAnd n)) (e.And before right) middle expr end s in omega (arith, h, g)
  order stage b a x m (begins n at end before expr s is r) = order (Begun s n) before at expr end r
  order stage b a x m (behind_not n at end before inner r) = let h = order (Whole (Negation (n + 1))) before (at + 1) inner end r in omega (arith, h)
  order stage b a x m (behind_true n at before) = omega arith
  order stage b a x m (behind_false n at before) = omega arith
  order stage b a x m (behind_feature n at i before is) = omega arith
  order stage b a x m (behind_open n at end before expr r) = let h = order (Whole (Disjunction (n + 1))) before (at + 1) expr end r in omega (arith, h)

module _ (names : List (List ℕ)) (text : List ℕ) (tokens : List Token) (limit : ℕ) where
  abbrev D : List (Symbol Part Mark) → ℕ → ℕ → Type 0
  D s at to = Matches (forms alone limit) (fits none_fits text tokens) s at to

  abbrev Frees : List Mark → List (Symbol Part Mark) → Type 0
  Frees signs s = IsFree (forms alone limit) (fits none_fits text tokens) signs s

  -- what is read where the tokens are viable is printed within the limit, and what stands behind it is viable too
  abbrev Keeps : Stage → Expr → ℕ → Expr → ℕ → Type 0
  Keeps (Whole (Disjunction n)) before at x m = (s : List (Symbol Part Mark)) (to : ℕ) → n ≤ limit → Frees (Own sign.Or ∷ Own sign.And ∷ []) s → m < to → D (Nonterminal (Disjunction n) ∷ s) at to → (n + nesting_at x position.Disjunct ≤ limit) × D s m to
  Keeps (Whole (MoreOr n)) before at x m = (s : List (Symbol Part Mark)) (to : ℕ) → n + nesting_at before position.Disjunct ≤ limit → Frees (Own sign.Or ∷ Own sign.And ∷ []) s → m < to → D (Nonterminal (MoreOr n) ∷ s) at to → (n + nesting_at x position.Disjunct ≤ limit) × D s m to
  Keeps (Whole (Conjunction n)) before at x m = (s : List (Symbol Part Mark)) (to : ℕ) → n ≤ limit → Frees (Own sign.And ∷ []) s → m < to → D (Nonterminal (Conjunction n) ∷ s) at to → (n + nesting_at x position.Conjunct ≤ limit) × D s m to
  Keeps (Whole (MoreAnd n)) before at x m = (s : List (Symbol Part Mark)) (to : ℕ) → n + nesting_at before position.Conjunct ≤ limit → Frees (Own sign.And ∷ []) s → m < to → D (Nonterminal (MoreAnd n) ∷ s) at to → (n + nesting_at x position.Conjunct ≤ limit) × D s m to
  Keeps (Whole (Negation n)) before at x m = (s : List (Symbol Part Mark)) (to : ℕ) → n ≤ limit → m < to → D (Nonterminal (Negation n) ∷ s) at to → (n + nesting_at x position.Operand ≤ limit) × D s m to
  Keeps (Whole (Outer number n)) before at x m = Unit {0}
  Keeps (Begun first n) before at x m = (s : List (Symbol Part Mark)) (to : ℕ) → n ≤ limit → m < to → After alone none_fits text tokens limit n s at to first → (n + nesting_at x position.Operand ≤ limit) × D s m to

  below_limit : (n : ℕ) → nat_lt n limit ≡ true → n + 1 ≤ limit
  below_limit n h = grind (arith, nat_tests)

  joined_or : (n : ℕ) (left right : Expr) → n + nesting_at left position.Disjunct ≤ limit → n + nesting_at right position.Conjunct ≤ limit → n + nesting_at (e.Or left right) position.Disjunct ≤ limit
  joined_or n left right h g = rw (nesting_Or left right position.Disjunct) (omega (arith, h, g))

  joined_and : (n : ℕ) (left right : Expr) → n + nesting_at left position.Conjunct ≤ limit → n + nesting_at right position.Operand ≤ limit → n + nesting_at (e.And left right) position.Conjunct ≤ limit
  joined_and n left right h g = rw (nesting_And left right position.Conjunct) (omega (arith, h, g))

  under_not : (n : ℕ) (inner : Expr) → n + 1 + nesting_at inner position.Operand ≤ limit → n + nesting_at (e.Not inner) position.Operand ≤ limit
  under_not n inner h = rw (nesting_Not inner position.Operand) (omega (arith, h))

  keeps : (stage : Stage) (before : Expr) (at : ℕ) (x : Expr) (m : ℕ) → Reads names text tokens stage before at x m → Keeps stage before at x m
  keeps stage b a x m (first_or n at middle end before first expr r s) = λ sy to low free later d.
      let chain = or_chain names text tokens limit alone none_fits limit n in
      let t = to_first (forms alone limit) (fits none_fits text tokens) (Disjunction n) (Conjunction n) (MoreOr n) (Own sign.Or) (Own sign.Or ∷ Own sign.And ∷ []) (Own sign.And ∷ []) chain at in
      let o = order names text tokens (Whole (Conjunction n)) before at first middle r in
      let p = order names text tokens (Whole (MoreOr n)) first middle expr end s in
      let k = keeps (Whole (Conjunction n)) before at first middle r (Nonterminal (MoreOr n) ∷ sy) to low (t.free sy free) (omega (arith, p, later)) (t.on sy to free (omega (arith, o, p, later)) d) in
      keeps (Whole (MoreOr n)) first middle expr end s sy to (let h = (is_step first).looser in omega (arith, h, k.0)) free later k.1
  keeps stage b a x m (no_or n at before other) = λ sy to low free later d.
      let chain = or_chain names text tokens limit alone none_fits limit n in
      (low, (ends (forms alone limit) (fits none_fits text tokens) (Disjunction n) (Conjunction n) (MoreOr n) (Own sign.Or) (Own sign.Or ∷ Own sign.And ∷ []) (Own sign.And ∷ []) chain at other).on sy to free later d)
  keeps stage b a x m (next_or n at middle end before right expr is r s) = λ sy to low free later d.
      let chain = or_chain names text tokens limit alone none_fits limit n in
      let t = to_item (forms alone limit) (fits none_fits text tokens) (Disjunction n) (Conjunction n) (MoreOr n) (Own sign.Or) (Own sign.Or ∷ Own sign.And ∷ []) (Own sign.And ∷ []) chain at is in
      let o = order names text tokens (Whole (Conjunction n)) before (at + 1) right middle r in
      let p = order names text tokens (Whole (MoreOr n)) (e.Or before right) middle expr end s in
      let k = keeps (Whole (Conjunction n)) before (at + 1) right middle r (Nonterminal (MoreOr n) ∷ sy) to (omega (arith, low)) (t.free sy free) (omega (arith, p, later)) (t.on sy to free (omega (arith, o, p, later)) d) in
      keeps (Whole (MoreOr n)) (e.Or before right) middle expr end s sy to (joined_or n before right low k.0) free later k.1
  keeps stage b a x m (first_and n at middle end before first expr r s) = λ sy to low free later d.
      let chain = and_chain names text tokens limit alone none_fits limit n in
      let t = to_first (forms alone limit) (fits none_fits text tokens) (Conjunction n) (Negation n) (MoreAnd n) (Own sign.And) (Own sign.And ∷ []) [] chain at in
      let o = order names text tokens (Whole (Negation n)) before at first middle r in
      let p = order names text tokens (Whole (MoreAnd n)) first middle expr end s in
      let k = keeps (Whole (Negation n)) before at first middle r (Nonterminal (MoreAnd n) ∷ sy) to low (omega (arith, p, later)) (t.on sy to free (omega (arith, o, p, later)) d) in
      keeps (Whole (MoreAnd n)) first middle expr end s sy to (let h = (is_step first).tighter in omega (arith, h, k.0)) free later k.1
  keeps stage b a x m (no_and n at before other) = λ sy to low free later d.
      let chain = and_chain names text tokens limit alone none_fits limit n in
      (low, (ends (forms alone limit) (fits none_fits text tokens) (Conjunction n) (Negation n) (MoreAnd n) (Own sign.And) (Own sign.And ∷ []) [] chain at other).on sy to free later d)
  keeps stage b a x m (next_and n at middle end before right expr is r s) = λ sy to low free later d.
      let chain = and_chain names text tokens limit alone none_fits limit n in
      let t = to_item (forms alone limit) (fits none_fits text tokens) (Conjunction n) (Negation n) (MoreAnd n) (Own sign.And) (Own sign.And ∷ []) [] chain at is in
      let o = order names text tokens (Whole (Negation n)) before (at + 1) right middle r in
      let p = order names text tokens (Whole (MoreAnd n)) (e.And before right) middle expr end s in
      let k = keeps (Whole (Negation n)) before (at + 1) right middle r (Nonterminal (MoreAnd n) ∷ sy) to (omega (arith, low)) (omega (arith, p, later)) (t.on sy to free (omega (arith, o, p, later)) d) in
      keeps (Whole (MoreAnd n)) (e.And before right) middle expr end s sy to (joined_and n before right low k.0) free later k.1
  keeps stage b a x m (begins n at end before expr first is r) = λ sy to low later d.
      let o = order names text tokens (Begun first n) before at expr end r in
      keeps (Begun first n) before at expr end r sy to low later (rw is at (negation_on alone none_fits text tokens limit n sy at to (omega (arith, o, later)) d))
  keeps stage b a x m (behind_not n at end before inner r) = λ sy to low later d.
      let k = keeps (Whole (Negation (n + 1))) before (at + 1) inner end r sy to (below_limit n d.0) later d.1 in
      (under_not n inner k.0, k.1)
  keeps stage b a x m (behind_true n at before) = λ sy to low later d. (rw (nesting_True position.Operand) (omega (arith, low)), d)
  keeps stage b a x m (behind_false n at before) = λ sy to low later d. (rw (nesting_False position.Operand) (omega (arith, low)), d)
  keeps stage b a x m (behind_feature n at i before is) = λ sy to low later d. (rw (nesting_Feature i position.Operand) (omega (arith, low)), d)
  keeps stage b a x m (behind_open n at end before expr r) = λ sy to low later d.
      let free : Frees (Own sign.Or ∷ Own sign.And ∷ []) (Terminal (Own sign.Close) ∷ sy) = (never_or alone none_fits text tokens limit n sy, (never_and alone none_fits text tokens limit n sy, tt)) in
      let k = keeps (Whole (Disjunction (n + 1))) before (at + 1) expr end r (Terminal (Own sign.Close) ∷ sy) to (below_limit n d.0) free (omega (arith, later)) d.1 in
      let c = close_sign (forms alone limit) (fits none_fits text tokens) (Own sign.Close) sy end to (omega (arith, later)) k.1 in
      (let h = (is_step expr).one in omega (arith, h, k.0), c.1)

  -- a whole expression that is read within a limit is printed within it
  pub nests_within : (expr : Expr) (end : ℕ) → Spells names text tokens (Disjunction 0) 0 expr end → sign_at text tokens end ≡ sign.End → IsViable text tokens limit (end + 1) → text_nesting expr ≤ limit
  nests_within expr end spelled ends viable =
      let r = onward names text tokens (Disjunction 0) 0 expr end spelled expr expr end (λ h. cc (ends, h)) (no_or 0 end expr (λ h. cc (ends, h))) in
      let k = keeps (Whole (Disjunction 0)) expr 0 expr end r (Terminal (Own sign.End) ∷ []) (end + 1) (omega arith) (end_free names text tokens limit limit) (omega arith) viable in
      omega (arith, k.0)

  -- a sign that is no link begins no link
  other_first : (end : ℕ) (link : Sign) → sign_at text tokens end ≢ link → NeverFirst (forms alone limit) (fits none_fits text tokens) (Own link) (Terminal (Own (sign_at text tokens end)) ∷ [])
  other_first end link other at to fit order m = let c = close_sign (forms alone limit) (fits none_fits text tokens) (Own (sign_at text tokens end)) [] at to order m in other (cc (c.0, fit))

  -- so is an expression that stands inside a text
  pub part_nests_within : (n at : ℕ) (expr : Expr) (end : ℕ) → n ≤ limit → Spells names text tokens (Disjunction n) at expr end → sign_at text tokens end ≢ sign.Or → sign_at text tokens end ≢ sign.And → IsRead text tokens limit (Disjunction n) at end → n + text_nesting expr ≤ limit
  part_nests_within n at expr end low spelled or and read =
      let r = onward names text tokens (Disjunction n) at expr end spelled expr expr end and (no_or n end expr or) in
      let s = Terminal (Own (sign_at text tokens end)) ∷ [] in
      let on : D s end (end + 1) = open_sign (forms alone limit) (fits none_fits text tokens) (Own (sign_at text tokens end)) [] end (end + 1) refl (here (forms alone limit) (fits none_fits text tokens) [] (end + 1)) in
      let k = keeps (Whole (Disjunction n)) expr at expr end r s (end + 1) low (other_first end sign.Or or, (other_first end sign.And and, tt)) (omega arith) ((read alone none_fits limit (omega arith)).back s (end + 1) on) in
      k.0
