-- Connectives without constants: when they hold, what they weigh and what they mention.
use Rattle.std.proofs.Common.{◌≡◌, ◌∙◌, ℕ, ◌+◌, ◌≤◌, Bool, true, false, not, ◌&&◌, ◌||◌, List, refl, sym, ap, arith, if◌then◌else◌}
use Rattle.feature_expr.specs.declared.expr.Expr.{Expr, fold-Expr, out-Expr, map-Expr}
use Rattle.feature_expr.specs.declared.expr.Expr.TheFolds.{fold_out-Expr, fold-roll-Expr}
use Rattle.feature_expr.specs.declared.expr.Expr.TheOpen.{Expr-F}
use Rattle.feature_expr.specs.declared.expr.Expr.TheViews.{out-roll-Expr}
use Rattle.feature_expr.specs.declared.expr.Expr.TheVariants.{rolls-And, rolls-False, rolls-Not, rolls-Or, rolls-True}
use Rattle.feature_expr.specs.declared.expr.Expr as e
use Rattle.feature_expr.specs.Expressions.{and_of, and_left, and_right, mentions, mentions_step, not_of, not_step, or_of, or_left, or_right, weight_of, weight_step}
use Rattle.feature_expr.specs.Same.{same_expr}
use Rattle.feature_expr.specs.SameLaws.{same_yes}
use Rattle.feature_expr.specs.Satisfaction.{satisfies, holds_at}
use Rattle.conditional_columns.specs.ColumnLists.{either_of}

or_false : (b : Bool) → b ≡ (b || false)
or_false true = refl
or_false false = refl

or_true : (b : Bool) → true ≡ (b || true)
or_true true = refl
or_true false = refl

or_itself : (b : Bool) → b ≡ (b || b)
or_itself true = refl
or_itself false = refl

and_true : (b : Bool) → b ≡ (b && true)
and_true true = refl
and_true false = refl

and_false : (b : Bool) → false ≡ (b && false)
and_false true = refl
and_false false = refl

-- when they hold

layer_holds : (c : List ℕ) (l : Expr) (x : Expr-F Expr) → out-Expr l ≡ x → satisfies c l ≡ holds_at c (map-Expr Expr Bool (fold-Expr Bool (holds_at c)) x)
layer_holds c l x is = fold_out-Expr Bool (holds_at c) l ∙ ap (λ y. holds_at c (map-Expr Expr Bool (fold-Expr Bool (holds_at c)) y)) is

pub holds_False : (c : List ℕ) → satisfies c e.False ≡ false
holds_False c = ap (λ (x : Expr). satisfies c x) (sym rolls-False) ∙ fold-roll-Expr Bool (holds_at c) Expr-F.False

pub holds_True : (c : List ℕ) → satisfies c e.True ≡ true
holds_True c = ap (λ (x : Expr). satisfies c x) (sym rolls-True) ∙ fold-roll-Expr Bool (holds_at c) Expr-F.True

holds_And : (c : List ℕ) (l r : Expr) → satisfies c (e.And l r) ≡ (satisfies c l && satisfies c r)
holds_And c l r = ap (λ (x : Expr). satisfies c x) (sym (rolls-And l r)) ∙ fold-roll-Expr Bool (holds_at c) (Expr-F.And l r)

holds_Or : (c : List ℕ) (l r : Expr) → satisfies c (e.Or l r) ≡ (satisfies c l || satisfies c r)
holds_Or c l r = ap (λ (x : Expr). satisfies c x) (sym (rolls-Or l r)) ∙ fold-roll-Expr Bool (holds_at c) (Expr-F.Or l r)

right_holds : (c : List ℕ) (l r : Expr) (y : Expr-F Expr) → out-Expr r ≡ y → satisfies c (and_right l r y) ≡ (satisfies c l && satisfies c r)
right_holds c l r Expr-F.True is = rw (layer_holds c r Expr-F.True is) (and_true (satisfies c l))
right_holds c l r Expr-F.False is = rw (layer_holds c r Expr-F.False is) (holds_False c ∙ and_false (satisfies c l))
right_holds c l r (Expr-F.Feature i) is = holds_And c l r
right_holds c l r (Expr-F.Not inner) is = holds_And c l r
right_holds c l r (Expr-F.And a b) is = holds_And c l r
right_holds c l r (Expr-F.Or a b) is = holds_And c l r

left_holds : (c : List ℕ) (l r : Expr) (x : Expr-F Expr) → out-Expr l ≡ x → satisfies c (and_left l r x) ≡ (satisfies c l && satisfies c r)
left_holds c l r Expr-F.True is = rw (layer_holds c l Expr-F.True is) refl
left_holds c l r Expr-F.False is = rw (layer_holds c l Expr-F.False is) (holds_False c)
left_holds c l r (Expr-F.Feature i) is = right_holds c l r (out-Expr r) refl
left_holds c l r (Expr-F.Not inner) is = right_holds c l r (out-Expr r) refl
left_holds c l r (Expr-F.And a b) is = right_holds c l r (out-Expr r) refl
left_holds c l r (Expr-F.Or a b) is = right_holds c l r (out-Expr r) refl

pub and_holds : (c : List ℕ) (l r : Expr) → satisfies c (and_of l r) ≡ (satisfies c l && satisfies c r)
and_holds c l r = left_holds c l r (out-Expr l) refl

or_right_holds : (c : List ℕ) (l r : Expr) (y : Expr-F Expr) → out-Expr r ≡ y → satisfies c (or_right l r y) ≡ (satisfies c l || satisfies c r)
or_right_holds c l r Expr-F.True is = rw (layer_holds c r Expr-F.True is) (holds_True c ∙ or_true (satisfies c l))
or_right_holds c l r Expr-F.False is = rw (layer_holds c r Expr-F.False is) (or_false (satisfies c l))
or_right_holds c l r (Expr-F.Feature i) is = holds_Or c l r
or_right_holds c l r (Expr-F.Not inner) is = holds_Or c l r
or_right_holds c l r (Expr-F.And a b) is = holds_Or c l r
or_right_holds c l r (Expr-F.Or a b) is = holds_Or c l r

or_left_holds : (c : List ℕ) (l r : Expr) (x : Expr-F Expr) → out-Expr l ≡ x → satisfies c (or_left l r x) ≡ (satisfies c l || satisfies c r)
or_left_holds c l r Expr-F.True is = rw (layer_holds c l Expr-F.True is) (holds_True c)
or_left_holds c l r Expr-F.False is = rw (layer_holds c l Expr-F.False is) refl
or_left_holds c l r (Expr-F.Feature i) is = or_right_holds c l r (out-Expr r) refl
or_left_holds c l r (Expr-F.Not inner) is = or_right_holds c l r (out-Expr r) refl
or_left_holds c l r (Expr-F.And a b) is = or_right_holds c l r (out-Expr r) refl
or_left_holds c l r (Expr-F.Or a b) is = or_right_holds c l r (out-Expr r) refl

pub or_holds : (c : List ℕ) (l r : Expr) → satisfies c (or_of l r) ≡ (satisfies c l || satisfies c r)
or_holds c l r = or_left_holds c l r (out-Expr l) refl

either_by : (c : List ℕ) (l r : Expr) (b : Bool) → same_expr l r ≡ b → satisfies c (if b then l else or_of l r) ≡ (satisfies c l || satisfies c r)
either_by c l r true is = or_itself (satisfies c l) ∙ ap (λ (x : Expr). satisfies c l || satisfies c x) (same_yes l r is)
either_by c l r false is = or_holds c l r

pub either_holds : (c : List ℕ) (l r : Expr) → satisfies c (either_of l r) ≡ (satisfies c l || satisfies c r)
either_holds c l r = either_by c l r (same_expr l r) refl

holds_Not : (c : List ℕ) (l : Expr) → satisfies c (e.Not l) ≡ not (satisfies c l)
holds_Not c l = ap (λ (x : Expr). satisfies c x) (sym (rolls-Not l)) ∙ fold-roll-Expr Bool (holds_at c) (Expr-F.Not l)

not_holds_by : (c : List ℕ) (l : Expr) (x : Expr-F Expr) → out-Expr l ≡ x → satisfies c (not_step l x) ≡ not (satisfies c l)
not_holds_by c l Expr-F.True is = rw (layer_holds c l Expr-F.True is) (holds_False c)
not_holds_by c l Expr-F.False is = rw (layer_holds c l Expr-F.False is) (holds_True c)
not_holds_by c l (Expr-F.Feature i) is = holds_Not c l
not_holds_by c l (Expr-F.Not inner) is = holds_Not c l
not_holds_by c l (Expr-F.And a b) is = holds_Not c l
not_holds_by c l (Expr-F.Or a b) is = holds_Not c l

pub not_holds : (c : List ℕ) (l : Expr) → satisfies c (not_of l) ≡ not (satisfies c l)
not_holds c l = not_holds_by c l (out-Expr l) refl

-- what they weigh

pub weighs_one : (l : Expr) → 1 ≤ weight_of l
weighs_one l = rw (fold_out-Expr ℕ weight_step l) (node_weighs (map-Expr Expr ℕ (fold-Expr ℕ weight_step) (out-Expr l))) where
  node_weighs : (x : Expr-F ℕ) → 1 ≤ weight_step x
  node_weighs Expr-F.True = omega arith
  node_weighs Expr-F.False = omega arith
  node_weighs (Expr-F.Feature i) = omega arith
  node_weighs (Expr-F.Not inner) = omega arith
  node_weighs (Expr-F.And a b) = omega arith
  node_weighs (Expr-F.Or a b) = omega arith

pub weighs_False : weight_of e.False ≡ 1
weighs_False = ap weight_of (sym rolls-False) ∙ fold-roll-Expr ℕ weight_step Expr-F.False

pub weighs_True : weight_of e.True ≡ 1
weighs_True = ap weight_of (sym rolls-True) ∙ fold-roll-Expr ℕ weight_step Expr-F.True

weighs_And : (l r : Expr) → weight_of (e.And l r) ≡ 1 + weight_of l + weight_of r
weighs_And l r = ap weight_of (sym (rolls-And l r)) ∙ fold-roll-Expr ℕ weight_step (Expr-F.And l r)

weighs_Or : (l r : Expr) → weight_of (e.Or l r) ≡ 1 + weight_of l + weight_of r
weighs_Or l r = ap weight_of (sym (rolls-Or l r)) ∙ fold-roll-Expr ℕ weight_step (Expr-F.Or l r)

right_weighs : (l r : Expr) (y : Expr-F Expr) → weight_of (and_right l r y) ≤ weight_of l + weight_of r + 1
right_weighs l r Expr-F.True = omega arith
right_weighs l r Expr-F.False = let w = weighs_False in let o = weighs_one l in omega (arith, w, o)
right_weighs l r (Expr-F.Feature i) = let w = weighs_And l r in omega (arith, w)
right_weighs l r (Expr-F.Not inner) = let w = weighs_And l r in omega (arith, w)
right_weighs l r (Expr-F.And a b) = let w = weighs_And l r in omega (arith, w)
right_weighs l r (Expr-F.Or a b) = let w = weighs_And l r in omega (arith, w)

left_weighs : (l r : Expr) (x : Expr-F Expr) → weight_of (and_left l r x) ≤ weight_of l + weight_of r + 1
left_weighs l r Expr-F.True = omega arith
left_weighs l r Expr-F.False = let w = weighs_False in let o = weighs_one l in omega (arith, w, o)
left_weighs l r (Expr-F.Feature i) = right_weighs l r (out-Expr r)
left_weighs l r (Expr-F.Not inner) = right_weighs l r (out-Expr r)
left_weighs l r (Expr-F.And a b) = right_weighs l r (out-Expr r)
left_weighs l r (Expr-F.Or a b) = right_weighs l r (out-Expr r)

pub and_weighs : (l r : Expr) → weight_of (and_of l r) ≤ weight_of l + weight_of r + 1
and_weighs l r = left_weighs l r (out-Expr l)

or_right_weighs : (l r : Expr) (y : Expr-F Expr) → weight_of (or_right l r y) ≤ weight_of l + weight_of r + 1
or_right_weighs l r Expr-F.True = let w = weighs_True in let o = weighs_one l in omega (arith, w, o)
or_right_weighs l r Expr-F.False = omega arith
or_right_weighs l r (Expr-F.Feature i) = let w = weighs_Or l r in omega (arith, w)
or_right_weighs l r (Expr-F.Not inner) = let w = weighs_Or l r in omega (arith, w)
or_right_weighs l r (Expr-F.And a b) = let w = weighs_Or l r in omega (arith, w)
or_right_weighs l r (Expr-F.Or a b) = let w = weighs_Or l r in omega (arith, w)

or_left_weighs : (l r : Expr) (x : Expr-F Expr) → weight_of (or_left l r x) ≤ weight_of l + weight_of r + 1
or_left_weighs l r Expr-F.True = let w = weighs_True in let o = weighs_one l in omega (arith, w, o)
or_left_weighs l r Expr-F.False = omega arith
or_left_weighs l r (Expr-F.Feature i) = or_right_weighs l r (out-Expr r)
or_left_weighs l r (Expr-F.Not inner) = or_right_weighs l r (out-Expr r)
or_left_weighs l r (Expr-F.And a b) = or_right_weighs l r (out-Expr r)
or_left_weighs l r (Expr-F.Or a b) = or_right_weighs l r (out-Expr r)

pub or_weighs : (l r : Expr) → weight_of (or_of l r) ≤ weight_of l + weight_of r + 1
or_weighs l r = or_left_weighs l r (out-Expr l)

either_weighs_by : (l r : Expr) (b : Bool) → weight_of (if b then l else or_of l r) ≤ weight_of l + weight_of r + 1
either_weighs_by l r true = omega arith
either_weighs_by l r false = or_weighs l r

pub either_weighs : (l r : Expr) → weight_of (either_of l r) ≤ weight_of l + weight_of r + 1
either_weighs l r = either_weighs_by l r (same_expr l r)

weighs_Not : (l : Expr) → weight_of (e.Not l) ≡ 1 + weight_of l
weighs_Not l = ap weight_of (sym (rolls-Not l)) ∙ fold-roll-Expr ℕ weight_step (Expr-F.Not l)

not_weighs_by : (l : Expr) (x : Expr-F Expr) → weight_of (not_step l x) ≤ weight_of l + 1
not_weighs_by l Expr-F.True = let w = weighs_False in omega (arith, w)
not_weighs_by l Expr-F.False = let w = weighs_True in omega (arith, w)
not_weighs_by l (Expr-F.Feature i) = let w = weighs_Not l in omega (arith, w)
not_weighs_by l (Expr-F.Not inner) = let w = weighs_Not l in omega (arith, w)
not_weighs_by l (Expr-F.And a b) = let w = weighs_Not l in omega (arith, w)
not_weighs_by l (Expr-F.Or a b) = let w = weighs_Not l in omega (arith, w)

pub not_weighs : (l : Expr) → weight_of (not_of l) ≤ weight_of l + 1
not_weighs l = not_weighs_by l (out-Expr l)

-- what they mention

module _ (i : ℕ) where
  pub none_in_True : mentions i e.True ≡ true → (b : Bool) → b ≡ true
  none_in_True h b = let no : mentions i e.True ≡ false = ap (mentions i) (sym rolls-True) ∙ fold-roll-Expr Bool (mentions_step i) Expr-F.True in absurd (cc (h, no))

  none_in_False : mentions i e.False ≡ true → (b : Bool) → b ≡ true
  none_in_False h b = let no : mentions i e.False ≡ false = ap (mentions i) (sym rolls-False) ∙ fold-roll-Expr Bool (mentions_step i) Expr-F.False in absurd (cc (h, no))

  in_Not : (l : Expr) → mentions i (e.Not l) ≡ true → mentions i l ≡ true
  in_Not l h = sym (ap (mentions i) (sym (rolls-Not l)) ∙ fold-roll-Expr Bool (mentions_step i) (Expr-F.Not l)) ∙ h

  not_step_mentions : (l : Expr) (x : Expr-F Expr) → mentions i (not_step l x) ≡ true → mentions i l ≡ true
  not_step_mentions l Expr-F.True h = none_in_False h _
  not_step_mentions l Expr-F.False h = none_in_True h _
  not_step_mentions l (Expr-F.Feature k) h = in_Not l h
  not_step_mentions l (Expr-F.Not inner) h = in_Not l h
  not_step_mentions l (Expr-F.And a b) h = in_Not l h
  not_step_mentions l (Expr-F.Or a b) h = in_Not l h

  pub not_mentions : (l : Expr) → mentions i (not_of l) ≡ true → mentions i l ≡ true
  not_mentions l = not_step_mentions l (out-Expr l)

  in_And : (l r : Expr) → mentions i (e.And l r) ≡ true → (mentions i l || mentions i r) ≡ true
  in_And l r h = sym (ap (mentions i) (sym (rolls-And l r)) ∙ fold-roll-Expr Bool (mentions_step i) (Expr-F.And l r)) ∙ h

  in_Or : (l r : Expr) → mentions i (e.Or l r) ≡ true → (mentions i l || mentions i r) ≡ true
  in_Or l r h = sym (ap (mentions i) (sym (rolls-Or l r)) ∙ fold-roll-Expr Bool (mentions_step i) (Expr-F.Or l r)) ∙ h

  left_one : (a b : Bool) → a ≡ true → (a || b) ≡ true
  left_one true b h = refl
  left_one false b h = absurd (cc h)

  right_one : (a b : Bool) → b ≡ true → (a || b) ≡ true
  right_one true b h = refl
  right_one false b h = h

  and_right_mentions : (l r : Expr) (y : Expr-F Expr) → mentions i (and_right l r y) ≡ true → (mentions i l || mentions i r) ≡ true
  and_right_mentions l r Expr-F.True h = left_one _ _ h
  and_right_mentions l r Expr-F.False h = none_in_False h _
  and_right_mentions l r (Expr-F.Feature k) h = in_And l r h
  and_right_mentions l r (Expr-F.Not inner) h = in_And l r h
  and_right_mentions l r (Expr-F.And a b) h = in_And l r h
  and_right_mentions l r (Expr-F.Or a b) h = in_And l r h

  and_left_mentions : (l r : Expr) (x : Expr-F Expr) → mentions i (and_left l r x) ≡ true → (mentions i l || mentions i r) ≡ true
  and_left_mentions l r Expr-F.True h = right_one _ _ h
  and_left_mentions l r Expr-F.False h = none_in_False h _
  and_left_mentions l r (Expr-F.Feature k) h = and_right_mentions l r (out-Expr r) h
  and_left_mentions l r (Expr-F.Not inner) h = and_right_mentions l r (out-Expr r) h
  and_left_mentions l r (Expr-F.And a b) h = and_right_mentions l r (out-Expr r) h
  and_left_mentions l r (Expr-F.Or a b) h = and_right_mentions l r (out-Expr r) h

  pub and_mentions : (l r : Expr) → mentions i (and_of l r) ≡ true → (mentions i l || mentions i r) ≡ true
  and_mentions l r = and_left_mentions l r (out-Expr l)

  or_right_mentions : (l r : Expr) (y : Expr-F Expr) → mentions i (or_right l r y) ≡ true → (mentions i l || mentions i r) ≡ true
  or_right_mentions l r Expr-F.True h = none_in_True h _
  or_right_mentions l r Expr-F.False h = left_one _ _ h
  or_right_mentions l r (Expr-F.Feature k) h = in_Or l r h
  or_right_mentions l r (Expr-F.Not inner) h = in_Or l r h
  or_right_mentions l r (Expr-F.And a b) h = in_Or l r h
  or_right_mentions l r (Expr-F.Or a b) h = in_Or l r h

  or_left_mentions : (l r : Expr) (x : Expr-F Expr) → mentions i (or_left l r x) ≡ true → (mentions i l || mentions i r) ≡ true
  or_left_mentions l r Expr-F.True h = none_in_True h _
  or_left_mentions l r Expr-F.False h = right_one _ _ h
  or_left_mentions l r (Expr-F.Feature k) h = or_right_mentions l r (out-Expr r) h
  or_left_mentions l r (Expr-F.Not inner) h = or_right_mentions l r (out-Expr r) h
  or_left_mentions l r (Expr-F.And a b) h = or_right_mentions l r (out-Expr r) h
  or_left_mentions l r (Expr-F.Or a b) h = or_right_mentions l r (out-Expr r) h

  pub or_mentions : (l r : Expr) → mentions i (or_of l r) ≡ true → (mentions i l || mentions i r) ≡ true
  or_mentions l r = or_left_mentions l r (out-Expr l)

  either_by_mentions : (l r : Expr) (b : Bool) → mentions i (if b then l else or_of l r) ≡ true → (mentions i l || mentions i r) ≡ true
  either_by_mentions l r true h = left_one _ _ h
  either_by_mentions l r false h = or_mentions l r h

  pub either_mentions : (l r : Expr) → mentions i (either_of l r) ≡ true → (mentions i l || mentions i r) ≡ true
  either_mentions l r = either_by_mentions l r (same_expr l r)

-- a condition and the same one again
pub either_same : (c : List ℕ) (l r : Expr) → l ≡ r → satisfies c l ≡ (satisfies c l || satisfies c r)
either_same c l r same = or_itself (satisfies c l) ∙ ap (λ (x : Expr). satisfies c l || satisfies c x) same

-- a constant on the left side

pub and_True : (r : Expr) → and_of e.True r ≡ r
and_True r = ap (and_left e.True r) (ap out-Expr (sym rolls-True) ∙ out-roll-Expr Expr-F.True)

pub and_False : (r : Expr) → and_of e.False r ≡ e.False
and_False r = ap (and_left e.False r) (ap out-Expr (sym rolls-False) ∙ out-roll-Expr Expr-F.False)
