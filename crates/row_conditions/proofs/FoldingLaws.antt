-- Conjunction, disjunction and negation without constants: what they hold, weigh and mention.
use Rattle.std.proofs.Common.{◌≡◌, ◌∙◌, ℕ, ◌+◌, ◌≤◌, Bool, true, false, not, ◌&&◌, ◌||◌, List, refl, sym, ap, subst, arith, rules}
use Rattle.feature_expr.specs.declared.expr.Expr.{Expr, fold-Expr, out-Expr, map-Expr}
use Rattle.feature_expr.specs.declared.expr.Expr.TheFolds.{fold_out-Expr}
use Rattle.feature_expr.specs.declared.expr.Expr.TheOpen.{Expr-F}
use Rattle.feature_expr.specs.declared.expr.Expr as e
use Rattle.feature_expr.specs.Expressions.{and_of, and_left, and_right, or_of, or_left, or_right, not_of, not_step, weight_of, weight_step, mentions}
use Rattle.feature_expr.specs.Satisfaction.{satisfies, holds_at}
use Rattle.row_conditions.proofs.BoolLaws.{and_true, and_false, or_true, or_false, or_start, or_end}

-- a constant's value is that of its layer
of_layer : (R : Type 0) (h : Expr-F R → R) (l : Expr) (x : Expr-F Expr) → out-Expr l ≡ x → fold-Expr R h l ≡ h (map-Expr Expr R (fold-Expr R h) x)
of_layer R h l x is = fold_out-Expr R h l ∙ ap (λ y. h (map-Expr Expr R (fold-Expr R h) y)) is

pub holds_True : (c : List ℕ) → satisfies c e.True ≡ true
holds_True c = search (rules, e.the_lemmas)

pub holds_False : (c : List ℕ) → satisfies c e.False ≡ false
holds_False c = search (rules, e.the_lemmas)

holds_Not : (c : List ℕ) (l : Expr) → satisfies c (e.Not l) ≡ not (satisfies c l)
holds_Not c l = search (rules, e.the_lemmas)

holds_And : (c : List ℕ) (l r : Expr) → satisfies c (e.And l r) ≡ (satisfies c l && satisfies c r)
holds_And c l r = search (rules, e.the_lemmas)

holds_Or : (c : List ℕ) (l r : Expr) → satisfies c (e.Or l r) ≡ (satisfies c l || satisfies c r)
holds_Or c l r = search (rules, e.the_lemmas)

-- ---- what they hold

and_right_holds : (c : List ℕ) (l r : Expr) (y : Expr-F Expr) → out-Expr r ≡ y → satisfies c (and_right l r y) ≡ (satisfies c l && satisfies c r)
and_right_holds c l r Expr-F.True is = rw (of_layer Bool (holds_at c) r Expr-F.True is) (sym (and_true (satisfies c l)))
and_right_holds c l r Expr-F.False is = rw (of_layer Bool (holds_at c) r Expr-F.False is) (holds_False c ∙ sym (and_false (satisfies c l)))
and_right_holds c l r (Expr-F.Feature i) is = holds_And c l r
and_right_holds c l r (Expr-F.Not inner) is = holds_And c l r
and_right_holds c l r (Expr-F.And a b) is = holds_And c l r
and_right_holds c l r (Expr-F.Or a b) is = holds_And c l r

and_left_holds : (c : List ℕ) (l r : Expr) (x : Expr-F Expr) → out-Expr l ≡ x → satisfies c (and_left l r x) ≡ (satisfies c l && satisfies c r)
and_left_holds c l r Expr-F.True is = rw (of_layer Bool (holds_at c) l Expr-F.True is) refl
and_left_holds c l r Expr-F.False is = rw (of_layer Bool (holds_at c) l Expr-F.False is) (holds_False c)
and_left_holds c l r (Expr-F.Feature i) is = and_right_holds c l r (out-Expr r) refl
and_left_holds c l r (Expr-F.Not inner) is = and_right_holds c l r (out-Expr r) refl
and_left_holds c l r (Expr-F.And a b) is = and_right_holds c l r (out-Expr r) refl
and_left_holds c l r (Expr-F.Or a b) is = and_right_holds c l r (out-Expr r) refl

pub and_holds : (c : List ℕ) (l r : Expr) → satisfies c (and_of l r) ≡ (satisfies c l && satisfies c r)
and_holds c l r = and_left_holds c l r (out-Expr l) refl

or_right_holds : (c : List ℕ) (l r : Expr) (y : Expr-F Expr) → out-Expr r ≡ y → satisfies c (or_right l r y) ≡ (satisfies c l || satisfies c r)
or_right_holds c l r Expr-F.True is = rw (of_layer Bool (holds_at c) r Expr-F.True is) (holds_True c ∙ sym (or_true (satisfies c l)))
or_right_holds c l r Expr-F.False is = rw (of_layer Bool (holds_at c) r Expr-F.False is) (sym (or_false (satisfies c l)))
or_right_holds c l r (Expr-F.Feature i) is = holds_Or c l r
or_right_holds c l r (Expr-F.Not inner) is = holds_Or c l r
or_right_holds c l r (Expr-F.And a b) is = holds_Or c l r
or_right_holds c l r (Expr-F.Or a b) is = holds_Or c l r

or_left_holds : (c : List ℕ) (l r : Expr) (x : Expr-F Expr) → out-Expr l ≡ x → satisfies c (or_left l r x) ≡ (satisfies c l || satisfies c r)
or_left_holds c l r Expr-F.True is = rw (of_layer Bool (holds_at c) l Expr-F.True is) (holds_True c)
or_left_holds c l r Expr-F.False is = rw (of_layer Bool (holds_at c) l Expr-F.False is) refl
or_left_holds c l r (Expr-F.Feature i) is = or_right_holds c l r (out-Expr r) refl
or_left_holds c l r (Expr-F.Not inner) is = or_right_holds c l r (out-Expr r) refl
or_left_holds c l r (Expr-F.And a b) is = or_right_holds c l r (out-Expr r) refl
or_left_holds c l r (Expr-F.Or a b) is = or_right_holds c l r (out-Expr r) refl

pub or_holds : (c : List ℕ) (l r : Expr) → satisfies c (or_of l r) ≡ (satisfies c l || satisfies c r)
or_holds c l r = or_left_holds c l r (out-Expr l) refl

not_step_holds : (c : List ℕ) (l : Expr) (x : Expr-F Expr) → out-Expr l ≡ x → satisfies c (not_step l x) ≡ not (satisfies c l)
not_step_holds c l Expr-F.True is = rw (of_layer Bool (holds_at c) l Expr-F.True is) (holds_False c)
not_step_holds c l Expr-F.False is = rw (of_layer Bool (holds_at c) l Expr-F.False is) (holds_True c)
not_step_holds c l (Expr-F.Feature i) is = holds_Not c l
not_step_holds c l (Expr-F.Not inner) is = holds_Not c l
not_step_holds c l (Expr-F.And a b) is = holds_Not c l
not_step_holds c l (Expr-F.Or a b) is = holds_Not c l

pub not_holds : (c : List ℕ) (l : Expr) → satisfies c (not_of l) ≡ not (satisfies c l)
not_holds c l = not_step_holds c l (out-Expr l) refl

-- ---- what they weigh

step_pos : (x : Expr-F ℕ) → 1 ≤ weight_step x
step_pos Expr-F.True = omega arith
step_pos Expr-F.False = omega arith
step_pos (Expr-F.Feature i) = omega arith
step_pos (Expr-F.Not inner) = omega arith
step_pos (Expr-F.And left right) = omega arith
step_pos (Expr-F.Or left right) = omega arith

pub weight_pos : (cond : Expr) → 1 ≤ weight_of cond
weight_pos cond = subst (λ n. 1 ≤ n) (sym (fold_out-Expr ℕ weight_step cond)) (step_pos _)

pub weight_True : weight_of e.True ≡ 1
weight_True = search (rules, e.the_lemmas)

pub weight_False : weight_of e.False ≡ 1
weight_False = search (rules, e.the_lemmas)

weight_Not : (l : Expr) → weight_of (e.Not l) ≡ 1 + weight_of l
weight_Not l = search (rules, e.the_lemmas)

weight_And : (l r : Expr) → weight_of (e.And l r) ≡ 1 + weight_of l + weight_of r
weight_And l r = search (rules, e.the_lemmas)

weight_Or : (l r : Expr) → weight_of (e.Or l r) ≡ 1 + weight_of l + weight_of r
weight_Or l r = search (rules, e.the_lemmas)

and_right_weighs : (l r : Expr) (y : Expr-F Expr) → weight_of (and_right l r y) ≤ weight_of l + weight_of r + 1
and_right_weighs l r Expr-F.True = omega arith
and_right_weighs l r Expr-F.False = let w = weight_False in omega (arith, w)
and_right_weighs l r (Expr-F.Feature i) = let w = weight_And l r in omega (arith, w)
and_right_weighs l r (Expr-F.Not inner) = let w = weight_And l r in omega (arith, w)
and_right_weighs l r (Expr-F.And a b) = let w = weight_And l r in omega (arith, w)
and_right_weighs l r (Expr-F.Or a b) = let w = weight_And l r in omega (arith, w)

and_left_weighs : (l r : Expr) (x : Expr-F Expr) → weight_of (and_left l r x) ≤ weight_of l + weight_of r + 1
and_left_weighs l r Expr-F.True = omega arith
and_left_weighs l r Expr-F.False = let w = weight_False in omega (arith, w)
and_left_weighs l r (Expr-F.Feature i) = and_right_weighs l r (out-Expr r)
and_left_weighs l r (Expr-F.Not inner) = and_right_weighs l r (out-Expr r)
and_left_weighs l r (Expr-F.And a b) = and_right_weighs l r (out-Expr r)
and_left_weighs l r (Expr-F.Or a b) = and_right_weighs l r (out-Expr r)

pub and_weighs : (l r : Expr) → weight_of (and_of l r) ≤ weight_of l + weight_of r + 1
and_weighs l r = and_left_weighs l r (out-Expr l)

or_right_weighs : (l r : Expr) (y : Expr-F Expr) → weight_of (or_right l r y) ≤ weight_of l + weight_of r + 1
or_right_weighs l r Expr-F.True = let w = weight_True in omega (arith, w)
or_right_weighs l r Expr-F.False = omega arith
or_right_weighs l r (Expr-F.Feature i) = let w = weight_Or l r in omega (arith, w)
or_right_weighs l r (Expr-F.Not inner) = let w = weight_Or l r in omega (arith, w)
or_right_weighs l r (Expr-F.And a b) = let w = weight_Or l r in omega (arith, w)
or_right_weighs l r (Expr-F.Or a b) = let w = weight_Or l r in omega (arith, w)

or_left_weighs : (l r : Expr) (x : Expr-F Expr) → weight_of (or_left l r x) ≤ weight_of l + weight_of r + 1
or_left_weighs l r Expr-F.True = let w = weight_True in omega (arith, w)
or_left_weighs l r Expr-F.False = omega arith
or_left_weighs l r (Expr-F.Feature i) = or_right_weighs l r (out-Expr r)
or_left_weighs l r (Expr-F.Not inner) = or_right_weighs l r (out-Expr r)
or_left_weighs l r (Expr-F.And a b) = or_right_weighs l r (out-Expr r)
or_left_weighs l r (Expr-F.Or a b) = or_right_weighs l r (out-Expr r)

pub or_weighs : (l r : Expr) → weight_of (or_of l r) ≤ weight_of l + weight_of r + 1
or_weighs l r = or_left_weighs l r (out-Expr l)

not_step_weighs : (l : Expr) (x : Expr-F Expr) → weight_of (not_step l x) ≤ weight_of l + 1
not_step_weighs l Expr-F.True = let w = weight_False in omega (arith, w)
not_step_weighs l Expr-F.False = let w = weight_True in omega (arith, w)
not_step_weighs l (Expr-F.Feature i) = let w = weight_Not l in omega (arith, w)
not_step_weighs l (Expr-F.Not inner) = let w = weight_Not l in omega (arith, w)
not_step_weighs l (Expr-F.And a b) = let w = weight_Not l in omega (arith, w)
not_step_weighs l (Expr-F.Or a b) = let w = weight_Not l in omega (arith, w)

pub not_weighs : (l : Expr) → weight_of (not_of l) ≤ weight_of l + 1
not_weighs l = not_step_weighs l (out-Expr l)

-- ---- what they mention

pub mentions_True : (i : ℕ) → mentions i e.True ≡ false
mentions_True i = search (rules, e.the_lemmas)

pub mentions_False : (i : ℕ) → mentions i e.False ≡ false
mentions_False i = search (rules, e.the_lemmas)

mentions_Not : (i : ℕ) (l : Expr) → mentions i (e.Not l) ≡ mentions i l
mentions_Not i l = search (rules, e.the_lemmas)

mentions_And : (i : ℕ) (l r : Expr) → mentions i (e.And l r) ≡ (mentions i l || mentions i r)
mentions_And i l r = search (rules, e.the_lemmas)

mentions_Or : (i : ℕ) (l r : Expr) → mentions i (e.Or l r) ≡ (mentions i l || mentions i r)
mentions_Or i l r = search (rules, e.the_lemmas)

never : (i : ℕ) (x : Bool) → mentions i e.False ≡ true → x ≡ true
never i x h = absurd (cc (mentions_False i, h))

never_true : (i : ℕ) (x : Bool) → mentions i e.True ≡ true → x ≡ true
never_true i x h = absurd (cc (mentions_True i, h))

and_right_mentions : (i : ℕ) (l r : Expr) (y : Expr-F Expr) → mentions i (and_right l r y) ≡ true → (mentions i l || mentions i r) ≡ true
and_right_mentions i l r Expr-F.True h = or_start _ _ h
and_right_mentions i l r Expr-F.False h = never i _ h
and_right_mentions i l r (Expr-F.Feature k) h = sym (mentions_And i l r) ∙ h
and_right_mentions i l r (Expr-F.Not inner) h = sym (mentions_And i l r) ∙ h
and_right_mentions i l r (Expr-F.And a b) h = sym (mentions_And i l r) ∙ h
and_right_mentions i l r (Expr-F.Or a b) h = sym (mentions_And i l r) ∙ h

and_left_mentions : (i : ℕ) (l r : Expr) (x : Expr-F Expr) → mentions i (and_left l r x) ≡ true → (mentions i l || mentions i r) ≡ true
and_left_mentions i l r Expr-F.True h = or_end _ _ h
and_left_mentions i l r Expr-F.False h = never i _ h
and_left_mentions i l r (Expr-F.Feature k) h = and_right_mentions i l r (out-Expr r) h
and_left_mentions i l r (Expr-F.Not inner) h = and_right_mentions i l r (out-Expr r) h
and_left_mentions i l r (Expr-F.And a b) h = and_right_mentions i l r (out-Expr r) h
and_left_mentions i l r (Expr-F.Or a b) h = and_right_mentions i l r (out-Expr r) h

pub and_mentions : (i : ℕ) (l r : Expr) → mentions i (and_of l r) ≡ true → (mentions i l || mentions i r) ≡ true
and_mentions i l r h = and_left_mentions i l r (out-Expr l) h

or_right_mentions : (i : ℕ) (l r : Expr) (y : Expr-F Expr) → mentions i (or_right l r y) ≡ true → (mentions i l || mentions i r) ≡ true
or_right_mentions i l r Expr-F.True h = never_true i _ h
or_right_mentions i l r Expr-F.False h = or_start _ _ h
or_right_mentions i l r (Expr-F.Feature k) h = sym (mentions_Or i l r) ∙ h
or_right_mentions i l r (Expr-F.Not inner) h = sym (mentions_Or i l r) ∙ h
or_right_mentions i l r (Expr-F.And a b) h = sym (mentions_Or i l r) ∙ h
or_right_mentions i l r (Expr-F.Or a b) h = sym (mentions_Or i l r) ∙ h

or_left_mentions : (i : ℕ) (l r : Expr) (x : Expr-F Expr) → mentions i (or_left l r x) ≡ true → (mentions i l || mentions i r) ≡ true
or_left_mentions i l r Expr-F.True h = never_true i _ h
or_left_mentions i l r Expr-F.False h = or_end _ _ h
or_left_mentions i l r (Expr-F.Feature k) h = or_right_mentions i l r (out-Expr r) h
or_left_mentions i l r (Expr-F.Not inner) h = or_right_mentions i l r (out-Expr r) h
or_left_mentions i l r (Expr-F.And a b) h = or_right_mentions i l r (out-Expr r) h
or_left_mentions i l r (Expr-F.Or a b) h = or_right_mentions i l r (out-Expr r) h

pub or_mentions : (i : ℕ) (l r : Expr) → mentions i (or_of l r) ≡ true → (mentions i l || mentions i r) ≡ true
or_mentions i l r h = or_left_mentions i l r (out-Expr l) h

not_step_mentions : (i : ℕ) (l : Expr) (x : Expr-F Expr) → mentions i (not_step l x) ≡ true → mentions i l ≡ true
not_step_mentions i l Expr-F.True h = never i _ h
not_step_mentions i l Expr-F.False h = never_true i _ h
not_step_mentions i l (Expr-F.Feature k) h = sym (mentions_Not i l) ∙ h
not_step_mentions i l (Expr-F.Not inner) h = sym (mentions_Not i l) ∙ h
not_step_mentions i l (Expr-F.And a b) h = sym (mentions_Not i l) ∙ h
not_step_mentions i l (Expr-F.Or a b) h = sym (mentions_Not i l) ∙ h

pub not_mentions : (i : ℕ) (l : Expr) → mentions i (not_of l) ≡ true → mentions i l ≡ true
not_mentions i l h = not_step_mentions i l (out-Expr l) h
