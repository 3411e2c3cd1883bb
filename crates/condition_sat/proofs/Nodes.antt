-- What each node of an expression says of its parts.
use Rattle.std.proofs.Common.{◌≡◌, ℕ, ◌==◌, true, false, not, ◌&&◌, ◌||◌, List, rules}
use Rattle.feature_expr.specs.declared.expr.Expr.{Expr}
use Rattle.feature_expr.specs.declared.expr.Expr as e
use Rattle.feature_expr.specs.Config.{has_feature}
use Rattle.feature_expr.specs.Satisfaction.{satisfies}
use Rattle.feature_expr.specs.Expressions.{mentions}

pub satisfies-Feature : (c : List ℕ) (i : ℕ) → satisfies c (e.Feature i) ≡ has_feature c i
satisfies-Feature c i = search (rules, e.the_lemmas)

pub satisfies-True : (c : List ℕ) → satisfies c e.True ≡ true
satisfies-True c = search (rules, e.the_lemmas)

pub satisfies-False : (c : List ℕ) → satisfies c e.False ≡ false
satisfies-False c = search (rules, e.the_lemmas)

pub satisfies-Not : (c : List ℕ) (x : Expr) → satisfies c (e.Not x) ≡ not (satisfies c x)
satisfies-Not c x = search (rules, e.the_lemmas)

pub satisfies-And : (c : List ℕ) (l r : Expr) → satisfies c (e.And l r) ≡ (satisfies c l && satisfies c r)
satisfies-And c l r = search (rules, e.the_lemmas)

pub satisfies-Or : (c : List ℕ) (l r : Expr) → satisfies c (e.Or l r) ≡ (satisfies c l || satisfies c r)
satisfies-Or c l r = search (rules, e.the_lemmas)

pub mentions-Feature : (i j : ℕ) → mentions i (e.Feature j) ≡ (j == i)
mentions-Feature i j = search (rules, e.the_lemmas)

pub mentions-Not : (i : ℕ) (x : Expr) → mentions i (e.Not x) ≡ mentions i x
mentions-Not i x = search (rules, e.the_lemmas)

pub mentions-And : (i : ℕ) (l r : Expr) → mentions i (e.And l r) ≡ (mentions i l || mentions i r)
mentions-And i l r = search (rules, e.the_lemmas)

pub mentions-Or : (i : ℕ) (l r : Expr) → mentions i (e.Or l r) ≡ (mentions i l || mentions i r)
mentions-Or i l r = search (rules, e.the_lemmas)
