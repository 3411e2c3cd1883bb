-- What each node of an expression says of its parts.
use Rattle.std.proofs.Common.{◌≡◌, ℕ, ◌+◌, ◌<◌, true, false, not, ◌&&◌, ◌||◌, List, rules}
use Rattle.feature_expr.specs.declared.expr.Expr.{Expr, size-Expr}
use Rattle.feature_expr.specs.declared.expr.Expr.TheVariants.{rolls-And, rolls-Not, rolls-Or}
use Rattle.feature_expr.specs.declared.expr.Expr as e
use Rattle.feature_expr.specs.Config.{has_feature}
use Rattle.feature_expr.specs.Expressions.{mentions, weight_of}
use Rattle.feature_expr.specs.Satisfaction.{satisfies}

pub satisfies-True : (c : List ℕ) → satisfies c e.True ≡ true
satisfies-True c = search (rules, e.the_lemmas)

pub satisfies-False : (c : List ℕ) → satisfies c e.False ≡ false
satisfies-False c = search (rules, e.the_lemmas)

pub satisfies-Feature : (c : List ℕ) (i : ℕ) → satisfies c (e.Feature i) ≡ has_feature c i
satisfies-Feature c i = search (rules, e.the_lemmas)

pub satisfies-Not : (c : List ℕ) (x : Expr) → satisfies c (e.Not x) ≡ not (satisfies c x)
satisfies-Not c x = search (rules, e.the_lemmas)

pub satisfies-And : (c : List ℕ) (l r : Expr) → satisfies c (e.And l r) ≡ (satisfies c l && satisfies c r)
satisfies-And c l r = search (rules, e.the_lemmas)

pub satisfies-Or : (c : List ℕ) (l r : Expr) → satisfies c (e.Or l r) ≡ (satisfies c l || satisfies c r)
satisfies-Or c l r = search (rules, e.the_lemmas)

pub mentions-True : (i : ℕ) → mentions i e.True ≡ false
mentions-True i = search (rules, e.the_lemmas)

pub mentions-False : (i : ℕ) → mentions i e.False ≡ false
mentions-False i = search (rules, e.the_lemmas)

pub mentions-Not : (i : ℕ) (x : Expr) → mentions i (e.Not x) ≡ mentions i x
mentions-Not i x = search (rules, e.the_lemmas)

pub mentions-And : (i : ℕ) (l r : Expr) → mentions i (e.And l r) ≡ (mentions i l || mentions i r)
mentions-And i l r = search (rules, e.the_lemmas)

pub mentions-Or : (i : ℕ) (l r : Expr) → mentions i (e.Or l r) ≡ (mentions i l || mentions i r)
mentions-Or i l r = search (rules, e.the_lemmas)

pub weighs-True : weight_of e.True ≡ 1
weighs-True = search (rules, e.the_lemmas)

pub weighs-False : weight_of e.False ≡ 1
weighs-False = search (rules, e.the_lemmas)

pub weighs-Not : (x : Expr) → weight_of (e.Not x) ≡ 1 + weight_of x
weighs-Not x = search (rules, e.the_lemmas)

pub weighs-And : (l r : Expr) → weight_of (e.And l r) ≡ 1 + weight_of l + weight_of r
weighs-And l r = search (rules, e.the_lemmas)

pub weighs-Or : (l r : Expr) → weight_of (e.Or l r) ≡ 1 + weight_of l + weight_of r
weighs-Or l r = search (rules, e.the_lemmas)

-- the parts are smaller
pub size-Not : (x : Expr) → size-Expr x < size-Expr (e.Not x)
size-Not x = search (rules, e.the_lemmas, rolls-Not x)

pub size-And : (l r : Expr) → (size-Expr l < size-Expr (e.And l r)) × (size-Expr r < size-Expr (e.And l r))
size-And l r = search (rules, e.the_lemmas, rolls-And l r)

pub size-Or : (l r : Expr) → (size-Expr l < size-Expr (e.Or l r)) × (size-Expr r < size-Expr (e.Or l r))
size-Or l r = search (rules, e.the_lemmas, rolls-Or l r)
