-- Expressions that may stand in others' places, part by part.
use Rattle.std.proofs.Common.{◌≡◌, ℕ, ◌+◌, ◌≤◌, Bool, true, false, not, ◌&&◌, ◌||◌, List, refl, sym, ◌∙◌, ap, subst, arith}
use Rattle.std.proofs.lemmas.Bool.{or_right}
use Rattle.feature_expr.specs.declared.expr.Expr.{Expr, fold-Expr, out-Expr, map-Expr}
use Rattle.feature_expr.specs.declared.expr.Expr.TheFolds.{fold_out-Expr}
use Rattle.feature_expr.specs.declared.expr.Expr.TheOpen.{Expr-F}
use Rattle.feature_expr.specs.declared.expr.Expr as e
use Rattle.feature_expr.specs.Expressions.{mentions, weight_of, weight_step}
use Rattle.feature_expr.specs.Satisfaction.{satisfies}
use Rattle.simple_conditions.specs.Known.{Fits, FitsBeside}
use Rattle.simple_conditions.specs.Simpler.{Simplifies, SimplifiesWhere, chained}
use Rattle.simple_conditions.specs.declared.literals.Literals.{Literals}
use Rattle.simple_conditions.proofs.NodeLaws.{satisfies-True, satisfies-False, satisfies-Not, satisfies-And, satisfies-Or, mentions-True, mentions-False, mentions-Not, mentions-And, mentions-Or, weighs-True, weighs-False, weighs-Not, weighs-And, weighs-Or}

-- ---- a chain, of either kind

abbrev pub linked : Bool → Bool → Bool → Bool
linked true l r = l && r
linked false l r = l || r

pub chained_holds : (all : Bool) (c : List ℕ) (l r : Expr) → satisfies c (chained all l r) ≡ linked all (satisfies c l) (satisfies c r)
chained_holds true c l r = satisfies-And c l r
chained_holds false c l r = satisfies-Or c l r

pub chained_weighs : (all : Bool) (l r : Expr) → weight_of (chained all l r) ≡ 1 + weight_of l + weight_of r
chained_weighs true l r = weighs-And l r
chained_weighs false l r = weighs-Or l r

pub chained_mentions : (all : Bool) (i : ℕ) (l r : Expr) → mentions i (chained all l r) ≡ (mentions i l || mentions i r)
chained_mentions true i l r = mentions-And i l r
chained_mentions false i l r = mentions-Or i l r

-- ---- features

either : (a b a' b' : Bool) → (a ≡ true → a' ≡ true) → (b ≡ true → b' ≡ true) → (a || b) ≡ true → (a' || b') ≡ true
either true b a' b' f g h = ap (λ x. x || b') (f refl)
either false b a' b' f g h = or_right a' b' (g h)

regrouped : (a b d : Bool) → ((a || b) || d) ≡ true → (a || (b || d)) ≡ true
regrouped true b d h = refl
regrouped false b d h = h

-- ---- links in a chain

assoc : (all a b d : Bool) → linked all (linked all a b) d ≡ linked all a (linked all b d)
assoc true true b d = refl
assoc true false b d = refl
assoc false true b d = refl
assoc false false b d = refl

pub simplifies_itself : (x : Expr) → Simplifies x x
simplifies_itself x = record { same = λ c. refl; lighter = omega arith; features = λ i h. h }

pub simplifies_then : (x y z : Expr) → Simplifies x y → Simplifies y z → Simplifies x z
simplifies_then x y z f g = record {
  same = λ c. g.same c ∙ f.same c;
  lighter = let a = f.lighter in let b = g.lighter in omega (arith, a, b);
  features = λ i h. f.features i (g.features i h);
}

-- the left side with a chain's first links, and its last link
pub spread_links : (all : Bool) (left first last front whole : Expr) → Simplifies (chained all left first) front → Simplifies (chained all front last) whole → Simplifies (chained all left (chained all first last)) whole
spread_links all left first last front whole f g = record {
  same = λ c.
      g.same c ∙ chained_holds all c front last
      ∙ ap (λ b. linked all b (satisfies c last)) (f.same c ∙ chained_holds all c left first)
      ∙ assoc all (satisfies c left) (satisfies c first) (satisfies c last)
      ∙ sym (chained_holds all c left (chained all first last) ∙ ap (linked all (satisfies c left)) (chained_holds all c first last));
  lighter =
      let a = f.lighter in
      let b = g.lighter in
      let wa = chained_weighs all left first in
      let wb = chained_weighs all front last in
      let wc = chained_weighs all left (chained all first last) in
      let wd = chained_weighs all first last in
      omega (arith, a, b, wa, wb, wc, wd);
  features = λ i h.
      let links = sym (chained_mentions all i front last) ∙ g.features i h in
      let front_links = λ (m : mentions i front ≡ true). sym (chained_mentions all i left first) ∙ f.features i m in
      let three = either (mentions i front) (mentions i last) (mentions i left || mentions i first) (mentions i last) front_links (λ m. m) links in
      chained_mentions all i left (chained all first last) ∙ ap (λ b. mentions i left || b) (chained_mentions all i first last) ∙ regrouped (mentions i left) (mentions i first) (mentions i last) three;
}

-- ---- what a connective without constants gives

pub of_sides : (all : Bool) (l r it : Expr) → ((c : List ℕ) → satisfies c it ≡ linked all (satisfies c l) (satisfies c r)) → weight_of it ≤ weight_of l + weight_of r + 1 → ((i : ℕ) → mentions i it ≡ true → (mentions i l || mentions i r) ≡ true) → Simplifies (chained all l r) it
of_sides all l r it holds weighs known = record {
  same = λ c. holds c ∙ sym (chained_holds all c l r);
  lighter = let w = chained_weighs all l r in omega (arith, w, weighs);
  features = λ i h. chained_mentions all i l r ∙ known i h;
}

pub of_negation : (x it : Expr) → ((c : List ℕ) → satisfies c it ≡ not (satisfies c x)) → weight_of it ≤ weight_of x + 1 → ((i : ℕ) → mentions i it ≡ true → mentions i x ≡ true) → Simplifies (e.Not x) it
of_negation x it holds weighs known = record {
  same = λ c. holds c ∙ sym (satisfies-Not c x);
  lighter = let w = weighs-Not x in omega (arith, w, weighs);
  features = λ i h. mentions-Not i x ∙ known i h;
}

not_not : (b : Bool) → b ≡ not (not b)
not_not true = refl
not_not false = refl

pub twice_negated : (x it : Expr) → it ≡ x → Simplifies (e.Not (e.Not x)) it
twice_negated x it is = subst (Simplifies (e.Not (e.Not x))) (sym is) (record {
  same = λ c. not_not (satisfies c x) ∙ sym (satisfies-Not c (e.Not x) ∙ ap not (satisfies-Not c x));
  lighter = let a = weighs-Not x in let b = weighs-Not (e.Not x) in omega (arith, a, b);
  features = λ i h. mentions-Not i (e.Not x) ∙ mentions-Not i x ∙ h;
})

-- ---- where something is known

weighs_some : (x : Expr) → 1 ≤ weight_of x
weighs_some x = rw (fold_out-Expr ℕ weight_step x) (node_weighs (map-Expr Expr ℕ (fold-Expr ℕ weight_step) (out-Expr x))) where
  node_weighs : (x : Expr-F ℕ) → 1 ≤ weight_step x
  node_weighs Expr-F.True = omega arith
  node_weighs Expr-F.False = omega arith
  node_weighs (Expr-F.Feature i) = omega arith
  node_weighs (Expr-F.Not inner) = omega arith
  node_weighs (Expr-F.And a b) = omega arith
  node_weighs (Expr-F.Or a b) = omega arith

module _ (Known : List ℕ → Type 0) where
  pub itself_in : (x it : Expr) → it ≡ x → SimplifiesWhere Known x it
  itself_in x it is = subst (SimplifiesWhere Known x) (sym is) (record { same = λ c known. refl; lighter = omega arith; features = λ i h. h })

  pub always_in : (x : Expr) → ((c : List ℕ) → Known c → satisfies c x ≡ true) → SimplifiesWhere Known x e.True
  always_in x holds = record {
    same = λ c known. satisfies-True c ∙ sym (holds c known);
    lighter = let w = weighs-True in let some = weighs_some x in omega (arith, w, some);
    features = λ i h. let no = mentions-True i in absurd (cc (h, no));
  }

  pub never_in : (x : Expr) → ((c : List ℕ) → Known c → satisfies c x ≡ false) → SimplifiesWhere Known x e.False
  never_in x fails = record {
    same = λ c known. satisfies-False c ∙ sym (fails c known);
    lighter = let w = weighs-False in let some = weighs_some x in omega (arith, w, some);
    features = λ i h. let no = mentions-False i in absurd (cc (h, no));
  }

  pub negated_in : (whole x inner it : Expr) → whole ≡ e.Not x → SimplifiesWhere Known x inner → Simplifies (e.Not inner) it → SimplifiesWhere Known whole it
  negated_in whole x inner it is f g = subst (λ (w : Expr). SimplifiesWhere Known w it) (sym is) (record {
    same = λ c known. g.same c ∙ satisfies-Not c inner ∙ ap not (f.same c known) ∙ sym (satisfies-Not c x);
    lighter = let a = f.lighter in let b = g.lighter in let wa = weighs-Not inner in let wb = weighs-Not x in omega (arith, a, b, wa, wb);
    features = λ i h. mentions-Not i x ∙ f.features i (sym (mentions-Not i inner) ∙ g.features i h);
  })

  -- where less is known, by which this is known
  pub known_in : (Less : List ℕ → Type 0) (x it : Expr) → ((c : List ℕ) → Less c → Known c) → SimplifiesWhere Known x it → SimplifiesWhere Less x it
  known_in Less x it more f = record { same = λ c known. f.same c (more c known); lighter = f.lighter; features = f.features }

-- ---- two sides, the second where the first has the value at which it decides nothing

second_right : (all l r r' : Bool) → (l ≡ all → r' ≡ r) → linked all l r' ≡ linked all l r
second_right true true r r' same = same refl
second_right true false r r' same = refl
second_right false true r r' same = refl
second_right false false r r' same = same refl

second_left : (all l l' r : Bool) → (r ≡ all → l' ≡ l) → linked all l' r ≡ linked all l r
second_left true l l' true same = ap (λ b. b && true) (same refl)
second_left true true true false same = refl
second_left true true false false same = refl
second_left true false true false same = refl
second_left true false false false same = refl
second_left false l l' false same = ap (λ b. b || false) (same refl)
second_left false true true true same = refl
second_left false true false true same = refl
second_left false false true true same = refl
second_left false false false true same = refl

module _ (literals : Literals) (holds fails : Expr) (all : Bool) (l r l' r' it : Expr) where
  lighter_sides : Simplifies (chained all l' r') it → weight_of l' ≤ weight_of l → weight_of r' ≤ weight_of r → weight_of it ≤ weight_of (chained all l r)
  lighter_sides g left right =
      let b = g.lighter in
      let wa = chained_weighs all l r in
      let wb = chained_weighs all l' r' in
      omega (arith, left, right, b, wa, wb)

  features_of_sides : Simplifies (chained all l' r') it → ((i : ℕ) → mentions i l' ≡ true → mentions i l ≡ true) → ((i : ℕ) → mentions i r' ≡ true → mentions i r ≡ true) → (i : ℕ) → mentions i it ≡ true → mentions i (chained all l r) ≡ true
  features_of_sides g left right i h =
      chained_mentions all i l r ∙ either (mentions i l') (mentions i r') (mentions i l) (mentions i r) (left i) (right i) (sym (chained_mentions all i l' r') ∙ g.features i h)

  pub from_left : SimplifiesWhere (Fits literals holds fails) l l' → SimplifiesWhere (FitsBeside literals holds fails all l') r r' → Simplifies (chained all l' r') it → SimplifiesWhere (Fits literals holds fails) (chained all l r) it
  from_left left right g = record {
    same = λ c known.
        g.same c ∙ chained_holds all c l' r'
        ∙ second_right all (satisfies c l') (satisfies c r) (satisfies c r') (λ is. right.same c (record { fits = known; beside = is }))
        ∙ ap (λ b. linked all b (satisfies c r)) (left.same c known)
        ∙ sym (chained_holds all c l r);
    lighter = lighter_sides g left.lighter right.lighter;
    features = features_of_sides g left.features right.features;
  }

  pub from_right : SimplifiesWhere (Fits literals holds fails) r r' → SimplifiesWhere (FitsBeside literals holds fails all r') l l' → Simplifies (chained all l' r') it → SimplifiesWhere (Fits literals holds fails) (chained all l r) it
  from_right right left g = record {
    same = λ c known.
        g.same c ∙ chained_holds all c l' r'
        ∙ second_left all (satisfies c l) (satisfies c l') (satisfies c r') (λ is. left.same c (record { fits = known; beside = is }))
        ∙ ap (linked all (satisfies c l)) (right.same c known)
        ∙ sym (chained_holds all c l r);
    lighter = lighter_sides g left.lighter right.lighter;
    features = features_of_sides g left.features right.features;
  }

-- nothing is known
pub nothing_known : (known : List ℕ → Type 0) (x it : Expr) → ((c : List ℕ) → known c) → SimplifiesWhere known x it → Simplifies x it
nothing_known known x it always f = record { same = λ c. f.same c (always c); lighter = f.lighter; features = f.features }
