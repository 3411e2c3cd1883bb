-- `same_expr` decides whether two expressions are equal.
use Rattle.std.specs.Prelude.{◌≡◌, ℕ, ◌==◌, Bool, true, false, ◌&&◌}
use Rattle.std.proofs.Common.{refl, sym, ap, ◌∙◌, subst, arith}
use Rattle.std.specs.Bool.{Decides}
use Rattle.std.specs.Cmp.{IsEquivalence, both_ways}
use Rattle.std.proofs.lemmas.Bool.Decides.{nat_tests}
use Rattle.feature_expr.specs.declared.expr.Expr.{Expr, out-Expr, roll-Expr, map-Expr}
use Rattle.feature_expr.specs.declared.expr.Expr.TheFolds.{fold-roll-Expr, ind-Expr}
use Rattle.feature_expr.specs.declared.expr.Expr.TheOpen.{Expr-F}
use Rattle.feature_expr.specs.declared.expr.Expr.TheViews.{out-roll-Expr, roll-out-Expr}
use Rattle.feature_expr.specs.Same.{same_step, same_expr, hash_writes}

-- which expressions are the same as this one
abbrev IsDecided : Expr → Type 0
IsDecided one = (other : Expr) → Decides (same_expr one other) (one ≡ other)

abbrev Known : Type 0
Known = (one : Expr) × IsDecided one

both : (a b : Bool) (P Q R : Type 0) → Decides a P → Decides b Q → (P → Q → R) → (R → P × Q) → Decides (a && b) R
both true b P Q R p q join split = (λ h. join (p.0 refl) (q.0 h), λ r. q.1 (split r).1)
both false b P Q R p q join split = (λ h. absurd (cc h), λ r. p.1 (split r).0)

one_number : (i k : ℕ) → Decides (i == k) (◌≡◌ {A = Expr-F Expr} (Expr-F.Feature i) (Expr-F.Feature k))
one_number i k = (λ h. let same : i ≡ k = grind (arith, nat_tests) in ap Expr-F.Feature same, λ same. let equal : i ≡ k = cc same in grind (arith, nat_tests))

step_of : (node : Expr-F Expr) (other : Expr) → same_expr (roll-Expr node) other ≡ same_step (map-Expr Expr (Expr → Bool) same_expr node) (out-Expr other)
step_of node other = ap (λ (f : Expr → Bool). f other) (fold-roll-Expr (Expr → Bool) (λ x y. same_step x (out-Expr y)) node)

-- a node is another one where its parts are
node_decided : (one : Expr-F Known) (other : Expr-F Expr) → Decides (same_step (map-Expr Known (Expr → Bool) (λ x. same_expr x.0) one) other) (map-Expr Known Expr (λ x. x.0) one ≡ other)
node_decided Expr-F.True Expr-F.True = (λ h. refl, λ h. refl)
node_decided Expr-F.True Expr-F.False = (λ h. absurd (cc h), λ h. absurd (cc h))
node_decided Expr-F.True (Expr-F.Feature k) = (λ h. absurd (cc h), λ h. absurd (cc h))
node_decided Expr-F.True (Expr-F.Not a) = (λ h. absurd (cc h), λ h. absurd (cc h))
node_decided Expr-F.True (Expr-F.And a b) = (λ h. absurd (cc h), λ h. absurd (cc h))
node_decided Expr-F.True (Expr-F.Or a b) = (λ h. absurd (cc h), λ h. absurd (cc h))
node_decided Expr-F.False Expr-F.True = (λ h. absurd (cc h), λ h. absurd (cc h))
node_decided Expr-F.False Expr-F.False = (λ h. refl, λ h. refl)
node_decided Expr-F.False (Expr-F.Feature k) = (λ h. absurd (cc h), λ h. absurd (cc h))
node_decided Expr-F.False (Expr-F.Not a) = (λ h. absurd (cc h), λ h. absurd (cc h))
node_decided Expr-F.False (Expr-F.And a b) = (λ h. absurd (cc h), λ h. absurd (cc h))
node_decided Expr-F.False (Expr-F.Or a b) = (λ h. absurd (cc h), λ h. absurd (cc h))
node_decided (Expr-F.Feature i) Expr-F.True = (λ h. absurd (cc h), λ h. absurd (cc h))
node_decided (Expr-F.Feature i) Expr-F.False = (λ h. absurd (cc h), λ h. absurd (cc h))
node_decided (Expr-F.Feature i) (Expr-F.Feature k) = one_number i k
node_decided (Expr-F.Feature i) (Expr-F.Not a) = (λ h. absurd (cc h), λ h. absurd (cc h))
node_decided (Expr-F.Feature i) (Expr-F.And a b) = (λ h. absurd (cc h), λ h. absurd (cc h))
node_decided (Expr-F.Feature i) (Expr-F.Or a b) = (λ h. absurd (cc h), λ h. absurd (cc h))
node_decided (Expr-F.Not x) Expr-F.True = (λ h. absurd (cc h), λ h. absurd (cc h))
node_decided (Expr-F.Not x) Expr-F.False = (λ h. absurd (cc h), λ h. absurd (cc h))
node_decided (Expr-F.Not x) (Expr-F.Feature k) = (λ h. absurd (cc h), λ h. absurd (cc h))
node_decided (Expr-F.Not x) (Expr-F.Not a) = (λ h. ap Expr-F.Not ((x.1 a).0 h), λ same. (x.1 a).1 (cc same))
node_decided (Expr-F.Not x) (Expr-F.And a b) = (λ h. absurd (cc h), λ h. absurd (cc h))
node_decided (Expr-F.Not x) (Expr-F.Or a b) = (λ h. absurd (cc h), λ h. absurd (cc h))
node_decided (Expr-F.And x y) Expr-F.True = (λ h. absurd (cc h), λ h. absurd (cc h))
node_decided (Expr-F.And x y) Expr-F.False = (λ h. absurd (cc h), λ h. absurd (cc h))
node_decided (Expr-F.And x y) (Expr-F.Feature k) = (λ h. absurd (cc h), λ h. absurd (cc h))
node_decided (Expr-F.And x y) (Expr-F.Not a) = (λ h. absurd (cc h), λ h. absurd (cc h))
node_decided (Expr-F.And x y) (Expr-F.And a b) = both (same_expr x.0 a) (same_expr y.0 b) (x.0 ≡ a) (y.0 ≡ b) _ (x.1 a) (y.1 b) (λ p q. rw (p, q) refl) (λ same. (cc same, cc same))
node_decided (Expr-F.And x y) (Expr-F.Or a b) = (λ h. absurd (cc h), λ h. absurd (cc h))
node_decided (Expr-F.Or x y) Expr-F.True = (λ h. absurd (cc h), λ h. absurd (cc h))
node_decided (Expr-F.Or x y) Expr-F.False = (λ h. absurd (cc h), λ h. absurd (cc h))
node_decided (Expr-F.Or x y) (Expr-F.Feature k) = (λ h. absurd (cc h), λ h. absurd (cc h))
node_decided (Expr-F.Or x y) (Expr-F.Not a) = (λ h. absurd (cc h), λ h. absurd (cc h))
node_decided (Expr-F.Or x y) (Expr-F.And a b) = (λ h. absurd (cc h), λ h. absurd (cc h))
node_decided (Expr-F.Or x y) (Expr-F.Or a b) = both (same_expr x.0 a) (same_expr y.0 b) (x.0 ≡ a) (y.0 ≡ b) _ (x.1 a) (y.1 b) (λ p q. rw (p, q) refl) (λ same. (cc same, cc same))

step_is : (one : Expr-F Known) (other : Expr) → same_expr (roll-Expr (map-Expr Known Expr (λ x. x.0) one)) other ≡ same_step (map-Expr Known (Expr → Bool) (λ x. same_expr x.0) one) (out-Expr other)
step_is Expr-F.True other = step_of Expr-F.True other
step_is Expr-F.False other = step_of Expr-F.False other
step_is (Expr-F.Feature i) other = step_of (Expr-F.Feature i) other
step_is (Expr-F.Not x) other = step_of (Expr-F.Not x.0) other
step_is (Expr-F.And x y) other = step_of (Expr-F.And x.0 y.0) other
step_is (Expr-F.Or x y) other = step_of (Expr-F.Or x.0 y.0) other

rolled : (one : Expr-F Known) → IsDecided (roll-Expr (map-Expr Known Expr (λ x. x.0) one))
rolled one other =
    let node = map-Expr Known Expr (λ x. x.0) one in
    let d = node_decided one (out-Expr other) in
    (λ h. ap roll-Expr (d.0 (sym (step_is one other) ∙ h)) ∙ roll-out-Expr other, λ same. step_is one other ∙ d.1 (sym (out-roll-Expr node) ∙ ap out-Expr same))

pub same_decides : (one other : Expr) → Decides (same_expr one other) (one ≡ other)
same_decides = ind-Expr IsDecided (λ x y is. subst (λ z. IsDecided (roll-Expr z)) is (rolled y))

pub same_yes : (one other : Expr) → same_expr one other ≡ true → one ≡ other
same_yes one other = (same_decides one other).0

-- a test that is the other truth value where the statement holds
denied : (b : Bool) (P : Type 0) → Decides b P → b ≡ false → P → ⊥
denied b P d is holds = let h = d.1 holds in cc (is, h)

pub same_no : (one other : Expr) → same_expr one other ≡ false → one ≡ other → ⊥
same_no one other = denied (same_expr one other) (one ≡ other) (same_decides one other)

refuted : (b : Bool) (P : Type 0) → Decides b P → (P → ⊥) → false ≡ b
refuted true b d other = absurd (other (d.0 refl))
refuted false b d other = refl

-- expressions that aren't equal aren't the same
pub other_expr : (one other : Expr) → (one ≡ other → ⊥) → false ≡ same_expr one other
other_expr one other = refuted (same_expr one other) (one ≡ other) (same_decides one other)

pub same_equivalence : IsEquivalence same_expr
same_equivalence = record {
  refl = λ x. (same_decides x x).1 refl;
  symm = λ x y. both_ways (same_expr x y) (same_expr y x) (λ h. (same_decides y x).1 (sym ((same_decides x y).0 h))) (λ h. (same_decides x y).1 (sym ((same_decides y x).0 h)));
  congr = λ x y z h. ap (λ (w : Expr). same_expr w z) ((same_decides x y).0 h);
}

pub same_writes : (one other : Expr) → same_expr one other ≡ true → hash_writes one ≡ hash_writes other
same_writes one other h = ap hash_writes ((same_decides one other).0 h)
