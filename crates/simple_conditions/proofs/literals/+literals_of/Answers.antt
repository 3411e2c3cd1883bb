use Rattle.std.proofs.Common.{◌≡◌, ◌≤◌, ℕ, Bool, true, false, not, ◌&&◌, ◌||◌, List, refl, sym, ◌∙◌, ap, arith}
use Rattle.feature_expr.specs.Satisfaction.{satisfies}
use Rattle.feature_expr.specs.declared.expr.Expr.{Expr, size-Expr}
use Rattle.feature_expr.specs.declared.expr.Expr as e
use Rattle.simple_conditions.proofs.NodeLaws.{satisfies-Feature, satisfies-Not, satisfies-And, satisfies-Or, size-Not, size-And, size-Or}
use Rattle.simple_conditions.proofs.literals.+literals_of.Goals as goal

turned : (b v : Bool) → not b ≡ v → b ≡ not v
turned true v h = ap not h
turned false v h = ap not h

both_true : (a b : Bool) → (a && b) ≡ true → (a ≡ true) × (b ≡ true)
both_true true b h = (refl, h)
both_true false b h = absurd (cc h)

both_false : (a b : Bool) → (a || b) ≡ false → (a ≡ false) × (b ≡ false)
both_false true b h = absurd (cc h)
both_false false b h = (refl, h)

of_not : (k : List ℕ) (at x : Expr) (value : Bool) → at ≡ e.Not x → satisfies k at ≡ value → satisfies k x ≡ not value
of_not k at x value is h = turned (satisfies k x) value (sym (satisfies-Not k x) ∙ ap (satisfies k) (sym is) ∙ h)

of_and : (k : List ℕ) (at l r : Expr) (value : Bool) → at ≡ e.And l r → value ≡ true → satisfies k at ≡ value → (satisfies k l ≡ value) × (satisfies k r ≡ value)
of_and k at l r value is holds h = let both = both_true (satisfies k l) (satisfies k r) (sym (satisfies-And k l r) ∙ ap (satisfies k) (sym is) ∙ h ∙ holds) in (both.0 ∙ sym holds, both.1 ∙ sym holds)

of_or : (k : List ℕ) (at l r : Expr) (value : Bool) → at ≡ e.Or l r → value ≡ false → satisfies k at ≡ value → (satisfies k l ≡ value) × (satisfies k r ≡ value)
of_or k at l r value is fails h = let both = both_false (satisfies k l) (satisfies k r) (sym (satisfies-Or k l r) ∙ ap (satisfies k) (sym is) ∙ h ∙ fails) in (both.0 ∙ sym fails, both.1 ∙ sym fails)

not_smaller : (n : ℕ) (at x : Expr) → at ≡ e.Not x → size-Expr at ≤ n → size-Expr x ≤ n
not_smaller n at x is h = let s = size-Not x in let h' = rw is at h in omega (arith, s, h')

and_smaller : (n : ℕ) (at l r : Expr) → at ≡ e.And l r → size-Expr at ≤ n → size-Expr l ≤ n
and_smaller n at l r is h = let s = size-And l r in let h' = rw is at h in omega (arith, s, h')

or_smaller : (n : ℕ) (at l r : Expr) → at ≡ e.Or l r → size-Expr at ≤ n → size-Expr l ≤ n
or_smaller n at l r is h = let s = size-Or l r in let h' = rw is at h in omega (arith, s, h')

pub returns-in-Feature : goal.returns-in-Feature
returns-in-Feature t c = λ k has is.
    let here = c.loop-at.invariant.left k is in
    c.with.ensures k (c.loop-at.invariant.so_far k has is) (sym (satisfies-Feature k c.in-Feature.feature) ∙ ap (satisfies k) (sym c.in-Feature.is) ∙ here)

pub loop-at-preserved-in-Not : goal.loop-at-preserved-in-Not
loop-at-preserved-in-Not t c = record {
  so_far = c.loop-at.invariant.so_far;
  left = λ k is. of_not k c.loop-at.at.now c.get-at.result.now c.loop-at.value (cc) (c.loop-at.invariant.left k is);
  smaller = not_smaller _ c.loop-at.at.now c.get-at.result.now (cc) c.loop-at.invariant.smaller;
}

pub loop-at-preserved-in-And : goal.loop-at-preserved-in-And
loop-at-preserved-in-And t c =
    let sides = λ (k : List ℕ) (is : satisfies k c.args.expr.now ≡ c.args.value). of_and k c.loop-at.at.now c.get-at-in-And.result.now c.get.result.now c.loop-at.value (cc) c.if-not-value.false (c.loop-at.invariant.left k is) in record {
      so_far = λ k has is. c.literals_of-literals.ensures k (c.loop-at.invariant.so_far k has is) (sides k is).1;
      left = λ k is. (sides k is).0;
      smaller = and_smaller _ c.loop-at.at.now c.get-at-in-And.result.now c.get.result.now (cc) c.loop-at.invariant.smaller;
    }

pub loop-at-preserved : goal.loop-at-preserved
loop-at-preserved t c =
    let sides = λ (k : List ℕ) (is : satisfies k c.args.expr.now ≡ c.args.value). of_or k c.loop-at.at.now c.get-at-in-Or.result.now c.get-in-Or.result.now c.loop-at.value (cc) c.if-value.false (c.loop-at.invariant.left k is) in record {
      so_far = λ k has is. c.literals_of-literals-in-Or.ensures k (c.loop-at.invariant.so_far k has is) (sides k is).1;
      left = λ k is. (sides k is).0;
      smaller = or_smaller _ c.loop-at.at.now c.get-at-in-Or.result.now c.get-in-Or.result.now (cc) c.loop-at.invariant.smaller;
    }
