-- A text that is no expression has one first fault.
use Rattle.std.proofs.Common.{◌≡◌, ◌≢◌, ℕ, ◌+◌, ◌<◌, ◌≤◌, Bool, true, false, nat_lt, List, Ok, Err, ap, refl, sym, arith, ◌∙◌}
use Rattle.std.proofs.lemmas.Bool.Decides.{nat_tests}
use Rattle.feature_expr.specs.declared.expr.Expr.{Expr}
use Rattle.feature_expr.specs.declared.parse.ExprRefused.{ExprRefused}
use Rattle.feature_expr.specs.declared.parse.ExprRefused.TheVariants as refused
use Rattle.feature_expr.specs.declared.parse.Fault.{Fault}
use Rattle.feature_expr.specs.declared.parse.Fault.TheVariants as fault
use Rattle.word_tokens.specs.declared.token.Token.{Token}
use Rattle.feature_expr.specs.ExprGrammar.{AreKnown, IsFirst}
use Rattle.feature_expr.specs.ExprTexts.{IsFirstFault, IsFault, IsText, Refusal, IsRefusedText, placed_at, GivesFault}
use Rattle.feature_expr.proofs.OneLaws.{one_tokens}
use Rattle.feature_expr.proofs.WholeLaws.{refused_for_memory}

above_by : (p q : ℕ) (b : Bool) → nat_lt p q ≡ b → (p < q → ⊥) → q ≤ p
above_by p q true is never = absurd (never (grind (arith, nat_tests)))
above_by p q false is never = grind (arith, nat_tests)

above : (p q : ℕ) → (p < q → ⊥) → q ≤ p
above p q never = above_by p q (nat_lt p q) refl never

same_place : (p q : ℕ) → (p < q → ⊥) → (q < p → ⊥) → p ≡ q
same_place p q never other = let low = above p q never in let high = above q p other in omega (arith, low, high)

module _ (names : List (List ℕ)) (text : List ℕ) (tokens : List Token) (most : ℕ) where
  one_place : (p q : ℕ) → IsFirstFault text tokens most p → IsFirstFault text tokens most q → p ≡ q
  one_place p q f g = same_place p q (λ h. f.never q h g.before) (λ h. g.never p h f.before)

  not_deep : (p q : ℕ) → IsFault names text tokens most (fault.Syntax p) → IsFault names text tokens most (fault.TooDeep q) → ⊥
  not_deep p q f g =
      let below = above p (q + 1) (λ h. (f (most + 1) (omega arith)).never (q + 1) h (g.1 (most + 1) (omega arith))) in
      g.0.never p (omega (arith, below)) (f most (omega arith)).before

  -- no unknown feature is viable where the fault stands at `p`, and all before are known
  not_unknown : (p q : ℕ) → IsFirstFault text tokens most p → AreKnown names text tokens 0 p → IsFault names text tokens most (fault.UnknownFeature q) → ⊥
  not_unknown p q f known g =
      let below = above p (q + 1) (λ h. f.never (q + 1) h g.0) in
      known.known q (omega arith) (omega (arith, below)) g.1 g.2

  one_fault : (f g : Fault) → IsFault names text tokens most f → IsFirst names text tokens 0 f → IsFault names text tokens most g → IsFirst names text tokens 0 g → f ≢ fault.Memory → g ≢ fault.Memory → f ≡ g
  one_fault (fault.Syntax p) (fault.Syntax q) f a g b x y = rw (one_place p q (f most (omega arith)) (g most (omega arith))) refl
  one_fault (fault.Syntax p) (fault.TooDeep q) f a g b x y = absurd (not_deep p q f g)
  one_fault (fault.Syntax p) (fault.UnknownFeature q) f a g b x y = absurd (not_unknown p q (f most (omega arith)) a.1 g)
  one_fault (fault.TooDeep p) (fault.Syntax q) f a g b x y = absurd (not_deep q p g f)
  one_fault (fault.TooDeep p) (fault.TooDeep q) f a g b x y = rw (one_place p q f.0 g.0) refl
  one_fault (fault.TooDeep p) (fault.UnknownFeature q) f a g b x y = absurd (not_unknown p q f.0 a g)
  one_fault (fault.UnknownFeature p) (fault.Syntax q) f a g b x y = absurd (not_unknown q p (g most (omega arith)) b.1 f)
  one_fault (fault.UnknownFeature p) (fault.TooDeep q) f a g b x y = absurd (not_unknown q p g.0 b f)
  one_fault (fault.UnknownFeature p) (fault.UnknownFeature q) f a g b x y = rw (same_place p q (λ h. b.known p (omega arith) h f.1 f.2) (λ h. a.known q (omega arith) h g.1 g.2)) refl
  one_fault fault.Memory g f a g' b x y = absurd (x refl)
  one_fault (fault.Syntax p) fault.Memory f a g b x y = absurd (y refl)
  one_fault (fault.TooDeep p) fault.Memory f a g b x y = absurd (y refl)
  one_fault (fault.UnknownFeature p) fault.Memory f a g b x y = absurd (y refl)

module _ (names : List (List ℕ)) (text : List ℕ) (most : ℕ) where
  -- a refusal that isn't for memory is a fault
  fault_stands : (why : ExprRefused) (tokens : List Token) (f : Fault) → why ≡ placed_at text tokens f → why ≢ refused.Memory → f ≢ fault.Memory
  fault_stands why tokens f placed other is = other (placed ∙ ap (placed_at text tokens) is)

  refusal_of : (why : ExprRefused) → IsRefusedText names text most why → why ≢ refused.Memory → Refusal names text most why
  refusal_of (refused.Syntax place) r other = r
  refusal_of (refused.UnknownFeature place) r other = r
  refusal_of (refused.TooDeep place) r other = r
  refusal_of refused.Memory r other = absurd (other refl)

  pub one_refusal : (why other : ExprRefused) → IsRefusedText names text most why → IsRefusedText names text most other → why ≢ refused.Memory → other ≢ refused.Memory → why ≡ other
  one_refusal why other r s x y =
      let p = refusal_of why r x in
      let q = refusal_of other s y in
      let same : q.tokens ≡ p.tokens = one_tokens text q.tokens p.tokens q.are_tokens p.are_tokens in
      let is : p.fault ≡ q.fault = one_fault names text p.tokens most p.fault q.fault p.is_fault p.is_first (rw same at q.is_fault) (rw same at q.is_first) (fault_stands why p.tokens p.fault p.placed x) (fault_stands other q.tokens q.fault q.placed y) in
      p.placed ∙ (rw (is, sym same) (sym q.placed))

  pub fault_found : (found : Expr) (why : ExprRefused) → IsText names text most found → IsRefusedText names text most why → why ≢ refused.Memory → GivesFault why (Ok found)
  fault_found found why t r other = other (refused_for_memory names text most found why t r)

  pub fault_refused : (found why : ExprRefused) → IsRefusedText names text most found → IsRefusedText names text most why → why ≢ refused.Memory → GivesFault why (Err found)
  fault_refused found why r s other x = one_refusal found why r s x other
