-- An expression that begins at a place inside a text has one end and one value, or one fault.
use Rattle.std.proofs.Common.{◌≡◌, ◌≢◌, ℕ, zero, suc, ◌+◌, ◌<◌, ◌≤◌, Bool, true, false, nat_lt, List, [], ◌∷◌, inl, inr, refl, arith}
use Rattle.std.proofs.lemmas.Bool.Decides.{nat_tests}
use Rattle.feature_expr.specs.declared.expr.Expr.{Expr}
use Rattle.feature_expr.specs.declared.parse.Fault.{Fault}
use Rattle.feature_expr.specs.declared.parse.Fault.TheVariants as fault
use Rattle.feature_expr.specs.declared.parse.Sign.{Sign}
use Rattle.feature_expr.specs.declared.parse.Sign.TheVariants as sign
use Rattle.word_tokens.specs.declared.token.Token.{Token}
use Rattle.word_tokens.specs.Grammar.{Symbol, Terminal, Nonterminal, Matches, NeverFirst, IsFree, FaultAt, Reaches}
use Rattle.word_tokens.proofs.GrammarLaws.{here, open_part, open_sign, close_sign}
use Rattle.feature_expr.specs.ExprGrammar.{Part, Disjunction, MoreOr, Conjunction, MoreAnd, Negation, Mark, Own, forms, fits, signs_of, sign_at, IsRead, IsRefused, IsFirst, Spells, one_conjunction, disjunction, one_negation, conjunction, negation, truth, falsehood, feature, brackets}
use Rattle.feature_expr.specs.ExprTexts.{alone, none_fits}
use Rattle.feature_expr.proofs.NegationLaws.{to_not, to_open, leads_true, leads_false, leads_feature}
use Rattle.feature_expr.proofs.ReadingLaws.{one_spelling}
use Rattle.feature_expr.proofs.WholeLaws.{known_spelled}

equal_by : (m k : ℕ) (a b : Bool) → nat_lt m k ≡ a → nat_lt k m ≡ b → (m < k → ⊥) → (k < m → ⊥) → m ≡ k
equal_by m k true b below above never other = absurd (never (grind (arith, nat_tests)))
equal_by m k false true below above never other = absurd (other (grind (arith, nat_tests)))
equal_by m k false false below above never other = grind (arith, nat_tests)

below_by : (p q : ℕ) (b : Bool) → nat_lt p q ≡ b → (p < q → ⊥) → q ≤ p
below_by p q true less never = absurd (never (grind (arith, nat_tests)))
below_by p q false less never = grind (arith, nat_tests)

below : (p q : ℕ) → (p < q → ⊥) → q ≤ p
below p q never = below_by p q (nat_lt p q) refl never

-- neither is below the other
equal : (m k : ℕ) → (m < k → ⊥) → (k < m → ⊥) → m ≡ k
equal m k never other = equal_by m k (nat_lt m k) (nat_lt k m) refl refl never other

module _ (names : List (List ℕ)) (text : List ℕ) (tokens : List Token) where
  abbrev Goes : ℕ → List (Symbol Part Mark) → ℕ → ℕ → Type 0
  Goes limit s at to = Matches (forms alone limit) (fits none_fits text tokens) s at to

  nothing_left : (limit at to : ℕ) → Goes limit [] at to → at ≡ to
  nothing_left limit at to (zero, m) = m
  nothing_left limit at to (suc n, m) = m

  -- what goes on behind a part goes on from its beginning, also where the part has more links
  abbrev Continues : ℕ → Part → ℕ → ℕ → Type 0
  Continues limit (Disjunction n) at end = (s : List (Symbol Part Mark)) (to : ℕ) → Goes limit (Nonterminal (MoreAnd n) ∷ Nonterminal (MoreOr n) ∷ s) end to → Goes limit (Nonterminal (Disjunction n) ∷ s) at to
  Continues limit (Conjunction n) at end = (s : List (Symbol Part Mark)) (to : ℕ) → Goes limit (Nonterminal (MoreAnd n) ∷ s) end to → Goes limit (Nonterminal (Conjunction n) ∷ s) at to
  Continues limit (Negation n) at end = (s : List (Symbol Part Mark)) (to : ℕ) → Goes limit s end to → Goes limit (Nonterminal (Negation n) ∷ s) at to
  Continues limit _ at end = Unit {0}

  no_or : (limit n : ℕ) (s : List (Symbol Part Mark)) (at to : ℕ) → Goes limit s at to → Goes limit (Nonterminal (MoreOr n) ∷ s) at to
  no_or limit n s at to m = open_part (forms alone limit) (fits none_fits text tokens) (MoreOr n) s at to (inl m)

  no_and : (limit n : ℕ) (s : List (Symbol Part Mark)) (at to : ℕ) → Goes limit s at to → Goes limit (Nonterminal (MoreAnd n) ∷ s) at to
  no_and limit n s at to m = open_part (forms alone limit) (fits none_fits text tokens) (MoreAnd n) s at to (inl m)

  next_or : (limit n : ℕ) (s : List (Symbol Part Mark)) (at to : ℕ) → sign_at text tokens at ≡ sign.Or → Goes limit (Nonterminal (Conjunction n) ∷ Nonterminal (MoreOr n) ∷ s) (at + 1) to → Goes limit (Nonterminal (MoreOr n) ∷ s) at to
  next_or limit n s at to is m = open_part (forms alone limit) (fits none_fits text tokens) (MoreOr n) s at to (inr (inl (open_sign (forms alone limit) (fits none_fits text tokens) (Own sign.Or) (Nonterminal (Conjunction n) ∷ Nonterminal (MoreOr n) ∷ s) at to is m)))

  next_and : (limit n : ℕ) (s : List (Symbol Part Mark)) (at to : ℕ) → sign_at text tokens at ≡ sign.And → Goes limit (Nonterminal (Negation n) ∷ Nonterminal (MoreAnd n) ∷ s) (at + 1) to → Goes limit (Nonterminal (MoreAnd n) ∷ s) at to
  next_and limit n s at to is m = open_part (forms alone limit) (fits none_fits text tokens) (MoreAnd n) s at to (inr (inl (open_sign (forms alone limit) (fits none_fits text tokens) (Own sign.And) (Nonterminal (Negation n) ∷ Nonterminal (MoreAnd n) ∷ s) at to is m)))

  -- it does so under each limit from some one on
  abbrev Deep : Part → ℕ → ℕ → Type 0
  Deep part at end = (most : ℕ) × ((limit : ℕ) → most ≤ limit → Continues limit part at end)

  continues : (part : Part) (at : ℕ) (expr : Expr) (end : ℕ) → Spells names text tokens part at expr end → Deep part at end
  continues p a x z (one_conjunction n at end expr d) =
      let c = continues (Conjunction n) at expr end d in
      (c.0, λ limit h s to m. open_part (forms alone limit) (fits none_fits text tokens) (Disjunction n) s at to (inl (c.1 limit h (Nonterminal (MoreOr n) ∷ s) to m)))
  continues p a x z (disjunction n at middle end left right d is d') =
      let c = continues (Disjunction n) at left middle d in
      let c' = continues (Conjunction n) (middle + 1) right end d' in
      (c.0 + c'.0, λ limit h s to m. c.1 limit (omega (arith, h)) s to (no_and limit n (Nonterminal (MoreOr n) ∷ s) middle to (next_or limit n s middle to is (c'.1 limit (omega (arith, h)) (Nonterminal (MoreOr n) ∷ s) to m))))
  continues p a x z (one_negation n at end expr d) =
      let c = continues (Negation n) at expr end d in
      (c.0, λ limit h s to m. open_part (forms alone limit) (fits none_fits text tokens) (Conjunction n) s at to (inl (c.1 limit h (Nonterminal (MoreAnd n) ∷ s) to m)))
  continues p a x z (conjunction n at middle end left right d is d') =
      let c = continues (Conjunction n) at left middle d in
      let c' = continues (Negation n) (middle + 1) right end d' in
      (c.0 + c'.0, λ limit h s to m. c.1 limit (omega (arith, h)) s to (next_and limit n s middle to is (c'.1 limit (omega (arith, h)) (Nonterminal (MoreAnd n) ∷ s) to m)))
  continues p a x z (negation n at end inner is d) =
      let c = continues (Negation (n + 1)) (at + 1) inner end d in
      (c.0 + n + 1, λ limit h s to m. (to_not alone none_fits text tokens limit n at (omega (arith, h)) is).back s to (c.1 limit (omega (arith, h)) s to m))
  continues p a x z (truth n at is) = (0, λ limit h. (leads_true alone none_fits text tokens limit n at is).back)
  continues p a x z (falsehood n at is) = (0, λ limit h. (leads_false alone none_fits text tokens limit n at is).back)
  continues p a x z (feature n at i is known) = (0, λ limit h. (leads_feature alone none_fits text tokens limit n at is).back)
  continues p a x z (brackets n at end expr is d close) =
      let c = continues (Disjunction (n + 1)) (at + 1) expr end d in
      (c.0 + n + 1, λ limit h s to m. (to_open alone none_fits text tokens limit n at (omega (arith, h)) is).back s to (c.1 limit (omega (arith, h)) (Terminal (Own sign.Close) ∷ s) to (no_and limit (n + 1) (Nonterminal (MoreOr (n + 1)) ∷ Terminal (Own sign.Close) ∷ s) end to (no_or limit (n + 1) (Terminal (Own sign.Close) ∷ s) end to (open_sign (forms alone limit) (fits none_fits text tokens) (Own sign.Close) s end to close m)))))

  none_free : (limit n : ℕ) → IsFree (forms alone limit) (fits none_fits text tokens) (signs_of (Disjunction n)) []
  none_free limit n = (λ at to fit order m. let same = nothing_left limit at to m in omega (arith, same, order), (λ at to fit order m. let same = nothing_left limit at to m in omega (arith, same, order), tt))

  -- it can't go on where it was read to
  ended : (most n at end limit to : ℕ) → IsRead text tokens most (Disjunction n) at end → most ≤ limit → end < to → Goes limit (Nonterminal (Disjunction n) ∷ []) at to → ⊥
  ended most n at end limit to read high later m = let same = nothing_left limit end to ((read alone none_fits limit high).on [] to (none_free limit n) later m) in omega (arith, same, later)

  goes_to : (most n at end limit : ℕ) → IsRead text tokens most (Disjunction n) at end → most ≤ limit → Goes limit (Nonterminal (Disjunction n) ∷ []) at end
  goes_to most n at end limit read high = (read alone none_fits limit high).back [] end (here (forms alone limit) (fits none_fits text tokens) [] end)

  pub no_or_behind : (most n at end : ℕ) (expr : Expr) → IsRead text tokens most (Disjunction n) at end → Spells names text tokens (Disjunction n) at expr end → sign_at text tokens end ≢ sign.Or
  no_or_behind most n at end expr read d is =
      let c = continues (Disjunction n) at expr end d in
      let limit = most + c.0 in
      ended most n at end limit (end + 1) read (omega arith) (omega arith) (c.1 limit (omega arith) [] (end + 1) (no_and limit n (Nonterminal (MoreOr n) ∷ []) end (end + 1) (next_or limit n [] end (end + 1) is (here (forms alone limit) (fits none_fits text tokens) (Nonterminal (Conjunction n) ∷ Nonterminal (MoreOr n) ∷ []) (end + 1)))))

  pub no_and_behind : (most n at end : ℕ) (expr : Expr) → IsRead text tokens most (Disjunction n) at end → Spells names text tokens (Disjunction n) at expr end → sign_at text tokens end ≢ sign.And
  no_and_behind most n at end expr read d is =
      let c = continues (Disjunction n) at expr end d in
      let limit = most + c.0 in
      ended most n at end limit (end + 1) read (omega arith) (omega arith) (c.1 limit (omega arith) [] (end + 1) (next_and limit n (Nonterminal (MoreOr n) ∷ []) end (end + 1) is (here (forms alone limit) (fits none_fits text tokens) (Nonterminal (Negation n) ∷ Nonterminal (MoreAnd n) ∷ Nonterminal (MoreOr n) ∷ []) (end + 1))))

  pub one_part : (most n at : ℕ) (x : Expr) (m : ℕ) (y : Expr) (k : ℕ) → IsRead text tokens most (Disjunction n) at m → Spells names text tokens (Disjunction n) at x m → IsRead text tokens most (Disjunction n) at k → Spells names text tokens (Disjunction n) at y k → (x ≡ y) × (m ≡ k)
  one_part most n at x m y k r d r' d' =
      one_spelling names text tokens n at x m y k d d' (no_or_behind most n at m x r d) (no_and_behind most n at m x r d) (no_or_behind most n at k y r' d') (no_and_behind most n at k y r' d')

  -- the sign behind an expression is no link
  link_first : (limit end : ℕ) (link : Sign) → sign_at text tokens end ≢ link → NeverFirst (forms alone limit) (fits none_fits text tokens) (Own link) (Terminal (Own (sign_at text tokens end)) ∷ [])
  link_first limit end link other at to fit order m = let c = close_sign (forms alone limit) (fits none_fits text tokens) (Own (sign_at text tokens end)) [] at to order m in other (cc (c.0, fit))

  abbrev Fault_at : ℕ → ℕ → ℕ → ℕ → Type 0
  Fault_at limit n at place = FaultAt (forms alone limit) (fits none_fits text tokens) (signs_of (Disjunction n)) (Disjunction n) at place

  behind_by : (most n at end : ℕ) (expr : Expr) (place : ℕ) → IsRead text tokens most (Disjunction n) at end → Spells names text tokens (Disjunction n) at expr end → Fault_at most n at place → (b : Bool) → nat_lt end place ≡ b → ⊥
  behind_by most n at end expr place r d f true later = ended most n at end most place r (omega arith) (grind (arith, nat_tests)) (f.reaches.viable [])
  behind_by most n at end expr place r d f false later =
      let s = Terminal (Own (sign_at text tokens end)) ∷ [] in
      let on : Goes most s end (end + 1) = open_sign (forms alone most) (fits none_fits text tokens) (Own (sign_at text tokens end)) [] end (end + 1) refl (here (forms alone most) (fits none_fits text tokens) [] (end + 1)) in
      f.never s (end + 1) (link_first most end sign.Or (no_or_behind most n at end expr r d), (link_first most end sign.And (no_and_behind most n at end expr r d), tt)) (grind (arith, nat_tests)) ((r alone none_fits most (omega arith)).back s (end + 1) on)

  no_fault_at : (most n at end : ℕ) (expr : Expr) (place : ℕ) → IsRead text tokens most (Disjunction n) at end → Spells names text tokens (Disjunction n) at expr end → Fault_at most n at place → ⊥
  no_fault_at most n at end expr place r d f = behind_by most n at end expr place r d f (nat_lt end place) refl

  unknown_by : (most n at end : ℕ) (expr : Expr) (place : ℕ) → IsRead text tokens most (Disjunction n) at end → Spells names text tokens (Disjunction n) at expr end → IsRefused names text tokens most (Disjunction n) at (fault.UnknownFeature place) → (b : Bool) → nat_lt place end ≡ b → ⊥
  unknown_by most n at end expr place r d f true before = (known_spelled names text tokens (Disjunction n) at expr end d).known place f.3 (grind (arith, nat_tests)) f.1 f.2
  unknown_by most n at end expr place r d f false before = ended most n at end most (place + 1) r (omega arith) (grind (arith, nat_tests)) ((f.0 alone none_fits).viable [])

  pub no_fault : (most n at end : ℕ) (expr : Expr) (f : Fault) → IsRead text tokens most (Disjunction n) at end → Spells names text tokens (Disjunction n) at expr end → IsRefused names text tokens most (Disjunction n) at f → f ≢ fault.Memory → ⊥
  no_fault most n at end expr (fault.Syntax place) r d f other = no_fault_at most n at end expr place r d (f alone none_fits most (omega arith))
  no_fault most n at end expr (fault.TooDeep place) r d f other = no_fault_at most n at end expr place r d (f.0 alone none_fits)
  no_fault most n at end expr (fault.UnknownFeature place) r d f other = unknown_by most n at end expr place r d f (nat_lt place end) refl
  no_fault most n at end expr fault.Memory r d f other = other refl

  -- two faults
  not_later : (limit n at p q : ℕ) → Fault_at limit n at p → Reaches (forms alone limit) (fits none_fits text tokens) (Disjunction n) at q → p < q → ⊥
  not_later limit n at p q f g later = f.never [] q (none_free limit n) later (g.viable [])

  one_place : (limit n at p q : ℕ) → Fault_at limit n at p → Fault_at limit n at q → p ≡ q
  one_place limit n at p q f g = equal p q (not_later limit n at p q f g.reaches) (not_later limit n at q p g f.reaches)

  -- a fault of syntax stands under every limit
  not_deep : (most n at p q : ℕ) → IsRefused names text tokens most (Disjunction n) at (fault.Syntax p) → IsRefused names text tokens most (Disjunction n) at (fault.TooDeep q) → ⊥
  not_deep most n at p q f g =
      let same = one_place most n at p q (f alone none_fits most (omega arith)) (g.0 alone none_fits) in
      not_later (most + n + 1) n at p (q + 1) (f alone none_fits (most + n + 1) (omega arith)) (g.1 alone none_fits (most + n + 1) (omega arith) (omega arith)) (omega (arith, same))

  -- and an unknown feature before none
  not_unknown : (most n at p q : ℕ) → IsRefused names text tokens most (Disjunction n) at (fault.UnknownFeature p) → Fault_at most n at q → (p < q → ⊥) → ⊥
  not_unknown most n at p q f g known = not_later most n at q (p + 1) g (f.0 alone none_fits) (let h = below p q known in omega (arith, h))

  pub one_fault : (most n at : ℕ) (f g : Fault) → IsRefused names text tokens most (Disjunction n) at f → IsFirst names text tokens at f → IsRefused names text tokens most (Disjunction n) at g → IsFirst names text tokens at g → f ≢ fault.Memory → g ≢ fault.Memory → f ≡ g
  one_fault most n at (fault.Syntax p) (fault.Syntax q) f a g b x y = rw (one_place most n at p q (f alone none_fits most (omega arith)) (g alone none_fits most (omega arith))) refl
  one_fault most n at (fault.Syntax p) (fault.TooDeep q) f a g b x y = absurd (not_deep most n at p q f g)
  one_fault most n at (fault.Syntax p) (fault.UnknownFeature q) f a g b x y = absurd (not_unknown most n at q p g (f alone none_fits most (omega arith)) (λ h. a.1.known q g.3 h g.1 g.2))
  one_fault most n at (fault.TooDeep p) (fault.Syntax q) f a g b x y = absurd (not_deep most n at q p g f)
  one_fault most n at (fault.TooDeep p) (fault.TooDeep q) f a g b x y = rw (one_place most n at p q (f.0 alone none_fits) (g.0 alone none_fits)) refl
  one_fault most n at (fault.TooDeep p) (fault.UnknownFeature q) f a g b x y = absurd (not_unknown most n at q p g (f.0 alone none_fits) (λ h. a.known q g.3 h g.1 g.2))
  one_fault most n at (fault.UnknownFeature p) (fault.Syntax q) f a g b x y = absurd (not_unknown most n at p q f (g alone none_fits most (omega arith)) (λ h. b.1.known p f.3 h f.1 f.2))
  one_fault most n at (fault.UnknownFeature p) (fault.TooDeep q) f a g b x y = absurd (not_unknown most n at p q f (g.0 alone none_fits) (λ h. b.known p f.3 h f.1 f.2))
  one_fault most n at (fault.UnknownFeature p) (fault.UnknownFeature q) f a g b x y = rw (equal p q (λ h. b.known p f.3 h f.1 f.2) (λ h. a.known q g.3 h g.1 g.2)) refl
  one_fault most n at fault.Memory g f a g' b x y = absurd (x refl)
  one_fault most n at (fault.Syntax p) fault.Memory f a g b x y = absurd (y refl)
  one_fault most n at (fault.TooDeep p) fault.Memory f a g b x y = absurd (y refl)
  one_fault most n at (fault.UnknownFeature p) fault.Memory f a g b x y = absurd (y refl)
