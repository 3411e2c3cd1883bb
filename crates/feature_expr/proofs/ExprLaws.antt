-- How expressions are read, part by part, under every limit on nesting.
use Rattle.std.proofs.Common.{Bool, ◌≡◌, ◌≢◌, ℕ, ◌+◌, ◌<◌, ◌≤◌, List, [], ◌∷◌, ◌++◌, inl, inr, refl, None, arith}
use Rattle.feature_expr.specs.declared.parse.Sign.TheVariants as sign
use Rattle.feature_expr.specs.declared.parse.Fault.{Fault}
use Rattle.feature_expr.specs.declared.parse.Fault.TheVariants as fault
use Rattle.word_tokens.specs.declared.token.Token.{Token}
use Rattle.word_tokens.specs.Grammar.{Symbol, Terminal, Nonterminal, AnyOf, Matches, NeverFirst}
use Rattle.feature_expr.specs.ExprGrammar.{Part, Mark, Own, Disjunction, MoreOr, Conjunction, MoreAnd, Negation, nesting_of, forms, signs_of, sign_at, feature_at, fits, IsRead, IsRefused}
use Rattle.feature_expr.specs.ExprTexts.{alone, none_fits}
use Rattle.word_tokens.proofs.GrammarLaws.{here, close_sign, close_part}
use Rattle.word_tokens.proofs.ChainForms.{Through, IsChain, through_reaches, through_fault, through_leads, through_through, to_first, to_more, to_item, to_next, ends}
use Rattle.feature_expr.proofs.NegationLaws.{to_not, to_open, leads_feature, leads_brackets, fault_unclosed, fault_begin, fault_not, fault_open}

-- a part leads to another under every limit from the given one on
abbrev pub LeadsTo : List ℕ → List Token → ℕ → Part → ℕ → Part → ℕ → List (Symbol Part Mark) → Type 0
LeadsTo text tokens most part at part' at' rest = (outer : ℕ → ℕ → List (List (Symbol Part Mark))) (fitting : ℕ → ℕ → Bool) (limit : ℕ) → most ≤ limit → Through (forms outer limit) (fits fitting text tokens) (signs_of part) part at (signs_of part') part' at' rest

module _ (names : List (List ℕ)) (text : List ℕ) (tokens : List Token) (most : ℕ) where
  -- what refuses a part refuses the part that it stands in
  pub refused_through : (part : Part) (at : ℕ) (part' : Part) (at' : ℕ) (rest : List (Symbol Part Mark)) → LeadsTo text tokens most part at part' at' rest → ((limit : ℕ) → most < limit → nesting_of part < limit → nesting_of part' < limit) → (f : Fault) → IsRefused names text tokens most part' at' f → IsRefused names text tokens most part at f
  refused_through part at part' at' rest t deep (fault.Syntax place) r = λ outer fitting limit h. through_fault (forms outer limit) (fits fitting text tokens) (signs_of part) part at (signs_of part') part' at' rest place (t outer fitting limit h) (r outer fitting limit h)
  refused_through part at part' at' rest t deep (fault.TooDeep place) r = (
    λ outer fitting. through_fault (forms outer most) (fits fitting text tokens) (signs_of part) part at (signs_of part') part' at' rest place (t outer fitting most (omega arith)) (r.0 outer fitting),
    λ outer fitting limit h below. through_reaches (forms outer limit) (fits fitting text tokens) (signs_of part) part at (signs_of part') part' at' rest (place + 1) (t outer fitting limit (omega (arith, h))) (r.1 outer fitting limit h (deep limit h below)),
  )
  refused_through part at part' at' rest t deep (fault.UnknownFeature place) r =
      (λ outer fitting. through_reaches (forms outer most) (fits fitting text tokens) (signs_of part) part at (signs_of part') part' at' rest (place + 1) (t outer fitting most (omega arith)) (r.0 outer fitting), r.1, r.2, let o = (t alone none_fits most (omega arith)).order in omega (arith, o, r.3))
  refused_through part at part' at' rest t deep fault.Memory r = tt

  or_never : (outer : ℕ → ℕ → List (List (Symbol Part Mark))) (fitting : ℕ → ℕ → Bool) (limit n : ℕ) (s : List (Symbol Part Mark)) (at to : ℕ) → sign_at text tokens at ≡ sign.And → at < to → NeverFirst (forms outer limit) (fits fitting text tokens) (Own sign.And) s → AnyOf (λ form. Matches (forms outer limit) (fits fitting text tokens) (form ++ s) at to) (forms outer limit (MoreOr n)) → ⊥
  or_never outer fitting limit n s at to fit order free (inl m) = free at to fit order m
  or_never outer fitting limit n s at to fit order free (inr (inl m)) =
      let c = close_sign (forms outer limit) (fits fitting text tokens) (Own sign.Or) (Nonterminal (Conjunction n) ∷ Nonterminal (MoreOr n) ∷ s) at to order m in cc (fit, c.0)
  or_never outer fitting limit n s at to fit order free (inr (inr none)) = none

  pub or_chain : (outer : ℕ → ℕ → List (List (Symbol Part Mark))) (fitting : ℕ → ℕ → Bool) (limit n : ℕ) → IsChain (forms outer limit) (fits fitting text tokens) (Disjunction n) (Conjunction n) (MoreOr n) (Own sign.Or) (Own sign.Or ∷ Own sign.And ∷ []) (Own sign.And ∷ [])
  or_chain outer fitting limit n = record {
    whole_forms = refl;
    more_forms = refl;
    free = λ s free. (λ at to fit order m. or_never outer fitting limit n s at to fit order free.1.0 (close_part (forms outer limit) (fits fitting text tokens) (MoreOr n) s at to order m), tt);
    first = λ s free. free.0;
  }

  pub and_chain : (outer : ℕ → ℕ → List (List (Symbol Part Mark))) (fitting : ℕ → ℕ → Bool) (limit n : ℕ) → IsChain (forms outer limit) (fits fitting text tokens) (Conjunction n) (Negation n) (MoreAnd n) (Own sign.And) (Own sign.And ∷ []) []
  and_chain outer fitting limit n = record {
    whole_forms = refl;
    more_forms = refl;
    free = λ s free. tt;
    first = λ s free. free.0;
  }

  pub or_refused_first : (n at : ℕ) (f : Fault) → IsRefused names text tokens most (Conjunction n) at f → IsRefused names text tokens most (Disjunction n) at f
  or_refused_first n at = refused_through (Disjunction n) at (Conjunction n) at (Nonterminal (MoreOr n) ∷ []) (λ outer fitting limit h. to_first (forms outer limit) (fits fitting text tokens) (Disjunction n) (Conjunction n) (MoreOr n) (Own sign.Or) (Own sign.Or ∷ Own sign.And ∷ []) (Own sign.And ∷ []) (or_chain outer fitting limit n) at) (λ limit h below. below)

  pub or_links : (n at end : ℕ) → IsRead text tokens most (Conjunction n) at end → LeadsTo text tokens most (Disjunction n) at (MoreOr n) end []
  or_links n at end read outer fitting limit h = to_more (forms outer limit) (fits fitting text tokens) (Disjunction n) (Conjunction n) (MoreOr n) (Own sign.Or) (Own sign.Or ∷ Own sign.And ∷ []) (Own sign.And ∷ []) (or_chain outer fitting limit n) at end (read outer fitting limit h)

  pub or_refused_item : (n at end : ℕ) → LeadsTo text tokens most (Disjunction n) at (MoreOr n) end [] → sign_at text tokens end ≡ sign.Or → (f : Fault) → IsRefused names text tokens most (Conjunction n) (end + 1) f → IsRefused names text tokens most (Disjunction n) at f
  or_refused_item n at end links fit = refused_through (Disjunction n) at (Conjunction n) (end + 1) (Nonterminal (MoreOr n) ∷ []) (λ outer fitting limit h. through_through (forms outer limit) (fits fitting text tokens) (Own sign.Or ∷ Own sign.And ∷ []) (Disjunction n) at (Own sign.Or ∷ Own sign.And ∷ []) (MoreOr n) end (Own sign.And ∷ []) (Conjunction n) (end + 1) (Nonterminal (MoreOr n) ∷ []) (links outer fitting limit h) (to_item (forms outer limit) (fits fitting text tokens) (Disjunction n) (Conjunction n) (MoreOr n) (Own sign.Or) (Own sign.Or ∷ Own sign.And ∷ []) (Own sign.And ∷ []) (or_chain outer fitting limit n) end fit)) (λ limit h below. below)

  pub or_linked : (n at end next : ℕ) → LeadsTo text tokens most (Disjunction n) at (MoreOr n) end [] → sign_at text tokens end ≡ sign.Or → IsRead text tokens most (Conjunction n) (end + 1) next → LeadsTo text tokens most (Disjunction n) at (MoreOr n) next []
  or_linked n at end next links fit read outer fitting limit h = through_through (forms outer limit) (fits fitting text tokens) (Own sign.Or ∷ Own sign.And ∷ []) (Disjunction n) at (Own sign.Or ∷ Own sign.And ∷ []) (MoreOr n) end (Own sign.Or ∷ Own sign.And ∷ []) (MoreOr n) next [] (links outer fitting limit h) (to_next (forms outer limit) (fits fitting text tokens) (Disjunction n) (Conjunction n) (MoreOr n) (Own sign.Or) (Own sign.Or ∷ Own sign.And ∷ []) (Own sign.And ∷ []) (or_chain outer fitting limit n) end next fit (read outer fitting limit h))

  pub or_read : (n at end : ℕ) → LeadsTo text tokens most (Disjunction n) at (MoreOr n) end [] → (sign_at text tokens end ≡ sign.Or → ⊥) → IsRead text tokens most (Disjunction n) at end
  or_read n at end links other outer fitting limit h = through_leads (forms outer limit) (fits fitting text tokens) (Own sign.Or ∷ Own sign.And ∷ []) (Disjunction n) at (Own sign.Or ∷ Own sign.And ∷ []) (MoreOr n) end end (links outer fitting limit h) (ends (forms outer limit) (fits fitting text tokens) (Disjunction n) (Conjunction n) (MoreOr n) (Own sign.Or) (Own sign.Or ∷ Own sign.And ∷ []) (Own sign.And ∷ []) (or_chain outer fitting limit n) end other)

  pub and_refused_first : (n at : ℕ) (f : Fault) → IsRefused names text tokens most (Negation n) at f → IsRefused names text tokens most (Conjunction n) at f
  and_refused_first n at = refused_through (Conjunction n) at (Negation n) at (Nonterminal (MoreAnd n) ∷ []) (λ outer fitting limit h. to_first (forms outer limit) (fits fitting text tokens) (Conjunction n) (Negation n) (MoreAnd n) (Own sign.And) (Own sign.And ∷ []) [] (and_chain outer fitting limit n) at) (λ limit h below. below)

  pub and_links : (n at end : ℕ) → IsRead text tokens most (Negation n) at end → LeadsTo text tokens most (Conjunction n) at (MoreAnd n) end []
  and_links n at end read outer fitting limit h = to_more (forms outer limit) (fits fitting text tokens) (Conjunction n) (Negation n) (MoreAnd n) (Own sign.And) (Own sign.And ∷ []) [] (and_chain outer fitting limit n) at end (read outer fitting limit h)

  pub and_refused_item : (n at end : ℕ) → LeadsTo text tokens most (Conjunction n) at (MoreAnd n) end [] → sign_at text tokens end ≡ sign.And → (f : Fault) → IsRefused names text tokens most (Negation n) (end + 1) f → IsRefused names text tokens most (Conjunction n) at f
  and_refused_item n at end links fit = refused_through (Conjunction n) at (Negation n) (end + 1) (Nonterminal (MoreAnd n) ∷ []) (λ outer fitting limit h. through_through (forms outer limit) (fits fitting text tokens) (Own sign.And ∷ []) (Conjunction n) at (Own sign.And ∷ []) (MoreAnd n) end [] (Negation n) (end + 1) (Nonterminal (MoreAnd n) ∷ []) (links outer fitting limit h) (to_item (forms outer limit) (fits fitting text tokens) (Conjunction n) (Negation n) (MoreAnd n) (Own sign.And) (Own sign.And ∷ []) [] (and_chain outer fitting limit n) end fit)) (λ limit h below. below)

  pub and_linked : (n at end next : ℕ) → LeadsTo text tokens most (Conjunction n) at (MoreAnd n) end [] → sign_at text tokens end ≡ sign.And → IsRead text tokens most (Negation n) (end + 1) next → LeadsTo text tokens most (Conjunction n) at (MoreAnd n) next []
  and_linked n at end next links fit read outer fitting limit h = through_through (forms outer limit) (fits fitting text tokens) (Own sign.And ∷ []) (Conjunction n) at (Own sign.And ∷ []) (MoreAnd n) end (Own sign.And ∷ []) (MoreAnd n) next [] (links outer fitting limit h) (to_next (forms outer limit) (fits fitting text tokens) (Conjunction n) (Negation n) (MoreAnd n) (Own sign.And) (Own sign.And ∷ []) [] (and_chain outer fitting limit n) end next fit (read outer fitting limit h))

  pub and_read : (n at end : ℕ) → LeadsTo text tokens most (Conjunction n) at (MoreAnd n) end [] → (sign_at text tokens end ≡ sign.And → ⊥) → IsRead text tokens most (Conjunction n) at end
  and_read n at end links other outer fitting limit h = through_leads (forms outer limit) (fits fitting text tokens) (Own sign.And ∷ []) (Conjunction n) at (Own sign.And ∷ []) (MoreAnd n) end end (links outer fitting limit h) (ends (forms outer limit) (fits fitting text tokens) (Conjunction n) (Negation n) (MoreAnd n) (Own sign.And) (Own sign.And ∷ []) [] (and_chain outer fitting limit n) end other)

  pub read_not : (n at end : ℕ) → n < most → sign_at text tokens at ≡ sign.Not → IsRead text tokens most (Negation (n + 1)) (at + 1) end → IsRead text tokens most (Negation n) at end
  read_not n at end below fit read outer fitting limit h = through_leads (forms outer limit) (fits fitting text tokens) [] (Negation n) at [] (Negation (n + 1)) (at + 1) end (to_not outer fitting text tokens limit n at (omega arith) fit) (read outer fitting limit h)

  pub refused_not : (n at : ℕ) → n < most → sign_at text tokens at ≡ sign.Not → (f : Fault) → IsRefused names text tokens most (Negation (n + 1)) (at + 1) f → IsRefused names text tokens most (Negation n) at f
  refused_not n at below fit = refused_through (Negation n) at (Negation (n + 1)) (at + 1) [] (λ outer fitting limit h. to_not outer fitting text tokens limit n at (omega (arith, h)) fit) (λ limit h b. omega (arith, h))

  pub refused_open : (n at : ℕ) → n < most → sign_at text tokens at ≡ sign.Open → (f : Fault) → IsRefused names text tokens most (Disjunction (n + 1)) (at + 1) f → IsRefused names text tokens most (Negation n) at f
  refused_open n at below fit = refused_through (Negation n) at (Disjunction (n + 1)) (at + 1) (Terminal (Own sign.Close) ∷ []) (λ outer fitting limit h. to_open outer fitting text tokens limit n at (omega (arith, h)) fit) (λ limit h b. omega (arith, h))

  pub read_open : (n at end : ℕ) → n < most → sign_at text tokens at ≡ sign.Open → IsRead text tokens most (Disjunction (n + 1)) (at + 1) end → sign_at text tokens end ≡ sign.Close → IsRead text tokens most (Negation n) at (end + 1)
  read_open n at end below fit read close outer fitting limit h = leads_brackets outer fitting text tokens limit n at end (to_open outer fitting text tokens limit n at (omega arith) fit) (read outer fitting limit h) close

  pub refused_unclosed : (n at end : ℕ) → n < most → sign_at text tokens at ≡ sign.Open → IsRead text tokens most (Disjunction (n + 1)) (at + 1) end → (sign_at text tokens end ≡ sign.Close → ⊥) → IsRefused names text tokens most (Negation n) at (fault.Syntax end)
  refused_unclosed n at end below fit read other outer fitting limit h = fault_unclosed outer fitting text tokens limit n at end (to_open outer fitting text tokens limit n at (omega arith) fit) (read outer fitting limit h) other

  pub refused_begin : (n at : ℕ) → sign_at text tokens at ≢ sign.Not → sign_at text tokens at ≢ sign.True → sign_at text tokens at ≢ sign.False → sign_at text tokens at ≢ sign.Feature → sign_at text tokens at ≢ sign.Open → IsRefused names text tokens most (Negation n) at (fault.Syntax at)
  refused_begin n at a b c d e outer fitting limit h = fault_begin outer fitting text tokens limit n at a b c d e

  pub refused_deep_not : (n at : ℕ) → most ≤ n → sign_at text tokens at ≡ sign.Not → IsRefused names text tokens most (Negation n) at (fault.TooDeep at)
  refused_deep_not n at deep fit = (
    λ outer fitting. fault_not outer fitting text tokens most n at deep fit,
    λ outer fitting limit h below. record {
      order = omega arith;
      viable = λ s. (to_not outer fitting text tokens limit n at below fit).back s (at + 1) (here (forms outer limit) (fits fitting text tokens) (Nonterminal (Negation (n + 1)) ∷ s) (at + 1));
    },
  )

  pub refused_deep_open : (n at : ℕ) → most ≤ n → sign_at text tokens at ≡ sign.Open → IsRefused names text tokens most (Negation n) at (fault.TooDeep at)
  refused_deep_open n at deep fit = (
    λ outer fitting. fault_open outer fitting text tokens most n at deep fit,
    λ outer fitting limit h below. record {
      order = omega arith;
      viable = λ s. (to_open outer fitting text tokens limit n at below fit).back s (at + 1) (here (forms outer limit) (fits fitting text tokens) (Nonterminal (Disjunction (n + 1)) ∷ Terminal (Own sign.Close) ∷ s) (at + 1));
    },
  )

  pub refused_unknown : (n at : ℕ) → sign_at text tokens at ≡ sign.Feature → feature_at names text tokens at ≡ None → IsRefused names text tokens most (Negation n) at (fault.UnknownFeature at)
  refused_unknown n at fit none = (
    λ outer fitting. record {
      order = omega arith;
      viable = λ s. (leads_feature outer fitting text tokens most n at fit).back s (at + 1) (here (forms outer most) (fits fitting text tokens) s (at + 1));
    },
    fit,
    none,
    omega arith,
  )
