-- `not`, brackets, constants and features: each is told by its first token.
use Rattle.std.proofs.Common.{◌≡◌, ◌≢◌, ℕ, ◌+◌, ◌<◌, ◌≤◌, Bool, true, false, nat_lt, if◌then◌else◌, List, [], ◌∷◌, ◌++◌, inl, inr, refl, arith}
use Rattle.std.proofs.lemmas.Bool.Decides.{nat_tests}
use Rattle.feature_expr.specs.declared.parse.Sign.{Sign}
use Rattle.feature_expr.specs.declared.parse.Sign.TheVariants as sign
use Rattle.word_tokens.specs.declared.token.Token.{Token}
use Rattle.word_tokens.specs.Grammar.{Symbol, Terminal, Nonterminal, AnyOf, Matches, NeverFirst, Leads, Reaches, FaultAt}
use Rattle.feature_expr.specs.ExprGrammar.{Part, Mark, Own, Disjunction, Negation, nested, forms, sign_at, fits}
use Rattle.word_tokens.proofs.GrammarLaws.{here, open_part, close_part, open_sign, close_sign}
use Rattle.word_tokens.proofs.ChainForms.{Through}

pub is_below : (n limit : ℕ) → n < limit → nat_lt n limit ≡ true
is_below n limit h = grind (arith, nat_tests)

pub not_below : (n limit : ℕ) → limit ≤ n → nat_lt n limit ≡ true → ⊥
not_below n limit h e = grind (arith, nat_tests)

module _ (outer : ℕ → ℕ → List (List (Symbol Part Mark))) (fitting : ℕ → ℕ → Bool) (text : List ℕ) (tokens : List Token) (limit n : ℕ) where
  -- what is left of a part behind its first token
  abbrev pub After : List (Symbol Part Mark) → ℕ → ℕ → Sign → Type 0
  After s at to sign.True = Matches (forms outer limit) (fits fitting text tokens) s (at + 1) to
  After s at to sign.False = Matches (forms outer limit) (fits fitting text tokens) s (at + 1) to
  After s at to sign.Feature = Matches (forms outer limit) (fits fitting text tokens) s (at + 1) to
  After s at to sign.Not = (nat_lt n limit ≡ true) × Matches (forms outer limit) (fits fitting text tokens) (Nonterminal (Negation (n + 1)) ∷ s) (at + 1) to
  After s at to sign.Open = (nat_lt n limit ≡ true) × Matches (forms outer limit) (fits fitting text tokens) (Nonterminal (Disjunction (n + 1)) ∷ Terminal (Own sign.Close) ∷ s) (at + 1) to
  After s at to _ = ⊥

  nested_of : (s : List (Symbol Part Mark)) (at to : ℕ) → at < to → (b : Bool) → nat_lt n limit ≡ b → AnyOf (λ form. Matches (forms outer limit) (fits fitting text tokens) (form ++ s) at to) (if b then nested n else []) → After s at to (sign_at text tokens at)
  nested_of s at to order true below (inl m) =
      let c = close_sign (forms outer limit) (fits fitting text tokens) (Own sign.Not) (Nonterminal (Negation (n + 1)) ∷ s) at to order m in rw c.0 (below, c.1)
  nested_of s at to order true below (inr (inl m)) =
      let c = close_sign (forms outer limit) (fits fitting text tokens) (Own sign.Open) (Nonterminal (Disjunction (n + 1)) ∷ Terminal (Own sign.Close) ∷ s) at to order m in rw c.0 (below, c.1)
  nested_of s at to order true below (inr (inr none)) = absurd none
  nested_of s at to order false below none = absurd none

  negation_of : (s : List (Symbol Part Mark)) (at to : ℕ) → at < to → AnyOf (λ form. Matches (forms outer limit) (fits fitting text tokens) (form ++ s) at to) (forms outer limit (Negation n)) → After s at to (sign_at text tokens at)
  negation_of s at to order (inl m) = let c = close_sign (forms outer limit) (fits fitting text tokens) (Own sign.True) s at to order m in rw c.0 c.1
  negation_of s at to order (inr (inl m)) = let c = close_sign (forms outer limit) (fits fitting text tokens) (Own sign.False) s at to order m in rw c.0 c.1
  negation_of s at to order (inr (inr (inl m))) = let c = close_sign (forms outer limit) (fits fitting text tokens) (Own sign.Feature) s at to order m in rw c.0 c.1
  negation_of s at to order (inr (inr (inr any))) = nested_of s at to order (nat_lt n limit) refl any

  pub negation_on : (s : List (Symbol Part Mark)) (at to : ℕ) → at < to → Matches (forms outer limit) (fits fitting text tokens) (Nonterminal (Negation n) ∷ s) at to → After s at to (sign_at text tokens at)
  negation_on s at to order m = negation_of s at to order (close_part (forms outer limit) (fits fitting text tokens) (Negation n) s at to order m)

  pub to_not : (at : ℕ) → n < limit → fits fitting text tokens (Own sign.Not) at → Through (forms outer limit) (fits fitting text tokens) [] (Negation n) at [] (Negation (n + 1)) (at + 1) []
  to_not at below fit = record {
    order = omega arith;
    on = λ s to free later m. (rw fit at (negation_on s at to (omega (arith, later)) m)).1;
    back = λ s to m. open_part (forms outer limit) (fits fitting text tokens) (Negation n) s at to (inr (inr (inr (rw (is_below n limit below) (inl (open_sign (forms outer limit) (fits fitting text tokens) (Own sign.Not) (Nonterminal (Negation (n + 1)) ∷ s) at to fit m))))));
    free = λ s free. tt;
  }

  pub never_or : (s : List (Symbol Part Mark)) → NeverFirst (forms outer limit) (fits fitting text tokens) (Own sign.Or) (Terminal (Own sign.Close) ∷ s)
  never_or s at to fit order m = let c = close_sign (forms outer limit) (fits fitting text tokens) (Own sign.Close) s at to order m in cc (fit, c.0)

  pub never_and : (s : List (Symbol Part Mark)) → NeverFirst (forms outer limit) (fits fitting text tokens) (Own sign.And) (Terminal (Own sign.Close) ∷ s)
  never_and s at to fit order m = let c = close_sign (forms outer limit) (fits fitting text tokens) (Own sign.Close) s at to order m in cc (fit, c.0)

  pub to_open : (at : ℕ) → n < limit → fits fitting text tokens (Own sign.Open) at → Through (forms outer limit) (fits fitting text tokens) [] (Negation n) at (Own sign.Or ∷ Own sign.And ∷ []) (Disjunction (n + 1)) (at + 1) (Terminal (Own sign.Close) ∷ [])
  to_open at below fit = record {
    order = omega arith;
    on = λ s to free later m. (rw fit at (negation_on s at to (omega (arith, later)) m)).1;
    back = λ s to m. open_part (forms outer limit) (fits fitting text tokens) (Negation n) s at to (inr (inr (inr (rw (is_below n limit below) (inr (inl (open_sign (forms outer limit) (fits fitting text tokens) (Own sign.Open) (Nonterminal (Disjunction (n + 1)) ∷ Terminal (Own sign.Close) ∷ s) at to fit m)))))));
    free = λ s free. (never_or s, (never_and s, tt));
  }

  pub leads_true : (at : ℕ) → fits fitting text tokens (Own sign.True) at → Leads (forms outer limit) (fits fitting text tokens) [] (Negation n) at (at + 1)
  leads_true at fit = record {
    order = omega arith;
    on = λ s to free later m. rw fit at (negation_on s at to (omega (arith, later)) m);
    back = λ s to m. open_part (forms outer limit) (fits fitting text tokens) (Negation n) s at to (inl (open_sign (forms outer limit) (fits fitting text tokens) (Own sign.True) s at to fit m));
  }

  pub leads_false : (at : ℕ) → fits fitting text tokens (Own sign.False) at → Leads (forms outer limit) (fits fitting text tokens) [] (Negation n) at (at + 1)
  leads_false at fit = record {
    order = omega arith;
    on = λ s to free later m. rw fit at (negation_on s at to (omega (arith, later)) m);
    back = λ s to m. open_part (forms outer limit) (fits fitting text tokens) (Negation n) s at to (inr (inl (open_sign (forms outer limit) (fits fitting text tokens) (Own sign.False) s at to fit m)));
  }

  pub leads_feature : (at : ℕ) → fits fitting text tokens (Own sign.Feature) at → Leads (forms outer limit) (fits fitting text tokens) [] (Negation n) at (at + 1)
  leads_feature at fit = record {
    order = omega arith;
    on = λ s to free later m. rw fit at (negation_on s at to (omega (arith, later)) m);
    back = λ s to m. open_part (forms outer limit) (fits fitting text tokens) (Negation n) s at to (inr (inr (inl (open_sign (forms outer limit) (fits fitting text tokens) (Own sign.Feature) s at to fit m))));
  }

  pub leads_brackets : (at end : ℕ) → Through (forms outer limit) (fits fitting text tokens) [] (Negation n) at (Own sign.Or ∷ Own sign.And ∷ []) (Disjunction (n + 1)) (at + 1) (Terminal (Own sign.Close) ∷ []) → Leads (forms outer limit) (fits fitting text tokens) (Own sign.Or ∷ Own sign.And ∷ []) (Disjunction (n + 1)) (at + 1) end → fits fitting text tokens (Own sign.Close) end → Leads (forms outer limit) (fits fitting text tokens) [] (Negation n) at (end + 1)
  leads_brackets at end t l fit = record {
    order = omega (arith, l.order);
    on = λ s to free later m. (close_sign (forms outer limit) (fits fitting text tokens) (Own sign.Close) s end to (omega (arith, later)) (l.on (Terminal (Own sign.Close) ∷ s) to (t.free s free) (omega (arith, later)) (t.on s to free (omega (arith, l.order, later)) m))).1;
    back = λ s to m. t.back s to (l.back (Terminal (Own sign.Close) ∷ s) to (open_sign (forms outer limit) (fits fitting text tokens) (Own sign.Close) s end to fit m));
  }

  pub fault_unclosed : (at end : ℕ) → Through (forms outer limit) (fits fitting text tokens) [] (Negation n) at (Own sign.Or ∷ Own sign.And ∷ []) (Disjunction (n + 1)) (at + 1) (Terminal (Own sign.Close) ∷ []) → Leads (forms outer limit) (fits fitting text tokens) (Own sign.Or ∷ Own sign.And ∷ []) (Disjunction (n + 1)) (at + 1) end → (fits fitting text tokens (Own sign.Close) end → ⊥) → FaultAt (forms outer limit) (fits fitting text tokens) [] (Negation n) at end
  fault_unclosed at end t l other = record {
    reaches = record {
      order = omega (arith, l.order);
      viable = λ s. t.back s end (l.back (Terminal (Own sign.Close) ∷ s) end (here (forms outer limit) (fits fitting text tokens) (Terminal (Own sign.Close) ∷ s) end));
    };
    never = λ s to free later m. other (close_sign (forms outer limit) (fits fitting text tokens) (Own sign.Close) s end to later (l.on (Terminal (Own sign.Close) ∷ s) to (t.free s free) later (t.on s to free (omega (arith, l.order, later)) m))).0;
  }

  pub reaches_here : (at : ℕ) → Reaches (forms outer limit) (fits fitting text tokens) (Negation n) at at
  reaches_here at = record { order = omega arith; viable = λ s. here (forms outer limit) (fits fitting text tokens) (Nonterminal (Negation n) ∷ s) at }

  none_after : (s : List (Symbol Part Mark)) (at to : ℕ) (x : Sign) → x ≢ sign.Not → x ≢ sign.True → x ≢ sign.False → x ≢ sign.Feature → x ≢ sign.Open → After s at to x → ⊥
  none_after s at to sign.Not a b c d e m = a refl
  none_after s at to sign.True a b c d e m = b refl
  none_after s at to sign.False a b c d e m = c refl
  none_after s at to sign.Feature a b c d e m = d refl
  none_after s at to sign.Open a b c d e m = e refl
  none_after s at to sign.Or a b c d e m = m
  none_after s at to sign.And a b c d e m = m
  none_after s at to sign.Close a b c d e m = m
  none_after s at to sign.End a b c d e m = m
  none_after s at to sign.Other a b c d e m = m

  -- no such part begins with this token
  pub fault_begin : (at : ℕ) → sign_at text tokens at ≢ sign.Not → sign_at text tokens at ≢ sign.True → sign_at text tokens at ≢ sign.False → sign_at text tokens at ≢ sign.Feature → sign_at text tokens at ≢ sign.Open → FaultAt (forms outer limit) (fits fitting text tokens) [] (Negation n) at at
  fault_begin at a b c d e = record {
    reaches = reaches_here at;
    never = λ s to free later m. none_after s at to (sign_at text tokens at) a b c d e (negation_on s at to later m);
  }

  -- the limit is reached
  pub fault_not : (at : ℕ) → limit ≤ n → fits fitting text tokens (Own sign.Not) at → FaultAt (forms outer limit) (fits fitting text tokens) [] (Negation n) at at
  fault_not at deep fit = record {
    reaches = reaches_here at;
    never = λ s to free later m. not_below n limit deep (rw fit at (negation_on s at to later m)).0;
  }

  pub fault_open : (at : ℕ) → limit ≤ n → fits fitting text tokens (Own sign.Open) at → FaultAt (forms outer limit) (fits fitting text tokens) [] (Negation n) at at
  fault_open at deep fit = record {
    reaches = reaches_here at;
    never = λ s to free later m. not_below n limit deep (rw fit at (negation_on s at to later m)).0;
  }
