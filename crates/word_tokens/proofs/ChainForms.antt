-- Parts that lead to other parts, and chains `item { sign item }`.
use Rattle.std.proofs.Common.{◌≡◌, ℕ, ◌+◌, ◌<◌, ◌≤◌, List, [], ◌∷◌, ◌++◌, ◌⊎◌, inl, inr, arith}
use Rattle.word_tokens.specs.Grammar.{Symbol, Terminal, Nonterminal, AnyOf, Matches, NeverFirst, IsFree, Leads, Reaches, FaultAt}
use Rattle.word_tokens.proofs.GrammarLaws.{open_part, close_part, open_sign, close_sign}

-- a part that begins at a place leads to another part further on, with `rest` open behind it
pub record Through {P S : Type 0} (forms : P → List (List (Symbol P S))) (fits : S → ℕ → Type 0) (signs : List S) (part : P) (at : ℕ) (signs' : List S) (part' : P) (at' : ℕ) (rest : List (Symbol P S)) : Type 0 where
  pub order : at ≤ at'
  pub on : (symbols : List (Symbol P S)) (to : ℕ) → IsFree forms fits signs symbols → at' < to → Matches forms fits (Nonterminal part ∷ symbols) at to → Matches forms fits (Nonterminal part' ∷ (rest ++ symbols)) at' to
  pub back : (symbols : List (Symbol P S)) (to : ℕ) → Matches forms fits (Nonterminal part' ∷ (rest ++ symbols)) at' to → Matches forms fits (Nonterminal part ∷ symbols) at to
  pub free : (symbols : List (Symbol P S)) → IsFree forms fits signs symbols → IsFree forms fits signs' (rest ++ symbols)

module _ {P S : Type 0} (forms : P → List (List (Symbol P S))) (fits : S → ℕ → Type 0) where
  pub through_reaches : (signs : List S) (part : P) (at : ℕ) (signs' : List S) (part' : P) (at' : ℕ) (rest : List (Symbol P S)) (to : ℕ) → Through forms fits signs part at signs' part' at' rest → Reaches forms fits part' at' to → Reaches forms fits part at to
  through_reaches signs part at signs' part' at' rest to t r = record {
    order = omega (arith, t.order, r.order);
    viable = λ symbols. t.back symbols to (r.viable (rest ++ symbols));
  }

  pub through_fault : (signs : List S) (part : P) (at : ℕ) (signs' : List S) (part' : P) (at' : ℕ) (rest : List (Symbol P S)) (place : ℕ) → Through forms fits signs part at signs' part' at' rest → FaultAt forms fits signs' part' at' place → FaultAt forms fits signs part at place
  through_fault signs part at signs' part' at' rest place t f = record {
    reaches = through_reaches signs part at signs' part' at' rest place t f.reaches;
    never = λ symbols to free later m. f.never (rest ++ symbols) to (t.free symbols free) later (t.on symbols to free (omega (arith, f.reaches.order, later)) m);
  }

  -- where nothing stays open behind it, both end together
  pub through_leads : (signs : List S) (part : P) (at : ℕ) (signs' : List S) (part' : P) (at' end : ℕ) → Through forms fits signs part at signs' part' at' [] → Leads forms fits signs' part' at' end → Leads forms fits signs part at end
  through_leads signs part at signs' part' at' end t l = record {
    order = omega (arith, t.order, l.order);
    on = λ symbols to free later m. l.on symbols to (t.free symbols free) later (t.on symbols to free (omega (arith, l.order, later)) m);
    back = λ symbols to m. t.back symbols to (l.back symbols to m);
  }

  pub through_through : (signs : List S) (part : P) (at : ℕ) (signs' : List S) (part' : P) (at' : ℕ) (signs'' : List S) (part'' : P) (at'' : ℕ) (rest : List (Symbol P S)) → Through forms fits signs part at signs' part' at' [] → Through forms fits signs' part' at' signs'' part'' at'' rest → Through forms fits signs part at signs'' part'' at'' rest
  through_through signs part at signs' part' at' signs'' part'' at'' rest t u = record {
    order = omega (arith, t.order, u.order);
    on = λ symbols to free later m. u.on symbols to (t.free symbols free) later (t.on symbols to free (omega (arith, u.order, later)) m);
    back = λ symbols to m. t.back symbols to (u.back symbols to m);
    free = λ symbols free. u.free symbols (t.free symbols free);
  }

  -- `whole` is `item more`, and `more` is nothing or `sign item more`
  pub record IsChain (whole item more : P) (sign : S) (signs signs' : List S) : Type 0 where
    pub whole_forms : forms whole ≡ (Nonterminal item ∷ Nonterminal more ∷ []) ∷ []
    pub more_forms : forms more ≡ [] ∷ (Terminal sign ∷ Nonterminal item ∷ Nonterminal more ∷ []) ∷ []
    pub free : (symbols : List (Symbol P S)) → IsFree forms fits signs symbols → IsFree forms fits signs' (Nonterminal more ∷ symbols)
    pub first : (symbols : List (Symbol P S)) → IsFree forms fits signs symbols → NeverFirst forms fits sign symbols

  only_of : (item more : P) (symbols : List (Symbol P S)) (at to : ℕ) → AnyOf (λ form. Matches forms fits (form ++ symbols) at to) ((Nonterminal item ∷ Nonterminal more ∷ []) ∷ []) → Matches forms fits (Nonterminal item ∷ Nonterminal more ∷ symbols) at to
  only_of item more symbols at to (inl m) = m
  only_of item more symbols at to (inr none) = absurd none

  more_of : (item more : P) (sign : S) (symbols : List (Symbol P S)) (at to : ℕ) → at < to → AnyOf (λ form. Matches forms fits (form ++ symbols) at to) ([] ∷ (Terminal sign ∷ Nonterminal item ∷ Nonterminal more ∷ []) ∷ []) → Matches forms fits symbols at to ⊎ (fits sign at × Matches forms fits (Nonterminal item ∷ Nonterminal more ∷ symbols) (at + 1) to)
  more_of item more sign symbols at to order (inl m) = inl m
  more_of item more sign symbols at to order (inr (inl m)) = inr (close_sign forms fits sign (Nonterminal item ∷ Nonterminal more ∷ symbols) at to order m)
  more_of item more sign symbols at to order (inr (inr none)) = absurd none

  module _ (whole item more : P) (sign : S) (signs signs' : List S) (chain : IsChain whole item more sign signs signs') where
    close_whole : (symbols : List (Symbol P S)) (at to : ℕ) → at < to → Matches forms fits (Nonterminal whole ∷ symbols) at to → Matches forms fits (Nonterminal item ∷ Nonterminal more ∷ symbols) at to
    close_whole symbols at to order m = only_of item more symbols at to (rw chain.whole_forms at (close_part forms fits whole symbols at to order m))

    open_whole : (symbols : List (Symbol P S)) (at to : ℕ) → Matches forms fits (Nonterminal item ∷ Nonterminal more ∷ symbols) at to → Matches forms fits (Nonterminal whole ∷ symbols) at to
    open_whole symbols at to m = open_part forms fits whole symbols at to (rw chain.whole_forms (inl m))

    close_more : (symbols : List (Symbol P S)) (at to : ℕ) → at < to → Matches forms fits (Nonterminal more ∷ symbols) at to → Matches forms fits symbols at to ⊎ (fits sign at × Matches forms fits (Nonterminal item ∷ Nonterminal more ∷ symbols) (at + 1) to)
    close_more symbols at to order m = more_of item more sign symbols at to order (rw chain.more_forms at (close_part forms fits more symbols at to order m))

    -- where the sign stands, the chain goes on
    link_of : (symbols : List (Symbol P S)) (at to : ℕ) → fits sign at → at < to → IsFree forms fits signs symbols → Matches forms fits symbols at to ⊎ (fits sign at × Matches forms fits (Nonterminal item ∷ Nonterminal more ∷ symbols) (at + 1) to) → Matches forms fits (Nonterminal item ∷ Nonterminal more ∷ symbols) (at + 1) to
    link_of symbols at to fit order free (inl m) = absurd (chain.first symbols free at to fit order m)
    link_of symbols at to fit order free (inr m) = m.1

    -- and where it doesn't, the chain ends
    end_of : (symbols : List (Symbol P S)) (at to : ℕ) → (fits sign at → ⊥) → Matches forms fits symbols at to ⊎ (fits sign at × Matches forms fits (Nonterminal item ∷ Nonterminal more ∷ symbols) (at + 1) to) → Matches forms fits symbols at to
    end_of symbols at to other (inl m) = m
    end_of symbols at to other (inr m) = absurd (other m.0)

    pub to_first : (at : ℕ) → Through forms fits signs whole at signs' item at (Nonterminal more ∷ [])
    to_first at = record {
      order = omega arith;
      on = λ symbols to free later m. close_whole symbols at to later m;
      back = λ symbols to m. open_whole symbols at to m;
      free = chain.free;
    }

    pub to_more : (at end : ℕ) → Leads forms fits signs' item at end → Through forms fits signs whole at signs more end []
    to_more at end l = record {
      order = l.order;
      on = λ symbols to free later m. l.on (Nonterminal more ∷ symbols) to (chain.free symbols free) later (close_whole symbols at to (omega (arith, l.order, later)) m);
      back = λ symbols to m. open_whole symbols at to (l.back (Nonterminal more ∷ symbols) to m);
      free = λ symbols free. free;
    }

    pub to_item : (at : ℕ) → fits sign at → Through forms fits signs more at signs' item (at + 1) (Nonterminal more ∷ [])
    to_item at fit = record {
      order = omega arith;
      on = λ symbols to free later m. link_of symbols at to fit (omega (arith, later)) free (close_more symbols at to (omega (arith, later)) m);
      back = λ symbols to m. open_part forms fits more symbols at to (rw chain.more_forms (inr (inl (open_sign forms fits sign (Nonterminal item ∷ Nonterminal more ∷ symbols) at to fit m))));
      free = chain.free;
    }

    pub to_next : (at end : ℕ) → fits sign at → Leads forms fits signs' item (at + 1) end → Through forms fits signs more at signs more end []
    to_next at end fit l = record {
      order = omega (arith, l.order);
      on = λ symbols to free later m. l.on (Nonterminal more ∷ symbols) to (chain.free symbols free) later ((to_item at fit).on symbols to free (omega (arith, l.order, later)) m);
      back = λ symbols to m. (to_item at fit).back symbols to (l.back (Nonterminal more ∷ symbols) to m);
      free = λ symbols free. free;
    }

    pub ends : (at : ℕ) → (fits sign at → ⊥) → Leads forms fits signs more at at
    ends at other = record {
      order = omega arith;
      on = λ symbols to free later m. end_of symbols at to other (close_more symbols at to later m);
      back = λ symbols to m. open_part forms fits more symbols at to (rw chain.more_forms (inl m));
    }
