-- Derivations, a step at a time.
use Rattle.std.proofs.Common.{ℕ, zero, suc, ◌+◌, ◌<◌, List, [], ◌∷◌, ◌++◌, inl, inr, refl, arith}
use Rattle.word_tokens.specs.Grammar.{Symbol, Terminal, Nonterminal, AnyOf, MatchesIn, Matches}

pub any_in : {X : Type 0} (M : ℕ → X → Type 0) (n : ℕ) (xs : List X) → AnyOf (M n) xs → AnyOf (λ x. (k : ℕ) × M k x) xs
any_in M n [] none = none
any_in M n (x ∷ xs) (inl m) = inl (n, m)
any_in M n (x ∷ xs) (inr ms) = inr (any_in M n xs ms)

pub any_out : {X : Type 0} (M : ℕ → X → Type 0) (xs : List X) → AnyOf (λ x. (k : ℕ) × M k x) xs → (n : ℕ) × AnyOf (M n) xs
any_out M [] none = absurd none
any_out M (x ∷ xs) (inl m) = (m.0, inl m.1)
any_out M (x ∷ xs) (inr ms) = let rest = any_out M xs ms in (rest.0, inr rest.1)

pub here : {P S : Type 0} (forms : P → List (List (Symbol P S))) (fits : S → ℕ → Type 0) (symbols : List (Symbol P S)) (at : ℕ) → Matches forms fits symbols at at
here forms fits symbols at = (0, refl)

pub open_part : {P S : Type 0} (forms : P → List (List (Symbol P S))) (fits : S → ℕ → Type 0) (part : P) (symbols : List (Symbol P S)) (at to : ℕ) → AnyOf (λ form. Matches forms fits (form ++ symbols) at to) (forms part) → Matches forms fits (Nonterminal part ∷ symbols) at to
open_part forms fits part symbols at to any =
    let found = any_out (λ n form. MatchesIn forms fits n (form ++ symbols) at to) (forms part) any in
    (suc found.0, inr found.1)

close_part_in : {P S : Type 0} (forms : P → List (List (Symbol P S))) (fits : S → ℕ → Type 0) (part : P) (symbols : List (Symbol P S)) (at to n : ℕ) → at < to → MatchesIn forms fits n (Nonterminal part ∷ symbols) at to → AnyOf (λ form. Matches forms fits (form ++ symbols) at to) (forms part)
close_part_in forms fits part symbols at to zero order m = absurd (omega arith)
close_part_in forms fits part symbols at to (suc n) order (inl e) = absurd (omega arith)
close_part_in forms fits part symbols at to (suc n) order (inr any) = any_in (λ n form. MatchesIn forms fits n (form ++ symbols) at to) n (forms part) any

pub close_part : {P S : Type 0} (forms : P → List (List (Symbol P S))) (fits : S → ℕ → Type 0) (part : P) (symbols : List (Symbol P S)) (at to : ℕ) → at < to → Matches forms fits (Nonterminal part ∷ symbols) at to → AnyOf (λ form. Matches forms fits (form ++ symbols) at to) (forms part)
close_part forms fits part symbols at to order m = close_part_in forms fits part symbols at to m.0 order m.1

pub open_sign : {P S : Type 0} (forms : P → List (List (Symbol P S))) (fits : S → ℕ → Type 0) (sign : S) (symbols : List (Symbol P S)) (at to : ℕ) → fits sign at → Matches forms fits symbols (at + 1) to → Matches forms fits (Terminal sign ∷ symbols) at to
open_sign forms fits sign symbols at to fit m = (suc m.0, inr (fit, m.1))

close_sign_in : {P S : Type 0} (forms : P → List (List (Symbol P S))) (fits : S → ℕ → Type 0) (sign : S) (symbols : List (Symbol P S)) (at to n : ℕ) → at < to → MatchesIn forms fits n (Terminal sign ∷ symbols) at to → fits sign at × Matches forms fits symbols (at + 1) to
close_sign_in forms fits sign symbols at to zero order m = absurd (omega arith)
close_sign_in forms fits sign symbols at to (suc n) order (inl e) = absurd (omega arith)
close_sign_in forms fits sign symbols at to (suc n) order (inr m) = (m.0, (n, m.1))

pub close_sign : {P S : Type 0} (forms : P → List (List (Symbol P S))) (fits : S → ℕ → Type 0) (sign : S) (symbols : List (Symbol P S)) (at to : ℕ) → at < to → Matches forms fits (Terminal sign ∷ symbols) at to → fits sign at × Matches forms fits symbols (at + 1) to
close_sign forms fits sign symbols at to order m = close_sign_in forms fits sign symbols at to m.0 order m.1
