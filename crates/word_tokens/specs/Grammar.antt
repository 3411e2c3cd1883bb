-- Grammars as data, and the places up to which tokens begin a text of one. It serves every grammar over tokens: `P` are
-- its parts, `S` its signs, `forms` are the forms of each part, and `fits` says which sign the token at a place is.
use Rattle.std.specs.Prelude.{◌≡◌, ℕ, zero, suc, ◌+◌, ◌<◌, ◌≤◌, List, [], ◌∷◌, ◌++◌, ◌⊎◌}

pub data Symbol (P S : Type 0) : Type 0 where
  Terminal : (sign : S) → Symbol P S
  Nonterminal : (part : P) → Symbol P S

abbrev pub AnyOf : {X : Type 0} → (X → Type 0) → List X → Type 0
AnyOf P [] = ⊥
AnyOf P (x ∷ xs) = P x ⊎ AnyOf P xs

-- a leftmost derivation of at most so many steps from these open symbols matches the tokens from one place to another
abbrev pub MatchesIn : {P S : Type 0} → (P → List (List (Symbol P S))) → (S → ℕ → Type 0) → ℕ → List (Symbol P S) → ℕ → ℕ → Type 0
MatchesIn forms fits zero symbols at to = at ≡ to
MatchesIn forms fits (suc steps) [] at to = at ≡ to
MatchesIn forms fits (suc steps) (Terminal sign ∷ symbols) at to = (at ≡ to) ⊎ (fits sign at × MatchesIn forms fits steps symbols (at + 1) to)
MatchesIn forms fits (suc steps) (Nonterminal part ∷ symbols) at to = (at ≡ to) ⊎ AnyOf (λ form. MatchesIn forms fits steps (form ++ symbols) at to) (forms part)

abbrev pub Matches : {P S : Type 0} → (P → List (List (Symbol P S))) → (S → ℕ → Type 0) → List (Symbol P S) → ℕ → ℕ → Type 0
Matches forms fits symbols at to = (steps : ℕ) × MatchesIn forms fits steps symbols at to

-- what these open symbols match never begins with the sign
abbrev pub NeverFirst : {P S : Type 0} → (P → List (List (Symbol P S))) → (S → ℕ → Type 0) → S → List (Symbol P S) → Type 0
NeverFirst forms fits sign symbols = (at to : ℕ) → fits sign at → at < to → Matches forms fits symbols at to → ⊥

-- it never begins with one of the signs
abbrev pub IsFree : {P S : Type 0} → (P → List (List (Symbol P S))) → (S → ℕ → Type 0) → List S → List (Symbol P S) → Type 0
IsFree forms fits [] symbols = Unit {0}
IsFree forms fits (sign ∷ signs) symbols = NeverFirst forms fits sign symbols × IsFree forms fits signs symbols

-- a part that begins at a place ends at another, whatever follows that doesn't begin with one of these signs
pub record Leads {P S : Type 0} (forms : P → List (List (Symbol P S))) (fits : S → ℕ → Type 0) (signs : List S) (part : P) (at end : ℕ) : Type 0 where
  pub order : at ≤ end
  pub on : (symbols : List (Symbol P S)) (to : ℕ) → IsFree forms fits signs symbols → end < to → Matches forms fits (Nonterminal part ∷ symbols) at to → Matches forms fits symbols end to
  pub back : (symbols : List (Symbol P S)) (to : ℕ) → Matches forms fits symbols end to → Matches forms fits (Nonterminal part ∷ symbols) at to

-- a part that begins at a place is viable up to another
pub record Reaches {P S : Type 0} (forms : P → List (List (Symbol P S))) (fits : S → ℕ → Type 0) (part : P) (at to : ℕ) : Type 0 where
  pub order : at ≤ to
  pub viable : (symbols : List (Symbol P S)) → Matches forms fits (Nonterminal part ∷ symbols) at to

-- it is viable up to a place and not with the token there
pub record FaultAt {P S : Type 0} (forms : P → List (List (Symbol P S))) (fits : S → ℕ → Type 0) (signs : List S) (part : P) (at place : ℕ) : Type 0 where
  pub reaches : Reaches forms fits part at place
  pub never : (symbols : List (Symbol P S)) (to : ℕ) → IsFree forms fits signs symbols → place < to → Matches forms fits (Nonterminal part ∷ symbols) at to → ⊥
