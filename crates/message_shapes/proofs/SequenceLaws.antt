-- Values one behind the other: what is spelled is read, and what is read is spelled so.
use Rattle.std.proofs.Common.{◌≡◌, ℕ, zero, suc, ◌<◌, Bool, true, List, [], ◌∷◌, ◌++◌, length, Option, Some, None, Result, Ok, refl, sym, ap, subst, ◌∙◌, append_assoc, arith}
use Rattle.std.specs.List.{flat_map, list_all}
use Rattle.std.proofs.lemmas.Bool.{and_parts, and_from}
use Rattle.message_shapes.specs.Fields.{◌>>=◌, times, until_end, continued}
use Rattle.message_shapes.specs.Spelling.{IsBytes, AreSpelled}
use Rattle.message_shapes.proofs.FieldLaws.{bind_ok, ok_is, Takes, Takes-then}

-- ---- up to an end

-- what the reader of the next value took: a value that is good, or the zero byte that ends them
abbrev pub NextTakes : {X : Type 0} → (X → List ℕ) → (X → Bool) → (List ℕ → Type 0) → List ℕ → Option X × List ℕ → Type 0
NextTakes spell good End bytes (None, rest) = Takes bytes (0 ∷ []) rest × End rest
NextTakes spell good End bytes (Some x, rest) = Takes bytes (spell x) rest × (good x ≡ true)

pub record AllTaken {X : Type 0} (spell : X → List ℕ) (good : X → Bool) (End : List ℕ → Type 0) (bytes : List ℕ) (xs : List X) (rest : List ℕ) : Type 0 where
  pub taken : Takes bytes (flat_map spell xs ++ 0 ∷ []) rest
  pub good_all : list_all good xs ≡ true
  pub last : End rest

until_step : {X : Type 0} (next : List ℕ → Result (Option X × List ℕ) ℕ) (spell : X → List ℕ) (good : X → Bool) (End : List ℕ → Type 0) (n : ℕ)
    → ((bytes : List ℕ) (xs : List X) (rest : List ℕ) → IsBytes bytes → until_end next n bytes ≡ Ok (xs, rest) → AllTaken spell good End bytes xs rest)
    → (bytes : List ℕ) (xs : List X) (rest : List ℕ) (x : Option X × List ℕ) → NextTakes spell good End bytes x → continued (until_end next n) x ≡ Ok (xs, rest) → AllTaken spell good End bytes xs rest
until_step {X = X} next spell good End n so_on bytes xs rest (None, after) took e =
    subst (λ (y : List X × List ℕ). AllTaken spell good End bytes y.0 y.1) (ok_is ([], after) (xs, rest) e) (record { taken = took.0; good_all = refl; last = took.1 })
until_step {X = X} next spell good End n so_on bytes xs rest (Some first, after) took e =
    let a = bind_ok (until_end next n after) (λ y. Ok (first ∷ y.0, y.1)) (xs, rest) e in
    let others = so_on after a.0.0 a.0.1 took.0.rest_fits a.1 in
    let both = Takes-then bytes (spell first) after (flat_map spell a.0.0 ++ 0 ∷ []) a.0.1 took.0 others.taken in
    let regrouped : spell first ++ (flat_map spell a.0.0 ++ 0 ∷ []) ≡ flat_map spell (first ∷ a.0.0) ++ 0 ∷ [] = sym (append_assoc (spell first) (flat_map spell a.0.0) (0 ∷ [])) in
    let all : AllTaken spell good End bytes (first ∷ a.0.0) a.0.1 = record { taken = subst (λ (t : List ℕ). Takes bytes t a.0.1) regrouped both; good_all = and_from (good first) (list_all good a.0.0) took.1 others.good_all; last = others.last } in
    subst (λ (y : List X × List ℕ). AllTaken spell good End bytes y.0 y.1) (ok_is (first ∷ a.0.0, a.0.1) (xs, rest) a.2) all

pub until_takes : {X : Type 0} (next : List ℕ → Result (Option X × List ℕ) ℕ) (spell : X → List ℕ) (good : X → Bool) (End : List ℕ → Type 0)
    → ((bytes : List ℕ) (x : Option X × List ℕ) → IsBytes bytes → next bytes ≡ Ok x → NextTakes spell good End bytes x)
    → (n : ℕ) (bytes : List ℕ) (xs : List X) (rest : List ℕ) → IsBytes bytes → until_end next n bytes ≡ Ok (xs, rest) → AllTaken spell good End bytes xs rest
unfolding until_end
until_takes next spell good End takes zero bytes xs rest fits e = absurd cc
until_takes next spell good End takes (suc n) bytes xs rest fits e =
    let a = bind_ok (next bytes) (continued (until_end next n)) (xs, rest) e in
    until_step next spell good End n (λ b ys r. until_takes next spell good End takes n b ys r) bytes xs rest a.0 (takes bytes a.0 fits a.1) a.2

pub until_again : {X : Type 0} (next : List ℕ → Result (Option X × List ℕ) ℕ) (spell : X → List ℕ) (good : X → Bool) (rest : List ℕ)
    → ((x : X) (more : List ℕ) → good x ≡ true → next (spell x ++ more) ≡ Ok (Some x, more))
    → next (0 ∷ rest) ≡ Ok (None, rest)
    → (n : ℕ) (xs : List X) → length xs < n → list_all good xs ≡ true → until_end next n (flat_map spell xs ++ 0 ∷ rest) ≡ Ok (xs, rest)
unfolding until_end
until_again next spell good rest again last zero xs lt h = absurd (omega arith)
until_again next spell good rest again last (suc n) [] lt h = rw last refl
until_again next spell good rest again last (suc n) (x ∷ xs) lt h =
    let parts = and_parts (good x) (list_all good xs) h in
    let regrouped : flat_map spell (x ∷ xs) ++ 0 ∷ rest ≡ spell x ++ (flat_map spell xs ++ 0 ∷ rest) = append_assoc (spell x) (flat_map spell xs) (0 ∷ rest) in
    ap (until_end next (suc n)) regrouped ∙ rw (again x (flat_map spell xs ++ 0 ∷ rest) parts.0, until_again next spell good rest again last n xs (omega arith) parts.1) refl

-- ---- so many

pub times_take : {X : Type 0} (read : List ℕ → Result (X × List ℕ) ℕ) (S : X → List ℕ → Type 0)
    → ((bytes : List ℕ) (x : X) (rest : List ℕ) → IsBytes bytes → read bytes ≡ Ok (x, rest) → (text : List ℕ) × S x text × Takes bytes text rest)
    → (n : ℕ) (bytes : List ℕ) (xs : List X) (rest : List ℕ) → IsBytes bytes → times read n bytes ≡ Ok (xs, rest) → (text : List ℕ) × AreSpelled S xs text × Takes bytes text rest × (length xs ≡ n)
unfolding times
times_take {X = X} read S takes zero bytes xs rest fits e =
    subst (λ (y : List X × List ℕ). (text : List ℕ) × AreSpelled S y.0 text × Takes bytes text y.1 × (length y.0 ≡ 0)) (ok_is ([], bytes) (xs, rest) e) ([], refl, record { parts = refl; rest_fits = fits }, refl)
times_take {X = X} read S takes (suc n) bytes xs rest fits e =
    let a = bind_ok (read bytes) (λ first. times read n first.1 >>= λ others. Ok (first.0 ∷ others.0, others.1)) (xs, rest) e in
    let b = bind_ok (times read n a.0.1) (λ others. Ok (a.0.0 ∷ others.0, others.1)) (xs, rest) a.2 in
    let first = takes bytes a.0.0 a.0.1 fits a.1 in
    let others = times_take read S takes n a.0.1 b.0.0 b.0.1 first.2.rest_fits b.1 in
    let both = Takes-then bytes first.0 a.0.1 others.0 b.0.1 first.2 others.2 in
    subst (λ (y : List X × List ℕ). (text : List ℕ) × AreSpelled S y.0 text × Takes bytes text y.1 × (length y.0 ≡ suc n)) (ok_is (a.0.0 ∷ b.0.0, b.0.1) (xs, rest) b.2) (first.0 ++ others.0, (first.0, others.0, refl {a = first.0 ++ others.0}, first.1, others.1), both, ap suc others.3)

pub times_again : {X : Type 0} (read : List ℕ → Result (X × List ℕ) ℕ) (S : X → List ℕ → Type 0)
    → ((x : X) (text rest : List ℕ) → S x text → read (text ++ rest) ≡ Ok (x, rest))
    → (xs : List X) (text rest : List ℕ) → AreSpelled S xs text → times read (length xs) (text ++ rest) ≡ Ok (xs, rest)
unfolding times
times_again read S again [] text rest is = rw is refl
times_again read S again (x ∷ xs) text rest is =
    let regrouped : text ++ rest ≡ is.0 ++ (is.1 ++ rest) = ap (λ (t : List ℕ). t ++ rest) is.2 ∙ append_assoc is.0 is.1 rest in
    ap (times read (suc (length xs))) regrouped ∙ rw (again x is.0 (is.1 ++ rest) is.3, times_again read S again xs is.1 rest is.4) refl
