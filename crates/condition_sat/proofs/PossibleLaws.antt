-- `some_admitted` says whether there is an admitted configuration.
use Rattle.std.proofs.Common.{◌≡◌, ℕ, zero, suc, ◌+◌, ◌<◌, ◌≤◌, Bool, true, false, not, ◌&&◌, ◌||◌, List, [], ◌∷◌, refl, sym, ◌∙◌, ap, subst, arith, rules, ◌⊎◌, inl, inr, Option, Some, None}
use Rattle.std.specs.Prelude.{is_some, IfSome, IfNone}
use Rattle.std.proofs.Math.Nat.{eq-or-lt_of_le}
use Rattle.feature_expr.specs.declared.expr.Expr.{Expr}
use Rattle.feature_expr.specs.Config.{IsBetween, feature_limit}
use Rattle.feature_expr.specs.Satisfaction.{satisfies}
use Rattle.condition_sat.specs.Admitted.{IsAdmitted, SomeAdmitted}
use Rattle.condition_sat.specs.Possible.{some_config, some_admitted, can_hold, can_meet, always_holds}

pub record Passing (low high : ℕ) (passes : List ℕ → Bool) : Type 0 where
  pub config : List ℕ
  pub between : IsBetween low high config
  pub passing : passes config ≡ true

pub or_cases : (a b : Bool) → (a || b) ≡ true → (a ≡ true) ⊎ (b ≡ true)
or_cases true b h = inl refl
or_cases false b h = inr h

pub or_left : (a b : Bool) → a ≡ true → (a || b) ≡ true
or_left true b h = refl
or_left false b h = search rules

pub or_right : (a b : Bool) → b ≡ true → (a || b) ≡ true
or_right true b h = refl
or_right false b h = h

pub and_first : (a b : Bool) → (a && b) ≡ true → a ≡ true
and_first true b h = refl
and_first false b h = h

pub and_second : (a b : Bool) → (a && b) ≡ true → b ≡ true
and_second true b h = h
and_second false b h = search rules

pub both : (a b : Bool) → a ≡ true → b ≡ true → (a && b) ≡ true
both true b h k = k
both false b h k = h

between-later : (low high : ℕ) (c : List ℕ) → IsBetween (low + 1) high c → IsBetween low high c
between-later low high [] h = tt
between-later low high (k ∷ ks) h = (omega arith, h.1, h.2)

passing_of : (count low : ℕ) (passes : List ℕ → Bool) → some_config count low passes ≡ true → Passing low (low + count) passes
unfolding some_config
passing_of zero low passes h = record { config = []; between = tt; passing = h }
passing_of (suc count) low passes h =
    elim (or_cases _ _ h) [
      | inl without ↦ let p = passing_of count (low + 1) passes without in
          record { config = p.config; between = between-later low _ p.config (subst (λ n. IsBetween (low + 1) n p.config) (omega arith) p.between); passing = p.passing }
      | inr with_low ↦ let p = passing_of count (low + 1) (λ c. passes (low ∷ c)) with_low in
          record { config = low ∷ p.config; between = (omega arith, omega arith, subst (λ n. IsBetween (low + 1) n p.config) (omega arith) p.between); passing = p.passing }
    ]

config_of : (count low : ℕ) (passes : List ℕ → Bool) (c : List ℕ) → IsBetween low (low + count) c → passes c ≡ true → some_config count low passes ≡ true
unfolding some_config
config_of zero low passes [] h p = p
config_of zero low passes (k ∷ ks) h p =
    let low_k : low ≤ k = h.0 in
    let k_low : k < low + 0 = h.1 in
    let no : ⊥ = omega arith in
    absurd no
config_of (suc count) low passes [] h p = or_left _ _ (config_of count (low + 1) passes [] tt p)
config_of (suc count) low passes (k ∷ ks) h p =
    elim (eq-or-lt_of_le h.0) [
      | inl same ↦ or_right _ _ (config_of count (low + 1) (λ c. passes (low ∷ c)) ks
          (subst (λ n. IsBetween (low + 1) n ks) (omega arith) (subst (λ n. IsBetween (n + 1) (low + suc count) ks) (sym same) h.2))
          (subst (λ n. passes (n ∷ ks) ≡ true) (sym same) p))
      | inr later ↦
          let k_high : k < low + suc count = h.1 in
          or_left _ _ (config_of count (low + 1) passes (k ∷ ks) (omega arith, omega arith, subst (λ n. IsBetween (k + 1) n ks) (omega arith) h.2) p)
    ]

-- an admitted configuration that passes is one
pub some_admitted_of : (model : Expr) (passes : List ℕ → Bool) (c : List ℕ) → IsAdmitted model c → passes c ≡ true → some_admitted model passes ≡ true
unfolding some_admitted
some_admitted_of model passes c admitted p =
    config_of feature_limit 0 (λ d. satisfies d model && passes d) c admitted.config.between (both _ _ admitted.model_holds p)

-- where there is one, it is an admitted configuration that passes
pub admitted_of : (model : Expr) (passes : List ℕ → Bool) → some_admitted model passes ≡ true → SomeAdmitted model (λ c. passes c ≡ true)
unfolding some_admitted
admitted_of model passes h =
    let found = passing_of feature_limit 0 (λ d. satisfies d model && passes d) h in
    record {
      config = found.config;
      admitted = record { config = record { between = found.between }; model_holds = and_first _ _ found.passing };
      has = and_second _ _ found.passing;
    }

pub true_or_false : (b : Bool) → (b ≡ true) ⊎ (b ≡ false)
true_or_false true = inl refl
true_or_false false = inr refl

neither : (a b : Bool) → a ≡ false → b ≡ false → (a || b) ≡ false
neither true b h k = search rules
neither false b h k = k

pub not_both : (b : Bool) → b ≡ true → b ≡ false → ⊥
not_both true h k = search rules
not_both false h k = search rules

-- no admitted configuration passes where all fail
pub none_admitted : (model : Expr) (passes : List ℕ → Bool) → ((c : List ℕ) → IsAdmitted model c → passes c ≡ false) → some_admitted model passes ≡ false
none_admitted model passes fails =
    elim (true_or_false (some_admitted model passes)) [
      | inl is_so ↦ let found = admitted_of model passes is_so in absurd (not_both _ found.has (fails found.config found.admitted))
      | inr is_not ↦ is_not
    ]

-- where none passes, each fails
pub each_fails : (model : Expr) (passes : List ℕ → Bool) → some_admitted model passes ≡ false → (c : List ℕ) → IsAdmitted model c → passes c ≡ false
each_fails model passes none c admitted =
    elim (true_or_false (passes c)) [
      | inl is_so ↦ absurd (not_both _ (some_admitted_of model passes c admitted is_so) none)
      | inr is_not ↦ is_not
    ]

-- tests that agree in all admitted configurations have one answer
pub some_admitted_same : (model : Expr) (one other : List ℕ → Bool) → ((c : List ℕ) → IsAdmitted model c → one c ≡ other c) → some_admitted model one ≡ some_admitted model other
some_admitted_same model one other same =
    elim (true_or_false (some_admitted model other)) [
      | inl is_so ↦ let found = admitted_of model other is_so in some_admitted_of model one found.config found.admitted (same found.config found.admitted ∙ found.has) ∙ sym is_so
      | inr is_not ↦ none_admitted model one (λ c admitted. same c admitted ∙ each_fails model other is_not c admitted) ∙ sym is_not
    ]

or_other : (model : Expr) (one other either : List ℕ → Bool) → ((c : List ℕ) → either c ≡ (one c || other c)) → some_admitted model one ≡ false → (some_admitted model other ≡ true) ⊎ (some_admitted model other ≡ false) → some_admitted model either ≡ (some_admitted model one || some_admitted model other)
or_other model one other either is is_not (inl is_so) =
    let found = admitted_of model other is_so in
    some_admitted_of model either found.config found.admitted (is found.config ∙ or_right _ _ found.has) ∙ sym (or_right _ _ is_so)
or_other model one other either is is_not (inr none) =
    none_admitted model either (λ c admitted. is c ∙ neither _ _ (each_fails model one is_not c admitted) (each_fails model other none c admitted)) ∙ sym (neither _ _ is_not none)

-- a test that passes where one of two does
pub some_admitted_or : (model : Expr) (one other either : List ℕ → Bool) → ((c : List ℕ) → either c ≡ (one c || other c)) → some_admitted model either ≡ (some_admitted model one || some_admitted model other)
some_admitted_or model one other either is =
    elim (true_or_false (some_admitted model one)) [
      | inl is_so ↦ let found = admitted_of model one is_so in
          some_admitted_of model either found.config found.admitted (is found.config ∙ or_left _ _ found.has) ∙ sym (or_left _ _ is_so)
      | inr is_not ↦ or_other model one other either is is_not (true_or_false (some_admitted model other))
    ]

-- what `find` tells
pub found_says : (model cond : Expr) (found : Option (List ℕ)) → IfSome found (λ c. IsAdmitted model c) → IfSome found (λ c. satisfies c cond ≡ true) → IfNone found ((c : List ℕ) → IsAdmitted model c → satisfies c cond ≡ false) → is_some found ≡ can_hold model cond
found_says model cond (Some c) admitted holds none = sym (some_admitted_of model (λ d. satisfies d cond) c admitted holds)
found_says model cond None admitted holds none = sym (none_admitted model (λ d. satisfies d cond) none)

-- what `always` tells
pub always_says : (model cond : Expr) (answer : Bool) → (answer ≡ true → (c : List ℕ) → IsAdmitted model c → satisfies c cond ≡ true) → (answer ≡ false → SomeAdmitted model (λ c. satisfies c cond ≡ false)) → answer ≡ always_holds model cond
always_says model cond true all some = sym (ap not (none_admitted model (λ c. not (satisfies c cond)) (λ c admitted. ap not (all refl c admitted))))
always_says model cond false all some =
    let found = some refl in sym (ap not (some_admitted_of model (λ c. not (satisfies c cond)) found.config found.admitted (ap not found.has)))

-- what `exclusive` tells
pub apart_says : (model one other : Expr) (answer : Bool) → (answer ≡ true → (c : List ℕ) → IsAdmitted model c → (satisfies c one && satisfies c other) ≡ false) → (answer ≡ false → SomeAdmitted model (λ c. (satisfies c one && satisfies c other) ≡ true)) → not answer ≡ can_meet model one other
apart_says model one other true none some = sym (none_admitted model (λ c. satisfies c one && satisfies c other) (none refl))
apart_says model one other false none some =
    let found = some refl in sym (some_admitted_of model (λ c. satisfies c one && satisfies c other) found.config found.admitted found.has)
