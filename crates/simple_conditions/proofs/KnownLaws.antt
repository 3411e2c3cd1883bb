-- What is known, as it grows, and what can't be beside it.
use Rattle.std.proofs.Common.{◌≡◌, ℕ, ◌==◌, ◌||◌, Bool, true, false, not, List, inl, inr, refl, sym, ◌∙◌, ap}
use Rattle.std.proofs.lemmas.Bool.Decides.{eqb_tells}
use Rattle.feature_expr.specs.Config.{has_feature}
use Rattle.feature_expr.specs.Satisfaction.{satisfies}
use Rattle.feature_expr.specs.declared.expr.Expr.{Expr}
use Rattle.simple_conditions.specs.Known.{Fits, FitsBeside, Has}
use Rattle.simple_conditions.specs.declared.literals.Literals.{Literals}

one_more : (c old : List ℕ) (f i : ℕ) (value : Bool) → (has_feature old i ≡ true → has_feature c i ≡ value) → has_feature c f ≡ value → (i == f || has_feature old i) ≡ true → has_feature c i ≡ value
one_more c old f i value before here h = elim (eqb_tells i f) [ inl same ↦ ap (has_feature c) same.1 ∙ here | inr other ↦ before (sym (ap (λ b. b || has_feature old i) other.0) ∙ h) ]

-- one feature more of a value
pub with_feature : (c old new : List ℕ) (f : ℕ) (value : Bool) → ((i : ℕ) → has_feature new i ≡ (i == f || has_feature old i)) → ((i : ℕ) → has_feature old i ≡ true → has_feature c i ≡ value) → has_feature c f ≡ value → (i : ℕ) → has_feature new i ≡ true → has_feature c i ≡ value
with_feature c old new f value is before here i h = one_more c old f i value (before i) here (sym (is i) ∙ h)

refuted : (b value : Bool) → (b ≡ value → ⊥) → b ≡ not value
refuted true true other = absurd (other refl)
refuted true false other = refl
refuted false true other = refl
refuted false false other = absurd (other refl)

opposite : (b : Bool) → b ≡ true → b ≡ false → ⊥
opposite true h g = absurd (cc g)
opposite false h g = absurd (cc h)

-- an expression whose value would make what holds fail
pub not_with_held : (c : List ℕ) (x holds fails : Expr) (value : Bool) (literals more : Literals) → Fits literals holds fails c → (Has c literals → satisfies c x ≡ value → Has c more) → (Has c more → satisfies c holds ≡ false) → satisfies c x ≡ not value
not_with_held c x holds fails value literals more fits has never = refuted (satisfies c x) value (λ is. opposite (satisfies c holds) fits.held (never (has fits.has is)))

-- or what fails hold
pub not_with_failed : (c : List ℕ) (x holds fails : Expr) (value : Bool) (literals more : Literals) → Fits literals holds fails c → (Has c literals → satisfies c x ≡ value → Has c more) → (Has c more → satisfies c fails ≡ true) → satisfies c x ≡ not value
not_with_failed c x holds fails value literals more fits has always = refuted (satisfies c x) value (λ is. opposite (satisfies c fails) (always (has fits.has is)) fits.failed)

-- a link of what is known to have the other value
pub not_as_link : (c : List ℕ) (x chain : Expr) (value : Bool) → (satisfies c x ≡ value → satisfies c chain ≡ value) → satisfies c chain ≡ not value → satisfies c x ≡ not value
not_as_link c x chain true link other = refuted (satisfies c x) true (λ is. opposite (satisfies c chain) (link is) other)
not_as_link c x chain false link other = refuted (satisfies c x) false (λ is. opposite (satisfies c chain) other (link is))

-- what is known beside links
pub with_literals : (c : List ℕ) (literals more : Literals) (holds fails links : Expr) (all : Bool) → (Has c literals → satisfies c links ≡ all → Has c more) → FitsBeside literals holds fails all links c → Fits more holds fails c
with_literals c literals more holds fails links all has it = record { has = has it.fits.has it.beside; held = it.fits.held; failed = it.fits.failed }

pub with_held : (c : List ℕ) (literals more : Literals) (holds fails links : Expr) (all : Bool) → all ≡ true → (Has c literals → satisfies c links ≡ all → Has c more) → FitsBeside literals holds fails all links c → Fits more links fails c
with_held c literals more holds fails links all is has it = record { has = has it.fits.has it.beside; held = it.beside ∙ is; failed = it.fits.failed }

pub with_failed : (c : List ℕ) (literals more : Literals) (holds fails links : Expr) (all : Bool) → all ≡ false → (Has c literals → satisfies c links ≡ all → Has c more) → FitsBeside literals holds fails all links c → Fits more holds links c
with_failed c literals more holds fails links all is has it = record { has = has it.fits.has it.beside; held = it.fits.held; failed = it.beside ∙ is }
