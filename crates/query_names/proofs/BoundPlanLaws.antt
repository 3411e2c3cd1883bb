-- Where each number has a value, binding leaves no parameter in a plan.
use Rattle.std.proofs.Common.{◌≡◌, ◌≢◌, ℕ, ◌-◌, ◌<◌, ◌≤◌, ◌==◌, max, length, true, false, if◌then◌else◌, List, Option, Some, None, get_or, slice_get, ◌⊎◌, inl, inr, refl, ◌∙◌, ap, subst, arith}
use Rattle.std.proofs.Math.Nat.{le-max_left, le-max_right}
use Rattle.std.proofs.lemmas.Bool.Decides.{eqb_tells}
use Rattle.std.proofs.lemmas.Option.{slice_get_cases}
use Rattle.query_meaning.specs.Plans.{bound_plan, bound_plan_step, param_in_plan, param_in_plan_step}
use Rattle.query_meaning.specs.declared.plan.Plan.{Plan, map-Plan, roll-Plan}
use Rattle.query_meaning.specs.declared.plan.Plan.TheFolds.{fold-roll-Plan, ind-Plan}
use Rattle.query_meaning.specs.declared.plan.Plan.TheOpen.{Plan-F}
use Rattle.values.specs.declared.value.Value.{Value}
use Rattle.vra_syntax.specs.Binding.{bound_cond, bound_cond_step, bound_operand, bound_param}
use Rattle.vra_syntax.specs.Parameters.{param_in_cond, param_in_cond_step, param_in_operand}
use Rattle.vra_syntax.specs.declared.cond.Cond.{Cond, map-Cond, roll-Cond}
use Rattle.vra_syntax.specs.declared.cond.Cond.TheFolds.{fold-roll-Cond, ind-Cond}
use Rattle.vra_syntax.specs.declared.cond.Cond.TheOpen.{Cond-F}
use Rattle.vra_syntax.specs.declared.cond.Operand.{Operand}
use Rattle.vra_syntax.specs.declared.cond.Operand.TheVariants as operand
use denote.Hole.Carrier

both : (n a b a' b' : ℕ) → (a ≤ n → a' ≡ 0) → (b ≤ n → b' ≡ 0) → max a b ≤ n → max a' b' ≡ 0
both n a b a' b' f g h = rw (f (omega (arith, h, le-max_left a b)), g (omega (arith, h, le-max_right a b))) refl

module _ (values : List Value) where
  valued : (number place : ℕ) → (((x : Value) × (place < length values) × (slice_get values place ≡ Some x) × (get_or values place x ≡ x)) ⊎ ((length values ≤ place) × (slice_get values place ≡ None))) → place < length values → param_in_operand (bound_param number (slice_get values place)) ≡ 0
  valued number place (inl there) h = ap (λ v. param_in_operand (bound_param number v)) there.2
  valued number place (inr past) h = absurd (omega (arith, h, past.0))

  in_param : (number : ℕ) → (((number == 0) ≡ true) × (number ≡ 0)) ⊎ (((number == 0) ≡ false) × (number ≢ 0)) → number ≤ length values → param_in_operand (bound_operand values (operand.Param number)) ≡ 0
  in_param number (inl none) h = ap (λ z. param_in_operand (bound_param number (if z then None else slice_get values (number - 1)))) none.0 ∙ none.1
  in_param number (inr some) h = ap (λ z. param_in_operand (bound_param number (if z then None else slice_get values (number - 1)))) some.0 ∙ valued number (number - 1) (slice_get_cases values (number - 1)).1 (omega (arith, h, some.1))

  in_operand : (one : Operand) → param_in_operand one ≤ length values → param_in_operand (bound_operand values one) ≡ 0
  in_operand (operand.Column name) h = refl
  in_operand (operand.Literal value) h = refl
  in_operand (operand.Param number) h = in_param number (eqb_tells number 0) h

  abbrev InCond : Cond → Type 0
  InCond x = param_in_cond x ≤ length values → param_in_cond (bound_cond values x) ≡ 0

  abbrev greatest_in : Cond-F Cond → ℕ
  greatest_in form = param_in_cond_step (map-Cond Cond ℕ param_in_cond form)

  cond_layer : (form bound : Cond-F Cond) → bound_cond_step values (map-Cond Cond Cond (bound_cond values) form) ≡ roll-Cond bound → (greatest_in form ≤ length values → greatest_in bound ≡ 0) → InCond (roll-Cond form)
  cond_layer form bound is step h =
      ap param_in_cond (fold-roll-Cond Cond (bound_cond_step values) form ∙ is)
      ∙ fold-roll-Cond ℕ param_in_cond_step bound
      ∙ step (subst (λ z. z ≤ length values) (fold-roll-Cond ℕ param_in_cond_step form) h)

  both_conds : (left right : (x : Cond) × InCond x) → max (param_in_cond left.0) (param_in_cond right.0) ≤ length values → max (param_in_cond (bound_cond values left.0)) (param_in_cond (bound_cond values right.0)) ≡ 0
  both_conds left right = both (length values) (param_in_cond left.0) (param_in_cond right.0) (param_in_cond (bound_cond values left.0)) (param_in_cond (bound_cond values right.0)) left.1 right.1

  cond_step : (y : Cond-F ((x : Cond) × InCond x)) → InCond (roll-Cond (map-Cond ((x : Cond) × InCond x) Cond (λ x. x.0) y))
  unfolding roll-Cond Carrier.roll
  cond_step (Cond-F.Cmp left sign right) = cond_layer (Cond-F.Cmp left sign right) (Cond-F.Cmp (bound_operand values left) sign (bound_operand values right)) refl (both (length values) (param_in_operand left) (param_in_operand right) (param_in_operand (bound_operand values left)) (param_in_operand (bound_operand values right)) (in_operand left) (in_operand right))
  cond_step (Cond-F.Not inner) = cond_layer (Cond-F.Not inner.0) (Cond-F.Not (bound_cond values inner.0)) refl inner.1
  cond_step (Cond-F.And left right) = cond_layer (Cond-F.And left.0 right.0) (Cond-F.And (bound_cond values left.0) (bound_cond values right.0)) refl (both_conds left right)
  cond_step (Cond-F.Or left right) = cond_layer (Cond-F.Or left.0 right.0) (Cond-F.Or (bound_cond values left.0) (bound_cond values right.0)) refl (both_conds left right)
  cond_step (Cond-F.Choice expr left right) = cond_layer (Cond-F.Choice expr left.0 right.0) (Cond-F.Choice expr (bound_cond values left.0) (bound_cond values right.0)) refl (both_conds left right)
  cond_step Cond-F.True = cond_layer Cond-F.True Cond-F.True refl (λ h. refl)
  cond_step Cond-F.False = cond_layer Cond-F.False Cond-F.False refl (λ h. refl)

  in_cond : (x : Cond) → InCond x
  in_cond = ind-Cond InCond (λ x y is. subst (λ z. InCond (roll-Cond z)) is (cond_step y))

  abbrev In : Plan → Type 0
  In p = param_in_plan p ≤ length values → param_in_plan (bound_plan values p) ≡ 0

  abbrev greatest : Plan-F Plan → ℕ
  greatest form = param_in_plan_step (map-Plan Plan ℕ param_in_plan form)

  -- one layer: what binding makes of it, rolled again
  layer : (form bound : Plan-F Plan) → bound_plan_step values (map-Plan Plan Plan (bound_plan values) form) ≡ roll-Plan bound → (greatest form ≤ length values → greatest bound ≡ 0) → In (roll-Plan form)
  layer form bound is step h =
      ap param_in_plan (fold-roll-Plan Plan (bound_plan_step values) form ∙ is)
      ∙ fold-roll-Plan ℕ param_in_plan_step bound
      ∙ step (subst (λ z. z ≤ length values) (fold-roll-Plan ℕ param_in_plan_step form) h)

  both_plans : (left right : (p : Plan) × In p) → max (param_in_plan left.0) (param_in_plan right.0) ≤ length values → max (param_in_plan (bound_plan values left.0)) (param_in_plan (bound_plan values right.0)) ≡ 0
  both_plans left right = both (length values) (param_in_plan left.0) (param_in_plan right.0) (param_in_plan (bound_plan values left.0)) (param_in_plan (bound_plan values right.0)) left.1 right.1

  plan_step : (y : Plan-F ((p : Plan) × In p)) → In (roll-Plan (map-Plan ((p : Plan) × In p) Plan (λ x. x.0) y))
  unfolding roll-Plan Carrier.roll
  plan_step (Plan-F.Scan table) = layer (Plan-F.Scan table) (Plan-F.Scan table) refl (λ h. refl)
  plan_step (Plan-F.Filter source x) = layer (Plan-F.Filter source.0 x) (Plan-F.Filter (bound_plan values source.0) (bound_cond values x)) refl (both (length values) (param_in_plan source.0) (param_in_cond x) (param_in_plan (bound_plan values source.0)) (param_in_cond (bound_cond values x)) source.1 (in_cond x))
  plan_step (Plan-F.Keep source items) = layer (Plan-F.Keep source.0 items) (Plan-F.Keep (bound_plan values source.0) items) refl source.1
  plan_step (Plan-F.Join left right x) = layer (Plan-F.Join left.0 right.0 x) (Plan-F.Join (bound_plan values left.0) (bound_plan values right.0) (bound_cond values x)) refl (both (length values) (max (param_in_plan left.0) (param_in_plan right.0)) (param_in_cond x) (max (param_in_plan (bound_plan values left.0)) (param_in_plan (bound_plan values right.0))) (param_in_cond (bound_cond values x)) (both_plans left right) (in_cond x))
  plan_step (Plan-F.Union left right) = layer (Plan-F.Union left.0 right.0) (Plan-F.Union (bound_plan values left.0) (bound_plan values right.0)) refl (both_plans left right)
  plan_step (Plan-F.Except left right) = layer (Plan-F.Except left.0 right.0) (Plan-F.Except (bound_plan values left.0) (bound_plan values right.0)) refl (both_plans left right)
  plan_step (Plan-F.Rename source name) = layer (Plan-F.Rename source.0 name) (Plan-F.Rename (bound_plan values source.0) name) refl source.1
  plan_step (Plan-F.Choose expr left right) = layer (Plan-F.Choose expr left.0 right.0) (Plan-F.Choose expr (bound_plan values left.0) (bound_plan values right.0)) refl (both_plans left right)
  plan_step Plan-F.Nothing = layer Plan-F.Nothing Plan-F.Nothing refl (λ h. refl)

  pub no_parameter_left : (p : Plan) → In p
  no_parameter_left = ind-Plan In (λ x y is. subst (λ z. In (roll-Plan z)) is (plan_step y))
