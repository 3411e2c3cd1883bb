use Rattle.std.proofs.Common.{sym, ◌∙◌}
use Rattle.feature_expr.specs.SameLaws.{other_expr}
use Rattle.feature_expr.proofs.same.+have_same_nodes.Goals as goal

pub returns-in_default : goal.returns-in_default
returns-in_default t c = other_expr c.loop-one.one.now c.loop-one.other.now (λ same. c.in_default.not-True-1 (sym same ∙ c.in_default.is-0)) ∙ c.loop-one.invariant.0

pub returns-in_default-2 : goal.returns-in_default-2
returns-in_default-2 t c = other_expr c.loop-one.one.now c.loop-one.other.now (λ same. c.in_default.not-False-1 (sym same ∙ c.in_default.is-0)) ∙ c.loop-one.invariant.0

pub returns-in_default-3 : goal.returns-in_default-3
returns-in_default-3 t c = other_expr c.loop-one.one.now c.loop-one.other.now (λ same. c.in_default.not-Feature-1 _ (sym same ∙ c.in_default.is-0)) ∙ c.loop-one.invariant.0

pub returns-in_default-4 : goal.returns-in_default-4
returns-in_default-4 t c = other_expr c.loop-one.one.now c.loop-one.other.now (λ same. c.in_default.not-Not-1 _ (sym same ∙ c.in_default.is-0)) ∙ c.loop-one.invariant.0

pub returns-in_default-5 : goal.returns-in_default-5
returns-in_default-5 t c = other_expr c.loop-one.one.now c.loop-one.other.now (λ same. c.in_default.not-And-1 _ _ (sym same ∙ c.in_default.is-0)) ∙ c.loop-one.invariant.0

pub returns-in_default-6 : goal.returns-in_default-6
returns-in_default-6 t c = other_expr c.loop-one.one.now c.loop-one.other.now (λ same. c.in_default.not-Or-1 _ _ (sym same ∙ c.in_default.is-0)) ∙ c.loop-one.invariant.0
