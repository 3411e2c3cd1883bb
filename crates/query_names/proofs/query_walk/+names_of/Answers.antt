use Rattle.std.proofs.Common.{[], ◌∷◌, ◌++◌, ◌∙◌, ap, arith, refl}
use Rattle.std.proofs.lemmas.Result.{err_from_is_err_and}
use Rattle.std.specs.Option.{option_copied}
use Rattle.vra_syntax.specs.declared.query.Query.{size-Query}
use Rattle.query_meaning.specs.Names.{names_of}
use Rattle.query_names.specs.NameSteps.{leaf_query, two_named}
use Rattle.query_names.specs.Parts.{said}
use Rattle.query_names.specs.declared.name_steps.NameStep.{NameStep}
use Rattle.query_names.specs.declared.name_steps.NameStep.TheVariants as step
use Rattle.query_names.proofs.NameStepLaws.{begins, begins_below, begins_wide, goes_on, goes_wide, goes_below, right_goes_wide, right_said}
use Rattle.query_names.proofs.query_walk.+names_of.Goals as goal

pub returns-in_err-names-clause-err : goal.returns-in_err-names-clause-err
returns-in_err-names-clause-err t c =
    let p = err_from_is_err_and c.from_residual-in_err-names.result c.from_residual-in_err-names.ensures.1 in
    rw (p.1, p.2) (begins_wide c.args.tables.now.tables.now c.in_ok-steps.steps.items (leaf_query (option_copied c.in_ok-steps.leaf)) c.args.query.now c.in_err-names.field-0.0 c.in_ok-steps.ensures c.in_err-names.ensures.err)

pub loop-step-init : goal.loop-step-init
loop-step-init t c = record {
  whole = begins c.args.tables.now.tables.now c.in_ok-steps.steps.items (leaf_query (option_copied c.in_ok-steps.leaf)) c.args.query.now (said c.in_ok-names.names) c.in_ok-steps.ensures c.in_ok-names.ensures.ok;
  below = begins_below c.in_ok-steps.steps.items (leaf_query (option_copied c.in_ok-steps.leaf)) c.args.query.now c.in_ok-steps.ensures;
}

pub returns-in_err-names-in-One-clause-err : goal.returns-in_err-names-in-One-clause-err
returns-in_err-names-in-One-clause-err t c =
    let p = err_from_is_err_and c.from_residual-in_err-names-in-One.result c.from_residual-in_err-names-in-One.ensures.1 in
    rw (p.1, p.2) (goes_wide c.args.tables.now.tables.now c.pop.new.self.items c.loop-step.steps.items (step.One c.in-One.form) (said c.loop-step.names) (names_of c.args.tables.now.tables.now c.args.query.now) c.in_err-names-in-One.field-0.0 (c.in-Some.ensures.items ∙ ap (λ (s : NameStep). c.pop.new.self.items ++ s ∷ []) c.in-One.is) c.loop-step.invariant.whole c.in_err-names-in-One.ensures.err)

pub names_of-requires : goal.names_of-requires
names_of-requires t c =
    let b = goes_below c.pop.new.self.items c.loop-step.steps.items (step.Two c.in-Two.form c.in-Two.right) (size-Query c.args.query.now) (c.in-Some.ensures.items ∙ ap (λ (s : NameStep). c.pop.new.self.items ++ s ∷ []) c.in-Two.is) c.loop-step.invariant.below in
    (omega (arith, b.1, c.decreases), tt)

pub returns-in_err-right-in-Two-clause-err : goal.returns-in_err-right-in-Two-clause-err
returns-in_err-right-in-Two-clause-err t c =
    let p = err_from_is_err_and c.from_residual-in_err-right-in-Two.result c.from_residual-in_err-right-in-Two.ensures.1 in
    rw (p.1, p.2) (right_goes_wide c.args.tables.now.tables.now c.pop.new.self.items c.loop-step.steps.items c.in-Two.form c.in-Two.right (said c.loop-step.names) (names_of c.args.tables.now.tables.now c.args.query.now) c.in_err-right-in-Two.field-0.0 (c.in-Some.ensures.items ∙ ap (λ (s : NameStep). c.pop.new.self.items ++ s ∷ []) c.in-Two.is) c.loop-step.invariant.whole refl c.in_err-right-in-Two.ensures.err)

pub returns-in_err-names-in-Two-clause-err : goal.returns-in_err-names-in-Two-clause-err
returns-in_err-names-in-Two-clause-err t c =
    let p = err_from_is_err_and c.from_residual-in_err-names-in-Two.result c.from_residual-in_err-names-in-Two.ensures.1 in
    rw (p.1, p.2) (goes_wide c.args.tables.now.tables.now c.pop.new.self.items c.loop-step.steps.items (step.Two c.in-Two.form c.in-Two.right) (said c.loop-step.names) (names_of c.args.tables.now.tables.now c.args.query.now) c.in_err-names-in-Two.field-0.0 (c.in-Some.ensures.items ∙ ap (λ (s : NameStep). c.pop.new.self.items ++ s ∷ []) c.in-Two.is) c.loop-step.invariant.whole (right_said c.in-Two.form (said c.loop-step.names) (said c.in_ok-right-in-Two.right) _ c.in_err-names-in-Two.field-0.0 c.in_ok-right-in-Two.ensures.ok c.in_err-names-in-Two.ensures.err))

pub loop-step-preserved-in_ok-names-in-One : goal.loop-step-preserved-in_ok-names-in-One
loop-step-preserved-in_ok-names-in-One t c =
    let popped = c.in-Some.ensures.items ∙ ap (λ (s : NameStep). c.pop.new.self.items ++ s ∷ []) c.in-One.is in
    record {
      whole = goes_on c.args.tables.now.tables.now c.pop.new.self.items c.loop-step.steps.items (step.One c.in-One.form) (said c.loop-step.names) (said c.in_ok-names-in-One.names) _ popped c.loop-step.invariant.whole c.in_ok-names-in-One.ensures.ok;
      below = (goes_below c.pop.new.self.items c.loop-step.steps.items (step.One c.in-One.form) (size-Query c.args.query.now) popped c.loop-step.invariant.below).0;
    }

pub loop-step-preserved : goal.loop-step-preserved
loop-step-preserved t c =
    let popped = c.in-Some.ensures.items ∙ ap (λ (s : NameStep). c.pop.new.self.items ++ s ∷ []) c.in-Two.is in
    record {
      whole = goes_on c.args.tables.now.tables.now c.pop.new.self.items c.loop-step.steps.items (step.Two c.in-Two.form c.in-Two.right) (said c.loop-step.names) (said c.in_ok-names-in-Two.names) _ popped c.loop-step.invariant.whole (c.in_ok-names-in-Two.ensures.ok ∙ ap (two_named c.in-Two.form (said c.loop-step.names)) c.in_ok-right-in-Two.ensures.ok);
      below = (goes_below c.pop.new.self.items c.loop-step.steps.items (step.Two c.in-Two.form c.in-Two.right) (size-Query c.args.query.now) popped c.loop-step.invariant.below).0;
    }
