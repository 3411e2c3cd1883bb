use Rattle.std.proofs.Common.{◌≡◌, ◌≤◌, [], ◌∙◌, arith, refl, rules, subst, sym}
use Rattle.std.proofs.lemmas.Result.{err_from_is_err_and}
use Rattle.std.specs.Option.{option_copied}
use Rattle.feature_expr.specs.declared.expr.Expr.{Expr}
use Rattle.query_meaning.specs.PlainTypes.{typed_part}
use Rattle.query_typing.specs.Bounded.{StandBounded}
use Rattle.query_typing.specs.Parts.{PartFails, PartIs, Standing, TwoFails, TwoIs, one_typed, plain_part}
use Rattle.query_typing.specs.Steps.{depth_of, leaf_query}
use Rattle.query_typing.specs.declared.form.Form.{Form}
use Rattle.query_typing.specs.declared.form.Form.TheVariants as form
use Rattle.query_typing.proofs.BoundLaws.{bounded_begins, bounded_ends, one_goes, two_goes}
use Rattle.query_typing.proofs.StepLaws.{begins_below, goes_below}
use Rattle.query_typing.proofs.WalkLaws.{begins, ends, one_refused, one_stands, right_refused, two_refused, two_stands}
use Rattle.query_typing.proofs.walk.+type_part.Goals as goal
use Rattle.query_typing.proofs.walk.+type_part.Goals.{in-One+in_ok-columns-in-One, in-Two+in_ok-inside-in-Two+in_ok-right-in-Two+in_ok-columns-in-Two}
use Rattle.vra_syntax.specs.declared.query.Query.{size-Query}

pub loop-step-init : goal.loop-step-init
loop-step-init t c = record {
  same = refl;
  stands = begins c.args.questions.now c.args.kinds.now c.args.tables.now.tables.now c.args.reach c.in_ok-steps.field-0.reach c.in_ok-steps.field-0.steps.items (option_copied c.in_ok-steps.field-0.leaf) c.args.query.now c.in_ok-columns.columns c.in_ok-steps.ensures.whole c.in_ok-steps.ensures.reached c.in_ok-columns.ensures.exact;
  bounded = bounded_begins c.args.tables.now.tables.now c.in_ok-steps.field-0.steps.items (leaf_query (option_copied c.in_ok-steps.field-0.leaf)) c.args.query.now c.in_ok-columns.columns c.in_ok-steps.ensures.whole c.in_ok-columns.ensures.bounded;
  below = begins_below c.in_ok-steps.field-0.steps.items (leaf_query (option_copied c.in_ok-steps.field-0.leaf)) c.args.query.now c.in_ok-steps.ensures.whole;
}

pub returns-in_err-columns-in-One-clause-err : goal.returns-in_err-columns-in-One-clause-err
returns-in_err-columns-in-One-clause-err t c =
    let p = err_from_is_err_and c.from_residual-in_err-columns-in-One.result c.from_residual-in_err-columns-in-One.ensures.1 in
    rw (p.1, p.2) (one_refused c.args.questions.now c.args.kinds.now c.args.tables.now.tables.now c.args.reach c.args.query.now c.pop.new.self.items c.loop-step.steps.items c.in-Some.step c.loop-step.columns c.in-Some.ensures.items c.loop-step.invariant.stands c.in-One.form c.in_err-columns-in-One.field-0.0 c.in-One.is
    (subst (λ (m : Expr). PartFails m c.in-Some.step.reach (λ d. one_typed d c.args.kinds.now c.in-One.form (plain_part c.loop-step.columns d)) c.in_err-columns-in-One.field-0.0) c.loop-step.invariant.same c.in_err-columns-in-One.ensures.err))

pub type_part-requires : goal.type_part-requires
type_part-requires t c =
    let b = goes_below c.pop.new.self.items c.loop-step.steps.items c.in-Some.step (size-Query c.args.query.now) c.in-Some.ensures.items c.loop-step.invariant.below in
    let d : depth_of (form.Two c.in-Two.form c.in-Two.right) ≤ size-Query c.args.query.now = subst (λ (f : Form). depth_of f ≤ size-Query c.args.query.now) c.in-Two.is b.1 in
    (omega (arith, d, c.decreases), tt)

pub returns-in_err-right-in-Two-clause-err : goal.returns-in_err-right-in-Two-clause-err
returns-in_err-right-in-Two-clause-err t c =
    let p = err_from_is_err_and c.from_residual-in_err-right-in-Two.result c.from_residual-in_err-right-in-Two.ensures.1 in
    rw (p.1, p.2) (right_refused c.args.questions.now c.args.kinds.now c.args.tables.now.tables.now c.args.reach c.args.query.now c.pop.new.self.items c.loop-step.steps.items c.in-Some.step c.loop-step.columns c.in-Some.ensures.items c.loop-step.invariant.stands c.in-Two.form c.in-Two.right c.in_ok-inside-in-Two.inside c.in-Two.is c.in_ok-inside-in-Two.ensures c.in_err-right-in-Two.field-0.0
    (subst (λ (m : Expr). PartFails m c.in_ok-inside-in-Two.inside (λ d. typed_part d c.args.kinds.now c.args.tables.now.tables.now c.in-Two.right.now) c.in_err-right-in-Two.field-0.0) c.loop-step.invariant.same c.in_err-right-in-Two.ensures.err))

pub returns-in_err-columns-in-Two-clause-err : goal.returns-in_err-columns-in-Two-clause-err
returns-in_err-columns-in-Two-clause-err t c =
    let p = err_from_is_err_and c.from_residual-in_err-columns-in-Two.result c.from_residual-in_err-columns-in-Two.ensures.1 in
    rw (p.1, p.2) (two_refused c.args.questions.now c.args.kinds.now c.args.tables.now.tables.now c.args.reach c.args.query.now c.pop.new.self.items c.loop-step.steps.items c.in-Some.step c.loop-step.columns c.in-Some.ensures.items c.loop-step.invariant.stands c.in-Two.form c.in-Two.right c.in_ok-inside-in-Two.inside c.in-Two.is c.in_ok-inside-in-Two.ensures c.in_ok-right-in-Two.right c.in_err-columns-in-Two.field-0.0
    (subst (λ (m : Expr). PartIs m c.in_ok-inside-in-Two.inside (λ d. typed_part d c.args.kinds.now c.args.tables.now.tables.now c.in-Two.right.now) c.in_ok-right-in-Two.right) c.loop-step.invariant.same c.in_ok-right-in-Two.ensures.ok)
    (subst (λ (m : Expr). TwoFails m c.in-Some.step.reach c.args.kinds.now c.in-Two.form c.loop-step.columns c.in_ok-right-in-Two.right c.in_err-columns-in-Two.field-0.0) (c.in_ok-right-in-Two.ensures.same ∙ c.loop-step.invariant.same) c.in_err-columns-in-Two.ensures.err))

pub loop-step-preserved : goal.loop-step-preserved
loop-step-preserved t c =
    elim c.match-step.branch [
      | in-One+in_ok-columns-in-One w ↦ record {
        same = w.questions-is ∙ w.in_ok-columns-in-One.ensures.same ∙ c.loop-step.invariant.same;
        stands = subst (Standing c.args.questions.now c.args.kinds.now c.args.tables.now.tables.now c.args.reach c.args.query.now c.pop.new.self.items) (sym w.columns-is)
            (one_stands c.args.questions.now c.args.kinds.now c.args.tables.now.tables.now c.args.reach c.args.query.now c.pop.new.self.items c.loop-step.steps.items c.in-Some.step c.loop-step.columns c.in-Some.ensures.items c.loop-step.invariant.stands w.in-One.form w.in_ok-columns-in-One.columns w.in-One.is
            (subst (λ (m : Expr). PartIs m c.in-Some.step.reach (λ d. one_typed d c.args.kinds.now w.in-One.form (plain_part c.loop-step.columns d)) w.in_ok-columns-in-One.columns) c.loop-step.invariant.same w.in_ok-columns-in-One.ensures.ok));
        bounded = subst (StandBounded c.args.tables.now.tables.now c.args.query.now c.pop.new.self.items) (sym w.columns-is)
            (one_goes c.args.tables.now.tables.now c.args.query.now c.pop.new.self.items c.loop-step.steps.items c.in-Some.step c.loop-step.columns c.in-Some.ensures.items c.loop-step.invariant.bounded w.in-One.form w.in_ok-columns-in-One.columns w.in-One.is w.in_ok-columns-in-One.ensures.made);
        below = (goes_below c.pop.new.self.items c.loop-step.steps.items c.in-Some.step (size-Query c.args.query.now) c.in-Some.ensures.items c.loop-step.invariant.below).0;
      }
      | in-Two+in_ok-inside-in-Two+in_ok-right-in-Two+in_ok-columns-in-Two w ↦ record {
        same = w.questions-is ∙ w.in_ok-columns-in-Two.ensures.same ∙ w.in_ok-right-in-Two.ensures.same ∙ c.loop-step.invariant.same;
        stands = subst (Standing c.args.questions.now c.args.kinds.now c.args.tables.now.tables.now c.args.reach c.args.query.now c.pop.new.self.items) (sym w.columns-is)
            (two_stands c.args.questions.now c.args.kinds.now c.args.tables.now.tables.now c.args.reach c.args.query.now c.pop.new.self.items c.loop-step.steps.items c.in-Some.step c.loop-step.columns c.in-Some.ensures.items c.loop-step.invariant.stands w.in-Two.form w.in-Two.right w.in_ok-inside-in-Two.inside w.in-Two.is w.in_ok-inside-in-Two.ensures w.in_ok-right-in-Two.right w.in_ok-columns-in-Two.columns
            (subst (λ (m : Expr). PartIs m w.in_ok-inside-in-Two.inside (λ d. typed_part d c.args.kinds.now c.args.tables.now.tables.now w.in-Two.right.now) w.in_ok-right-in-Two.right) c.loop-step.invariant.same w.in_ok-right-in-Two.ensures.ok)
            (subst (λ (m : Expr). TwoIs m c.in-Some.step.reach c.args.kinds.now w.in-Two.form c.loop-step.columns w.in_ok-right-in-Two.right w.in_ok-columns-in-Two.columns) (w.in_ok-right-in-Two.ensures.same ∙ c.loop-step.invariant.same) w.in_ok-columns-in-Two.ensures.ok));
        bounded = subst (StandBounded c.args.tables.now.tables.now c.args.query.now c.pop.new.self.items) (sym w.columns-is)
            (two_goes c.args.tables.now.tables.now c.args.query.now c.pop.new.self.items c.loop-step.steps.items c.in-Some.step c.loop-step.columns c.in-Some.ensures.items c.loop-step.invariant.bounded w.in-Two.form w.in-Two.right w.in_ok-right-in-Two.right w.in_ok-columns-in-Two.columns w.in-Two.is w.in_ok-right-in-Two.ensures.bounded w.in_ok-columns-in-Two.ensures.made);
        below = (goes_below c.pop.new.self.items c.loop-step.steps.items c.in-Some.step (size-Query c.args.query.now) c.in-Some.ensures.items c.loop-step.invariant.below).0;
      }
    ]

pub returns-clause-ok : goal.returns-clause-ok
returns-clause-ok t c =
    let empty : c.loop-step.steps.items ≡ [] = search rules in
    ends c.args.questions.now c.args.kinds.now c.args.tables.now.tables.now c.args.reach c.args.query.now c.loop-step.steps.items c.loop-step.columns empty c.loop-step.invariant.stands

pub returns-clause-bounded : goal.returns-clause-bounded
returns-clause-bounded t c =
    let empty : c.loop-step.steps.items ≡ [] = search rules in
    bounded_ends c.args.tables.now.tables.now c.args.query.now c.loop-step.steps.items c.loop-step.columns empty c.loop-step.invariant.bounded
