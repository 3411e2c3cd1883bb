use Rattle.std.proofs.Common.{ap, sym, ◌∙◌, ◌&&◌}
use Rattle.feature_expr.specs.Satisfaction.{satisfies}
use Rattle.query_typing.specs.Steps.{right_reached}
use Rattle.query_typing.specs.declared.form.TwoForm.{TwoForm}
use Rattle.query_typing.proofs.form.right_reach.Goals as goal

pub returns-in_ok-both-in-Choice : goal.returns-in_ok-both-in-Choice
returns-in_ok-both-in-Choice c = λ d. c.in_ok-both-in-Choice.ensures d ∙ ap (λ b. satisfies d c.args.reach.now && b) (c.in_ok-other-in-Choice.ensures.holds d) ∙ ap (λ (f : TwoForm). right_reached d f (satisfies d c.args.reach.now)) (sym c.in-Choice.is)
