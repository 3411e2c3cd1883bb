use Rattle.std.proofs.Common.{ap, sym, ◌∙◌}
use Rattle.feature_expr.specs.Satisfaction.{satisfies}
use Rattle.query_typing.specs.Steps.{chosen_reached}
use Rattle.query_typing.specs.declared.form.TwoForm.{TwoForm}
use Rattle.query_typing.proofs.form.chosen_reach.Goals as goal

pub returns-in_ok-both-in-Choice : goal.returns-in_ok-both-in-Choice
returns-in_ok-both-in-Choice c = λ d. c.in_ok-both-in-Choice.ensures d ∙ ap (λ (f : TwoForm). chosen_reached d f (satisfies d c.args.reach.now)) (sym c.in-Choice.is)
