use Rattle.std.proofs.Common.{subst, sym}
use Rattle.query_meaning.specs.Typing.{IsTyped}
use Rattle.query_typing.proofs.PlanLaws.{is_typed}
use Rattle.query_typing.proofs.query.type_query.Goals as goal

pub returns-in-Ok-with_plan-clause-ok : goal.returns-in-Ok-with_plan-clause-ok
returns-in-Ok-with_plan-clause-ok c =
    subst (λ columns. IsTyped c.args.questions.now c.args.kinds.now c.args.tables.now.tables.now c.args.query.now columns c.in-Ok-with_plan.typed.plan) (sym c.in-Ok-with_plan.ensures.columns)
    (is_typed c.args.questions.now c.args.kinds.now c.args.tables.now.tables.now c.args.query.now c.in-Ok.columns c.in-Ok-with_plan.typed.plan c.in-Ok.ensures.named c.in-Ok.ensures.narrow c.in-Ok.ensures.exact c.in-Ok.ensures.settled c.in-Ok.ensures.ordered c.in-Ok.ensures.weight c.in-Ok.ensures.features c.in-Ok-with_plan.ensures.plan)
