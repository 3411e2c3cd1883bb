use Rattle.query_typing.proofs.PlanLaws.{plan_is}
use Rattle.query_typing.proofs.query.planned.Goals as goal

-- src/query.rt
pub returns-clause-plan : goal.returns-clause-plan
returns-clause-plan c = let laws = c.query_laws.ensures in plan_is _ _ _ c.in_ok-plan.ensures.plan laws.means laws.possible laws.bounds laws.sound
