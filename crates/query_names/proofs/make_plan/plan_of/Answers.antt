use Rattle.query_names.proofs.ScanLaws.{plan_known}
use Rattle.query_names.proofs.make_plan.plan_of.Goals as goal

pub returns-clause-known : goal.returns-clause-known
returns-clause-known c = plan_known c.args.tables.now.tables.now c.args.query.now c.in_ok-plan.plan c.in_ok-plan.ensures
