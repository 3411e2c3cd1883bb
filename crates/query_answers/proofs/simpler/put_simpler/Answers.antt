use Rattle.query_answers.proofs.SimplerLaws.{put_simplified}
use Rattle.query_answers.proofs.simpler.put_simpler.Goals as goal

pub returns-clause-put : goal.returns-clause-put
returns-clause-put c = put_simplified _ _ c.args.row c.in_ok-simpler.simpler.before c.in_ok-simpler.simpler.after c.in_ok-cond.cond c.in_ok-simpler.ensures.before c.in_ok-cond.ensures c.in_ok-simpler.ensures.is c.in_ok-push-2.ensures.items
