use Rattle.condition_sat.proofs.Found.{occurring_alone}
use Rattle.condition_sat.proofs.model.Model.find.Goals as goal

pub returns-clause-occurring : goal.returns-clause-occurring
returns-clause-occurring c = occurring_alone _ _ _ _ c.wanted.ensures.expr c.meeting.ensures.some
