use Rattle.std.proofs.Common.{◌≡◌, rules}
use Rattle.asked_conditions.proofs.FoundLaws.{negates}
use Rattle.asked_conditions.proofs.questions.negated.Goals as goal

pub returns : goal.returns
returns c =
    let same : c.in_ok-cond.cond ≡ c.args.cond.now = search rules in
    negates c.args.cond.now c.in_ok-cond.cond c.in_ok-negated.negated same c.in_ok-negated.ensures.meaning
