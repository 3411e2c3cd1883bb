use Rattle.std.proofs.Common.{sym, ◌∙◌}
use Rattle.query_answers.proofs.SimplerLaws.{simplified_is}
use Rattle.query_answers.proofs.simpler.newly_simplified.Goals as goal

pub returns-clause-is : goal.returns-clause-is
returns-clause-is c =
    let it = c.in_ok-after.ensures in
    simplified_is c.in_ok-before.before c.in_ok-copied.copied c.in_ok-after.after (c.in_ok-copied.ensures ∙ sym c.in_ok-before.ensures) it.meaning it.weight it.features
