use Rattle.std.proofs.Common.{[]}
use Rattle.query_answers.proofs.OpeningLaws.{opening_can_answer}
use Rattle.plan_exec_tests.proofs.answered.typed.Goals as goal

pub returns : goal.returns
returns c =
    let opened = c.args.opened.now in
    let is = c.requires.opened in
    opening_can_answer opened.catalog opened.rows opened.model opened.stored.tables [] c.args.query.now c.in_ok-typed.typed is.formed is.filled is.model is.stored c.in_ok-typed.ensures c.requires.free
