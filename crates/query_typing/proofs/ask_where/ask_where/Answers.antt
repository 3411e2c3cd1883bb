use Rattle.std.proofs.lemmas.Result.{err_from_is_err_and}
use Rattle.query_meaning.specs.Typing.{columns_at}
use Rattle.query_typing.specs.Faults.{faults_at}
use Rattle.query_typing.proofs.WhereLaws.{asked_where, refused_where}
use Rattle.query_typing.proofs.ask_where.ask_where.Goals as goal

pub returns-in_err-ask-clause-err : goal.returns-in_err-ask-clause-err
returns-in_err-ask-clause-err c =
    let p = err_from_is_err_and c.from_residual-in_err-ask.result c.from_residual-in_err-ask.ensures.1 in
    rw (p.1, p.2) (refused_where c.args.questions.now c.args.reach.now c.in_ok-present.present c.in_ok-both.both (λ d. columns_at d c.args.columns.now) (λ d. faults_at d c.args.faults.now) c.in_err-ask.field-0.0 c.in_ok-present.ensures.holds c.in_ok-both.ensures c.in_err-ask.ensures.err)

pub returns-clause-ok : goal.returns-clause-ok
returns-clause-ok c = asked_where c.args.questions.now c.args.reach.now c.in_ok-present.present c.in_ok-both.both (λ d. columns_at d c.args.columns.now) (λ d. faults_at d c.args.faults.now) c.in_ok-present.ensures.holds c.in_ok-both.ensures c.in_ok-ask.ensures.ok
