use Rattle.std.proofs.Common.{◌∙◌, Some, ap}
use Rattle.std.proofs.lemmas.Result.{err_from_is_err_and}
use Rattle.query_meaning.specs.Typing.{columns_at}
use Rattle.query_meaning.specs.WriteTyping.{acts, write_cases_in}
use Rattle.query_typing.specs.Faults.{faults_at}
use Rattle.write_typing.proofs.ActingLaws.{asked_acting, none_acting, refused_acting, where_it_acts}
use Rattle.write_typing.proofs.acting.ask_acting.Goals as goal

pub returns-in_err-ask-clause-err : goal.returns-in_err-ask-clause-err
returns-in_err-ask-clause-err c =
    let p = err_from_is_err_and c.from_residual-in_err-ask.result c.from_residual-in_err-ask.ensures.1 in
    rw (p.1, p.2) (refused_acting c.args.questions.now c.in_ok-acts.acts (λ d. acts d c.args.table.now c.args.write.now) (λ d. faults_at d c.as_slice-2.result.now) (λ d. write_cases_in d c.args.kinds.now (Some c.args.table.now) c.args.write.now) c.in_err-ask.field-0.0
    (λ d. where_it_acts d c.args.table.now c.args.write.now _ _ c.expr_of.ensures c.in_ok-acts.ensures)
    (λ d. asked_acting d c.args.kinds.now c.args.table.now c.args.write.now _ _ (ap (columns_at d) c.as_slice.ensures.value ∙ c.in_ok-columns.ensures.there d) (ap (faults_at d) c.as_slice-2.ensures.value ∙ c.in_ok-faults.ensures d))
    c.in_err-ask.ensures.err)

pub returns-clause-ok : goal.returns-clause-ok
returns-clause-ok c = none_acting c.args.questions.now c.in_ok-acts.acts (λ d. acts d c.args.table.now c.args.write.now) (λ d. faults_at d c.as_slice-2.result.now) (λ d. write_cases_in d c.args.kinds.now (Some c.args.table.now) c.args.write.now)
    (λ d. where_it_acts d c.args.table.now c.args.write.now _ _ c.expr_of.ensures c.in_ok-acts.ensures)
    (λ d. asked_acting d c.args.kinds.now c.args.table.now c.args.write.now _ _ (ap (columns_at d) c.as_slice.ensures.value ∙ c.in_ok-columns.ensures.there d) (ap (faults_at d) c.as_slice-2.ensures.value ∙ c.in_ok-faults.ensures d))
    c.in_ok-ask.ensures.ok
