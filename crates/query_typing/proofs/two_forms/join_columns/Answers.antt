use Rattle.std.proofs.lemmas.Result.{err_from_is_err_and}
use Rattle.query_typing.proofs.JoinLaws.{join_fails, join_is}
use Rattle.query_typing.proofs.two_forms.join_columns.Goals as goal

pub returns-in_err-ask_over-clause-err : goal.returns-in_err-ask_over-clause-err
returns-in_err-ask_over-clause-err c =
    let p = err_from_is_err_and c.from_residual-in_err-ask_over.result c.from_residual-in_err-ask_over.ensures.1 in
    rw (p.1, p.2) (join_fails c.args.questions.now c.args.reach.now c.args.kinds.now c.args.cond.now c.args.left c.args.right c.as_slice.result.now c.as_slice-2.result.now c.in_ok-all.all c.as_slice-3.result.now c.as_slice.ensures c.as_slice-2.ensures c.as_slice-3.ensures c.in_ok-all.ensures.there c.in_err-ask_over.field-0.0 c.in_err-ask_over.ensures.err)

pub returns-clause-ok : goal.returns-clause-ok
returns-clause-ok c = join_is c.args.questions.now c.args.reach.now c.args.kinds.now c.args.cond.now c.args.left c.args.right c.as_slice.result.now c.as_slice-2.result.now c.in_ok-all.all c.as_slice-3.result.now c.as_slice.ensures c.as_slice-2.ensures c.as_slice-3.ensures c.in_ok-all.ensures.there c.in_ok-columns.columns c.in_ok-all.ensures.headings c.in_ok-columns.ensures.headings c.in_ok-columns.ensures.there c.in_ok-ask_over.ensures.ok
