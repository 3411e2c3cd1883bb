use Rattle.std.proofs.lemmas.Result.{err_from_is_err_and}
use Rattle.query_typing.proofs.FaultLaws.{asked_refused}
use Rattle.query_typing.proofs.fault.ask.Goals as goal

pub returns-in_err-ask_one-clause-err : goal.returns-in_err-ask_one-clause-err
returns-in_err-ask_one-clause-err c =
    let p = err_from_is_err_and c.from_residual.result c.from_residual.ensures.1 in
    rw (p.1, p.2) (asked_refused c.args.questions.now c.loop-fault.questions c.args.reach.now c.args.faults.now c.fault-item.result c.loop-fault.fault-index c.in_err-ask_one.field-0.0 c.loop-fault.invariant.same c.loop-fault-test.true c.fault-item.is c.in_err-ask_one.ensures.err)
