use Rattle.std.proofs.Common.{arith}
use Rattle.std.proofs.lemmas.Result.{err_from_is_err_and}
use Rattle.vra_types.proofs.Steps.{row_left, row_refused, row_judged}
use Rattle.vra_types.proofs.AlikeRows.{judged_alike}
use Rattle.vra_types.proofs.check_row.check_rows.Goals as goal
use Rattle.vra_types.proofs.check_row.check_rows.Goals.{then-not-is_alike_to_judged+in_ok-check_row+in_ok-insert, else-not-is_alike_to_judged}

pub returns-in_err-check_row-clause-err : goal.returns-in_err-check_row-clause-err
returns-in_err-check_row-clause-err c =
    let p = err_from_is_err_and c.from_residual.result c.from_residual.ensures.1 in
    rw (p.1, p.2) (row_refused c.args.model.now _ c.args.tables.now c.args.rows.now c.loop-place.place c.index-rows-place.result _ (omega arith) c.index-rows-place.is c.loop-place.invariant.left c.in_err-check_row.ensures.err)

pub loop-place-preserved : goal.loop-place-preserved
loop-place-preserved c =
    elim c.if-not-is_alike_to_judged.branch [
      | then-not-is_alike_to_judged+in_ok-check_row+in_ok-insert w ↦
          record {
            left = row_left c.args.model.now _ c.args.tables.now c.args.rows.now c.loop-place.place c.index-rows-place.result (omega arith) c.index-rows-place.is c.loop-place.invariant.left w.in_ok-check_row.ensures.ok;
            judged = row_judged c.args.model.now c.args.tables.now c.args.rows.now c.loop-place.place c.index-rows-place.result (omega arith) c.index-rows-place.is c.loop-place.invariant.judged w.in_ok-check_row.ensures.ok;
          }
      | else-not-is_alike_to_judged w ↦
          let none = judged_alike c.args.model.now c.args.tables.now _ c.index-rows-place.result c.loop-place.invariant.judged (c.is_alike_to_judged.ensures w.if-not-is_alike_to_judged.false) in
          record {
            left = row_left c.args.model.now _ c.args.tables.now c.args.rows.now c.loop-place.place c.index-rows-place.result (omega arith) c.index-rows-place.is c.loop-place.invariant.left none;
            judged = row_judged c.args.model.now c.args.tables.now c.args.rows.now c.loop-place.place c.index-rows-place.result (omega arith) c.index-rows-place.is c.loop-place.invariant.judged none;
          }
    ]
