use Rattle.std.proofs.Common.{arith}
use Rattle.std.proofs.lemmas.Result.{err_from_is_err_and}
use Rattle.vra_types.proofs.Steps.{valued_left, blank_left, blank_refused}
use Rattle.vra_types.proofs.check_row.check_cells.Goals as goal
use Rattle.vra_types.proofs.check_row.check_cells.Goals.{then-not-has_value+in_ok-check_cell, else-not-has_value}

pub returns-in_err-check_cell-clause-err : goal.returns-in_err-check_cell-clause-err
returns-in_err-check_cell-clause-err c =
    let p = err_from_is_err_and c.from_residual.result c.from_residual.ensures.1 in
    rw (p.1, p.2) (blank_refused c.args.model.now _ c.args.table.now c.args.row.now c.args.columns.now c.args.row.now.cells c.loop-place.place c.index-columns-place.result (omega arith) c.index-columns-place.is _ (cc (c.has_value.ensures, c.if-not-has_value.true)) c.loop-place.invariant c.in_err-check_cell.ensures.err)

pub loop-place-preserved : goal.loop-place-preserved
loop-place-preserved c =
    elim c.if-not-has_value.branch [
      | then-not-has_value+in_ok-check_cell w ↦ blank_left c.args.model.now _ c.args.table.now c.args.row.now c.args.columns.now c.args.row.now.cells c.loop-place.place c.index-columns-place.result (omega arith) c.index-columns-place.is (cc (c.has_value.ensures, w.if-not-has_value.true)) c.loop-place.invariant w.in_ok-check_cell.ensures.ok
      | else-not-has_value w ↦ valued_left c.args.model.now _ c.args.table.now c.args.row.now c.args.columns.now c.args.row.now.cells c.loop-place.place c.index-columns-place.result (omega arith) c.index-columns-place.is (cc (c.has_value.ensures, w.if-not-has_value.false)) c.loop-place.invariant
    ]
