use Rattle.std.proofs.lemmas.Result.{err_from_is_err_and}
use Rattle.vra_types.proofs.NoGaps.{passes, tables_refuse, rows_refuse}
use Rattle.vra_types.proofs.PassLaws.{unrefused}
use Rattle.vra_types.proofs.check.check_catalog.Goals as goal

pub returns-in_err-check_tables-clause-refused : goal.returns-in_err-check_tables-clause-refused
returns-in_err-check_tables-clause-refused c =
    let p = err_from_is_err_and c.from_residual-in_err-check_tables.result c.from_residual-in_err-check_tables.ensures.1 in
    rw (p.1, p.2) (tables_refuse c.args.catalog.now c.args.rows.now _ (rw (c.in_ok-model.ensures.model, c.as_slice.ensures) at c.in_err-check_tables.ensures.err))

pub returns-in_err-check_rows-clause-refused : goal.returns-in_err-check_rows-clause-refused
returns-in_err-check_rows-clause-refused c =
    let p = err_from_is_err_and c.from_residual-in_err-check_rows.result c.from_residual-in_err-check_rows.ensures.1 in
    rw (p.1, p.2) (rows_refuse c.args.catalog.now c.args.rows.now _ (rw (c.in_ok-model.ensures.model, c.as_slice.ensures) at c.in_ok-check_tables.ensures.ok) (rw (c.in_ok-model.ensures.model, c.as_slice-2.ensures, c.as_slice-3.ensures) at c.in_err-check_rows.ensures.err))

pub returns-clause-passes : goal.returns-clause-passes
returns-clause-passes c = passes c.args.catalog.now c.args.rows.now c.in_ok-model.ensures.ok (rw (c.in_ok-model.ensures.model, c.as_slice.ensures) at c.in_ok-check_tables.ensures.ok) (rw (c.in_ok-model.ensures.model, c.as_slice-2.ensures, c.as_slice-3.ensures) at c.in_ok-check_rows.ensures.ok)

pub returns-in_err-check_tables-clause-accepted : goal.returns-in_err-check_tables-clause-accepted
returns-in_err-check_tables-clause-accepted c = λ passed.
    let p = err_from_is_err_and c.from_residual-in_err-check_tables.result c.from_residual-in_err-check_tables.ensures.1 in
    rw (p.1, p.2) (unrefused c.args.catalog.now c.args.rows.now _ passed (tables_refuse c.args.catalog.now c.args.rows.now _ (rw (c.in_ok-model.ensures.model, c.as_slice.ensures) at c.in_err-check_tables.ensures.err)))

pub returns-in_err-check_rows-clause-accepted : goal.returns-in_err-check_rows-clause-accepted
returns-in_err-check_rows-clause-accepted c = λ passed.
    let p = err_from_is_err_and c.from_residual-in_err-check_rows.result c.from_residual-in_err-check_rows.ensures.1 in
    rw (p.1, p.2) (unrefused c.args.catalog.now c.args.rows.now _ passed (rows_refuse c.args.catalog.now c.args.rows.now _ (rw (c.in_ok-model.ensures.model, c.as_slice.ensures) at c.in_ok-check_tables.ensures.ok) (rw (c.in_ok-model.ensures.model, c.as_slice-2.ensures, c.as_slice-3.ensures) at c.in_err-check_rows.ensures.err)))
