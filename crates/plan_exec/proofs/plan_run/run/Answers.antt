use Rattle.std.proofs.Common.{ap, ◌∙◌}
use Rattle.plan_exec.proofs.PairLaws.{run_counted}
use Rattle.plan_exec.proofs.RunSizes.{run_is}
use Rattle.plan_exec.specs.RunTables.{run_table}
use Rattle.plan_exec.proofs.plan_run.run.Goals as goal

pub returns-in_err-table-clause-steps : goal.returns-in_err-table-clause-steps
returns-in_err-table-clause-steps g c =
    let grows = c.bound_laws.ensures in
    run_counted (record { filtered = grows.filtered; kept = grows.kept; joined = grows.joined; united = grows.united; excepted = grows.excepted; aliased = grows.aliased; chosen = grows.chosen })
    c.args.model.now c.args.rows.now.tables c.requires.stored c.as_slice.result.now c.args.plan.now _ _ c.as_slice.ensures c.in_err-table.ensures.steps

pub returns-clause-steps : goal.returns-clause-steps
returns-clause-steps g c =
    let grows = c.bound_laws.ensures in
    run_counted (record { filtered = grows.filtered; kept = grows.kept; joined = grows.joined; united = grows.united; excepted = grows.excepted; aliased = grows.aliased; chosen = grows.chosen })
    c.args.model.now c.args.rows.now.tables c.requires.stored c.as_slice.result.now c.args.plan.now _ _ c.as_slice.ensures c.in_ok-table.ensures.steps

pub returns-clause-made : goal.returns-clause-made
returns-clause-made g c =
    let grows = c.bound_laws.ensures in
    run_is (record { filtered = grows.filtered; kept = grows.kept; joined = grows.joined; united = grows.united; excepted = grows.excepted; aliased = grows.aliased; chosen = grows.chosen })
    c.args.model.now c.args.rows.now.tables c.args.plan.now c.in_ok-table.table c.requires (c.in_ok-table.ensures.made ∙ ap (λ tables. run_table tables c.args.plan.now) c.as_slice.ensures)
