use Rattle.std.proofs.Common.{◌≡◌, ◌∙◌, List, sym, ap, subst}
use Rattle.plan_exec.specs.Runs.{IsRunOf}
use Rattle.query_answers.proofs.AnswerLaws.{new_answers, new_distinct}
use Rattle.query_answers.proofs.FromLaws.{answer_from}
use Rattle.query_answers.proofs.SimplerLaws.{simpler_run, with_rows}
use Rattle.query_answers.specs.Retyped.{retyped}
use Rattle.query_meaning.specs.declared.plan.Plan.{Plan}
use Rattle.vtable.specs.Answers.{IsAnswerAt}
use Rattle.vtable.specs.TableForm.{IsNormalOf, columns_are_distinct}
use Rattle.vtable.specs.declared.table.VColumn.{VColumn}
use Rattle.vtable.specs.declared.table.VTable.{VTable}
use Rattle.query_answers.proofs.answer.answer_query.Goals as goal

pub normal-requires-clause-distinct : goal.normal-requires-clause-distinct
normal-requires-clause-distinct g c =
    let r = c.requires in
    let first = c.in_ok-possible.field-0 in
    let run = subst (λ (p : Plan). IsRunOf c.args.model.now c.args.rows.now.tables p first) c.plan.ensures c.in_ok-possible.ensures.made in
    let ran = with_rows first c.in_ok-rows.rows in
    let is = simpler_run c.args.model.now c.args.rows.now.tables c.args.typed.now.plan first c.in_ok-rows.rows run c.in_ok-rows.ensures in
    let same : c.in_ok-columns.columns ≡ retyped ran.columns c.args.typed.now.columns = c.in_ok-columns.ensures ∙ ap (λ xs. retyped xs c.as_slice-2.result.now) c.as_slice.ensures ∙ ap (retyped ran.columns) (c.as_slice-2.ensures ∙ c.columns.ensures) in
    ap columns_are_distinct same ∙ new_distinct c.query_laws.ensures.columns c.column_laws.ensures.plan_once c.args.model.now r.kinds r.tables r.query c.args.typed.now.columns c.args.typed.now.plan c.args.rows.now.tables r.typed r.held r.run ran is

pub normal-requires-clause-answers : goal.normal-requires-clause-answers
normal-requires-clause-answers g c =
    let r = c.requires in
    let first = c.in_ok-possible.field-0 in
    let run = subst (λ (p : Plan). IsRunOf c.args.model.now c.args.rows.now.tables p first) c.plan.ensures c.in_ok-possible.ensures.made in
    let ran = with_rows first c.in_ok-rows.rows in
    let is = simpler_run c.args.model.now c.args.rows.now.tables c.args.typed.now.plan first c.in_ok-rows.rows run c.in_ok-rows.ensures in
    let same : c.in_ok-columns.columns ≡ retyped ran.columns c.args.typed.now.columns = c.in_ok-columns.ensures ∙ ap (λ xs. retyped xs c.as_slice-2.result.now) c.as_slice.ensures ∙ ap (retyped ran.columns) (c.as_slice-2.ensures ∙ c.columns.ensures) in
    λ at admitted. subst (λ (columns : List VColumn). IsAnswerAt at (let it : VTable = record { columns = columns; rows = ran.rows } in it)) (sym same)
    (new_answers c.query_laws.ensures.columns c.column_laws.ensures.plan_once c.args.model.now r.kinds r.tables r.query c.args.typed.now.columns c.args.typed.now.plan c.args.rows.now.tables r.typed r.held r.run ran is at admitted)

pub returns-clause-answer : goal.returns-clause-answer
returns-clause-answer g c =
    let first = c.in_ok-possible.field-0 in
    let run = subst (λ (p : Plan). IsRunOf c.args.model.now c.args.rows.now.tables p first) c.plan.ensures c.in_ok-possible.ensures.made in
    let ran = with_rows first c.in_ok-rows.rows in
    let is = simpler_run c.args.model.now c.args.rows.now.tables c.args.typed.now.plan first c.in_ok-rows.rows run c.in_ok-rows.ensures in
    let same : c.in_ok-columns.columns ≡ retyped ran.columns c.args.typed.now.columns = c.in_ok-columns.ensures ∙ ap (λ xs. retyped xs c.as_slice-2.result.now) c.as_slice.ensures ∙ ap (retyped ran.columns) (c.as_slice-2.ensures ∙ c.columns.ensures) in
    let normal = subst (λ (columns : List VColumn). IsNormalOf c.args.model.now (let it : VTable = record { columns = columns; rows = ran.rows } in it) c.in_ok-answer.answer) same c.in_ok-answer.ensures in
    answer_from c.query_laws.ensures.columns c.column_laws.ensures.plan_once c.bound_laws.ensures.query_grows c.args.model.now c.args.rows.now.tables c.args.typed.now c.requires.run ran is c.in_ok-answer.answer normal
