-- Plans that were taken apart from the left.
use Rattle.std.proofs.Common.{◌≡◌, ◌∙◌, ◌≤◌, rules, arith, List, [], ◌∷◌, ◌++◌, refl, sym, ap, ap₂}
use Rattle.query_meaning.specs.declared.plan.Plan.{Plan, fold-Plan, roll-Plan, size-Plan}
use Rattle.query_meaning.specs.declared.plan.Plan as plan
use Rattle.query_meaning.specs.declared.plan.Plan.TheFolds.{fold-roll-Plan}
use Rattle.query_meaning.specs.declared.plan.Plan.TheOpen.{Plan-F}
use denote.Hole.Carrier
use Rattle.plan_merges.specs.Merges.{joined_table}
use Rattle.plan_exec.specs.RunTables.{rewrapped_table, run_step, run_table, wrapped_table}
use Rattle.plan_tables.specs.declared.rows.TableRows.{TableRows}
use Rattle.vra_syntax.specs.declared.cond.Cond.{Cond}
use Rattle.plan_exec.specs.declared.plan_run.PlanStep.{PlanStep}
use Rattle.vtable.specs.declared.table.VTable.{VTable}

pub rewrapped_table_push : (steps : List PlanStep) (step : PlanStep) (inner : VTable) → rewrapped_table (steps ++ step ∷ []) inner ≡ rewrapped_table steps (wrapped_table step inner)
rewrapped_table_push [] step inner = refl
rewrapped_table_push (s ∷ steps) step inner = ap (λ t. wrapped_table s t) (rewrapped_table_push steps step inner)

-- a join's table is made of its sides'
pub run_join : (tables : List TableRows) (left right : Plan) (cond : Cond) → run_table tables (plan.Join left right cond) ≡ joined_table cond (run_table tables left) (run_table tables right)
unfolding roll-Plan Carrier.roll
run_join tables left right cond = fold-roll-Plan VTable (run_step tables) (Plan-F.Join left right cond)

pub join_around : (tables : List TableRows) (chain new : List PlanStep) (whole at left right inner next : Plan) (cond : Cond) (made : VTable) → at ≡ plan.Join left right cond → inner ≡ left → next ≡ left → made ≡ run_table tables right → rewrapped_table new (run_table tables inner) ≡ rewrapped_table chain (joined_table cond (run_table tables inner) made) → rewrapped_table chain (run_table tables at) ≡ run_table tables whole → rewrapped_table new (run_table tables next) ≡ run_table tables whole
join_around tables chain new whole at left right inner next cond made is i n m put rest =
    ap (λ p. rewrapped_table new (run_table tables p)) (n ∙ sym i)
    ∙ put
    ∙ ap (rewrapped_table chain) (ap₂ (λ p t. joined_table cond (run_table tables p) t) i m ∙ sym (run_join tables left right cond) ∙ ap (run_table tables) (sym is))
    ∙ rest

size_join : (left right : Plan) (cond : Cond) → size-Plan left ≤ size-Plan (plan.Join left right cond)
size_join left right cond = search (rules, plan.the_lemmas)

pub join_smaller : (whole at left right next : Plan) (cond : Cond) → at ≡ plan.Join left right cond → next ≡ left → size-Plan at ≤ size-Plan whole → size-Plan next ≤ size-Plan whole
join_smaller whole at left right next cond is n h =
    let sized : size-Plan at ≡ size-Plan (plan.Join left right cond) = ap size-Plan is in
    let here : size-Plan next ≡ size-Plan left = ap size-Plan n in
    let less = size_join left right cond in
    omega (arith, sized, here, less, h)
