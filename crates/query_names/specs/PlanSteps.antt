-- Plans that are made from the left: each step goes round the left side inside it.
use Rattle.std.specs.Prelude.{List, [], ◌∷◌}
use Rattle.query_meaning.specs.declared.plan.Plan.{Plan}
use Rattle.query_meaning.specs.declared.plan.Plan as plan
use Rattle.query_names.specs.declared.plan_steps.PlanStep.{PlanStep}
use Rattle.query_names.specs.declared.plan_steps.PlanStep.TheVariants as step

abbrev pub wrapped : PlanStep → Plan → Plan
wrapped (step.Filter cond) source = plan.Filter source cond
wrapped (step.Keep items) source = plan.Keep source items
wrapped (step.Join right cond) left = plan.Join left right cond
wrapped (step.Union right) left = plan.Union left right
wrapped (step.Except right) left = plan.Except left right
wrapped (step.Rename name) source = plan.Rename source name
wrapped (step.Choose expr right) left = plan.Choose expr left right

-- the whole plan round its innermost left side; the first step is the outermost
abbrev pub rewrapped : List PlanStep → Plan → Plan
rewrapped [] left = left
rewrapped (s ∷ ss) left = wrapped s (rewrapped ss left)
