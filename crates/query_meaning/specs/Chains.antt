-- Plans that were taken apart from the left: each step goes round the left side inside it.
use Rattle.std.specs.Prelude.{List, [], ◌∷◌}
use Rattle.query_meaning.specs.declared.plan.Plan.{Plan}
use Rattle.query_meaning.specs.declared.plan.Plan as plan
use Rattle.query_meaning.specs.declared.plan_copy.PlanStep.{PlanStep}
use Rattle.query_meaning.specs.declared.plan_copy.PlanStep.TheVariants as step

abbrev pub wrapped_plan : PlanStep → Plan → Plan
wrapped_plan (step.Filter cond) source = plan.Filter source cond
wrapped_plan (step.Keep items) source = plan.Keep source items
wrapped_plan (step.Join right cond) left = plan.Join left right cond
wrapped_plan (step.Union right) left = plan.Union left right
wrapped_plan (step.Except right) left = plan.Except left right
wrapped_plan (step.Rename name) source = plan.Rename source name
wrapped_plan (step.Choose expr right) left = plan.Choose expr left right

-- the whole plan round its innermost left side; the first step is the outermost
abbrev pub rewrapped_plan : List PlanStep → Plan → Plan
rewrapped_plan [] left = left
rewrapped_plan (s ∷ ss) left = wrapped_plan s (rewrapped_plan ss left)
