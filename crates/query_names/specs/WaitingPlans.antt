-- Plans that wait to be read, the next one last.
use Rattle.std.specs.Prelude.{ℕ, ◌+◌, List, [], ◌∷◌, ◌++◌, map}
use Rattle.std.specs.Borrow.{Bor}
use Rattle.query_meaning.specs.Plans.{scans}
use Rattle.query_meaning.specs.declared.plan.Plan.{Plan, fold-Plan}
use Rattle.query_meaning.specs.declared.plan.Plan.TheOpen.{Plan-F}

abbrev pub plans : List (Bor Plan) → List Plan
plans waiting = map (λ (one : Bor Plan). one.now) waiting

-- what they scan, in the order in which they are read
abbrev pub waiting_scans : List Plan → List ℕ
waiting_scans [] = []
waiting_scans (plan ∷ plans) = waiting_scans plans ++ scans plan

abbrev pub plan_nodes_step : Plan-F ℕ → ℕ
plan_nodes_step (Plan-F.Scan table) = 1
plan_nodes_step (Plan-F.Filter source cond) = source + 1
plan_nodes_step (Plan-F.Keep source items) = source + 1
plan_nodes_step (Plan-F.Join left right cond) = left + right + 1
plan_nodes_step (Plan-F.Union left right) = left + right + 1
plan_nodes_step (Plan-F.Except left right) = left + right + 1
plan_nodes_step (Plan-F.Rename source name) = source + 1
plan_nodes_step (Plan-F.Choose expr left right) = left + right + 1
plan_nodes_step Plan-F.Nothing = 1

-- how many plans a plan is made of, itself among them
abbrev pub plan_nodes : Plan → ℕ
plan_nodes plan = fold-Plan ℕ plan_nodes_step plan

abbrev pub waiting_plan_nodes : List Plan → ℕ
waiting_plan_nodes [] = 0
waiting_plan_nodes (plan ∷ plans) = waiting_plan_nodes plans + plan_nodes plan
