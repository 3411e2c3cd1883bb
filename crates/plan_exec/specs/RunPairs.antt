-- How many pairs of rows the joins of a plan form at most, over the tables handed in.
use Rattle.std.specs.Prelude.{ℕ, ◌+◌, ◌*◌, List, [], ◌∷◌, length}
use Rattle.plan_tables.specs.declared.rows.TableRows.{TableRows}
use Rattle.plan_exec.specs.RunTables.{rewrapped_table, run_step}
use Rattle.plan_exec.specs.declared.plan_run.PlanStep.{PlanStep}
use Rattle.plan_exec.specs.declared.plan_run.PlanStep.TheVariants as pstep
use Rattle.query_meaning.specs.declared.plan.Plan.{Plan, fold-Plan, map-Plan}
use Rattle.query_meaning.specs.declared.plan.Plan.TheOpen.{Plan-F}
use Rattle.vtable.specs.declared.table.VTable.{VTable}

-- a part of a plan: its table, and how many pairs its joins form at most
pub record RunPart : Type 0 where
  pub table : VTable
  pub pairs : ℕ

-- all pairs of a row of the one and a row of the other
abbrev pub pairs_of : VTable → VTable → ℕ
pairs_of left right = length left.rows * length right.rows

abbrev pub run_pairs_at : Plan-F RunPart → ℕ
run_pairs_at (Plan-F.Scan number) = 0
run_pairs_at (Plan-F.Filter source cond) = source.pairs
run_pairs_at (Plan-F.Keep source items) = source.pairs
run_pairs_at (Plan-F.Join left right cond) = left.pairs + right.pairs + pairs_of left.table right.table
run_pairs_at (Plan-F.Union left right) = left.pairs + right.pairs
run_pairs_at (Plan-F.Except left right) = left.pairs + right.pairs
run_pairs_at (Plan-F.Rename source alias) = source.pairs
run_pairs_at (Plan-F.Choose expr left right) = left.pairs + right.pairs
run_pairs_at Plan-F.Nothing = 0

-- one layer of a plan
abbrev pub part_step : List TableRows → Plan-F RunPart → RunPart
part_step tables form = record { table = run_step tables (map-Plan RunPart VTable (λ (part : RunPart). part.table) form); pairs = run_pairs_at form }

abbrev pub run_part : List TableRows → Plan → RunPart
run_part tables p = fold-Plan RunPart (part_step tables) p

-- for each join all pairs of its sides' rows
abbrev pub run_pairs : List TableRows → Plan → ℕ
run_pairs tables p = (run_part tables p).pairs

-- those that are formed where a step goes round a table
abbrev pub wrapped_pairs : PlanStep → VTable → ℕ
wrapped_pairs (pstep.Filter cond) table = 0
wrapped_pairs (pstep.Keep items) table = 0
wrapped_pairs (pstep.Join right cond) table = pairs_of table right
wrapped_pairs (pstep.Union right) table = 0
wrapped_pairs (pstep.Except right) table = 0
wrapped_pairs (pstep.Rename alias) table = 0
wrapped_pairs (pstep.Choose expr right) table = 0

-- those of the whole chain round its innermost left side; the first step is the outermost
abbrev pub rewrapped_pairs : List PlanStep → VTable → ℕ
rewrapped_pairs [] table = 0
rewrapped_pairs (s ∷ ss) table = rewrapped_pairs ss table + wrapped_pairs s (rewrapped_table ss table)
