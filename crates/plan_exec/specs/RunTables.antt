-- The table that a plan makes of the tables handed in, in all variants at once.
use Rattle.std.specs.Prelude.{List, [], ◌∷◌, Option, Some, None}
use Rattle.plan_merges.specs.Merges.{aliased_table, joined_table, kept_table}
use Rattle.plan_tables.specs.StoredRows.{rows_of}
use Rattle.plan_operators.specs.Operators.{chosen_table, excepted_table, filtered_table, united_table}
use Rattle.plan_tables.specs.declared.rows.TableRows.{TableRows}
use Rattle.plan_exec.specs.declared.plan_run.PlanStep.{PlanStep}
use Rattle.plan_exec.specs.declared.plan_run.PlanStep.TheVariants as pstep
use Rattle.query_meaning.specs.declared.plan.Plan.{Plan, fold-Plan}
use Rattle.query_meaning.specs.declared.plan.Plan.TheOpen.{Plan-F}
use Rattle.vtable.specs.declared.table.VTable.{VTable}

abbrev pub empty_table : VTable
empty_table = record { columns = []; rows = [] }

abbrev pub table_by : Option TableRows → VTable
table_by None = empty_table
table_by (Some table) = table.rows

-- one layer of a plan, whose parts are tables
abbrev pub run_step : List TableRows → Plan-F VTable → VTable
run_step tables (Plan-F.Scan number) = table_by (rows_of tables number)
run_step tables (Plan-F.Filter source cond) = filtered_table cond source
run_step tables (Plan-F.Keep source items) = kept_table items source
run_step tables (Plan-F.Join left right cond) = joined_table cond left right
run_step tables (Plan-F.Union left right) = united_table left right
run_step tables (Plan-F.Except left right) = excepted_table left right
run_step tables (Plan-F.Rename source alias) = aliased_table alias source
run_step tables (Plan-F.Choose expr left right) = chosen_table expr left right
run_step tables Plan-F.Nothing = empty_table

abbrev pub run_table : List TableRows → Plan → VTable
run_table tables p = fold-Plan VTable (run_step tables) p

-- what goes round the left side's table
abbrev pub wrapped_table : PlanStep → VTable → VTable
wrapped_table (pstep.Filter cond) table = filtered_table cond.now table
wrapped_table (pstep.Keep items) table = kept_table items.now table
wrapped_table (pstep.Join right cond) table = joined_table cond.now table right
wrapped_table (pstep.Union right) table = united_table table right
wrapped_table (pstep.Except right) table = excepted_table table right
wrapped_table (pstep.Rename alias) table = aliased_table alias.now table
wrapped_table (pstep.Choose expr right) table = chosen_table expr.now table right

-- the whole chain round its innermost left side; the first step is the outermost
abbrev pub rewrapped_table : List PlanStep → VTable → VTable
rewrapped_table [] table = table
rewrapped_table (s ∷ ss) table = wrapped_table s (rewrapped_table ss table)
