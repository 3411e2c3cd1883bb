-- What is still to be printed of a condition or a query: the next task is the last of a list.
use Rattle.std.specs.Prelude.{ℕ, ◌+◌, ◌*◌, List, [], ◌∷◌, ◌++◌, codes}
use Rattle.feature_expr.specs.Printing.{closing}
use Rattle.vra_syntax.specs.declared.cond.Cond.{Cond, fold-Cond}
use Rattle.vra_syntax.specs.declared.cond.Cond.TheOpen.{Cond-F}
use Rattle.vra_syntax.specs.declared.query.Query.{Query, fold-Query}
use Rattle.vra_syntax.specs.declared.query.Query.TheOpen.{Query-F}
use Rattle.query_printer.specs.Printing.{takes_and, takes_or, cond_at, cond_text, where_text, takes_chain, takes_select, takes_join, takes_alias, query_at}
use Rattle.query_printer.specs.declared.print_cond.CondPlace.TheVariants as cplace
use Rattle.query_printer.specs.declared.print_cond.CondTask.{CondTask}
use Rattle.query_printer.specs.declared.print_cond.CondTask.TheVariants as ctask
use Rattle.query_printer.specs.declared.print_query.QueryPlace.TheVariants as qplace
use Rattle.query_printer.specs.declared.print_query.QueryTask.{QueryTask}
use Rattle.query_printer.specs.declared.print_query.QueryTask.TheVariants as qtask

abbrev pub cond_task_text : List (List ℕ) → CondTask → List ℕ
cond_task_text names (ctask.Whole c at) = cond_at names c.now at
cond_task_text names (ctask.And right at) = codes " and " ++ cond_at names right.now cplace.Operand ++ closing (takes_and at)
cond_task_text names (ctask.Or right at) = codes " or " ++ cond_at names right.now cplace.Conjunct ++ closing (takes_or at)
cond_task_text names (ctask.Choice right) = codes ", " ++ cond_at names right.now cplace.Disjunct ++ codes ")"
cond_task_text names (ctask.Close is_free) = closing is_free

abbrev pub cond_tasks_text : List (List ℕ) → List CondTask → List ℕ
cond_tasks_text names [] = []
cond_tasks_text names (t ∷ ts) = cond_tasks_text names ts ++ cond_task_text names t

abbrev pub cond_nodes_step : Cond-F ℕ → ℕ
cond_nodes_step (Cond-F.Cmp left op right) = 1
cond_nodes_step (Cond-F.Not inner) = 1 + inner
cond_nodes_step (Cond-F.And left right) = 1 + left + right
cond_nodes_step (Cond-F.Or left right) = 1 + left + right
cond_nodes_step (Cond-F.Choice expr left right) = 1 + left + right
cond_nodes_step Cond-F.True = 1
cond_nodes_step Cond-F.False = 1

abbrev pub cond_nodes : Cond → ℕ
cond_nodes c = fold-Cond ℕ cond_nodes_step c

-- at most how many tasks follow from one, with itself
abbrev pub cond_task_size : CondTask → ℕ
cond_task_size (ctask.Whole c at) = 3 * cond_nodes c.now
cond_task_size (ctask.And right at) = 3 * cond_nodes right.now + 2
cond_task_size (ctask.Or right at) = 3 * cond_nodes right.now + 2
cond_task_size (ctask.Choice right) = 3 * cond_nodes right.now + 2
cond_task_size (ctask.Close is_free) = 1

abbrev pub cond_tasks_size : List CondTask → ℕ
cond_tasks_size [] = 0
cond_tasks_size (t ∷ ts) = cond_tasks_size ts + cond_task_size t

abbrev pub query_task_text : List (List ℕ) → QueryTask → List ℕ
query_task_text names (qtask.Whole q at) = query_at names q.now at
query_task_text names (qtask.Where c at) = where_text names c.now ++ closing (takes_select at)
query_task_text names (qtask.Join right c at) = codes " join " ++ query_at names right.now qplace.Joined ++ codes " on " ++ cond_text names c.now ++ closing (takes_join at)
query_task_text names (qtask.On c at) = codes " on " ++ cond_text names c.now ++ closing (takes_join at)
query_task_text names (qtask.Union right at) = codes " union " ++ query_at names right.now qplace.Term ++ closing (takes_chain at)
query_task_text names (qtask.Except right at) = codes " except " ++ query_at names right.now qplace.Term ++ closing (takes_chain at)
query_task_text names (qtask.Alias name at) = codes " as " ++ name.now ++ closing (takes_alias at)
query_task_text names (qtask.Choice right) = codes ", " ++ query_at names right.now qplace.Whole ++ codes ")"
query_task_text names (qtask.Close is_free) = closing is_free

abbrev pub query_tasks_text : List (List ℕ) → List QueryTask → List ℕ
query_tasks_text names [] = []
query_tasks_text names (t ∷ ts) = query_tasks_text names ts ++ query_task_text names t

abbrev pub query_nodes_step : Query-F ℕ → ℕ
query_nodes_step (Query-F.Table name) = 1
query_nodes_step (Query-F.Select kept source c) = 1 + source
query_nodes_step (Query-F.Join left right c) = 1 + left + right
query_nodes_step (Query-F.Union left right) = 1 + left + right
query_nodes_step (Query-F.Except left right) = 1 + left + right
query_nodes_step (Query-F.Alias source name) = 1 + source
query_nodes_step (Query-F.Choice expr left right) = 1 + left + right
query_nodes_step Query-F.Empty = 1

abbrev pub query_nodes : Query → ℕ
query_nodes q = fold-Query ℕ query_nodes_step q

abbrev pub query_task_size : QueryTask → ℕ
query_task_size (qtask.Whole q at) = 3 * query_nodes q.now
query_task_size (qtask.Where c at) = 1
query_task_size (qtask.Join right c at) = 3 * query_nodes right.now + 2
query_task_size (qtask.On c at) = 1
query_task_size (qtask.Union right at) = 3 * query_nodes right.now + 2
query_task_size (qtask.Except right at) = 3 * query_nodes right.now + 2
query_task_size (qtask.Alias name at) = 1
query_task_size (qtask.Choice right) = 3 * query_nodes right.now + 2
query_task_size (qtask.Close is_free) = 1

abbrev pub query_tasks_size : List QueryTask → ℕ
query_tasks_size [] = 0
query_tasks_size (t ∷ ts) = query_tasks_size ts + query_task_size t
