-- The greatest number of a parameter that stands in a statement, 0 where there is none.
use Rattle.std.specs.Prelude.{ℕ, max, List, [], ◌∷◌, map}
use Rattle.vra_syntax.specs.declared.cond.Operand.{Operand}
use Rattle.vra_syntax.specs.declared.cond.Operand.TheVariants as operand
use Rattle.vra_syntax.specs.declared.cond.Cond.{Cond, fold-Cond}
use Rattle.vra_syntax.specs.declared.cond.Cond.TheOpen.{Cond-F}
use Rattle.vra_syntax.specs.declared.query.Query.{Query, fold-Query}
use Rattle.vra_syntax.specs.declared.query.Query.TheOpen.{Query-F}
use Rattle.vra_syntax.specs.declared.write.SetItem.{SetItem}
use Rattle.vra_syntax.specs.declared.write.Write.{Write}
use Rattle.vra_syntax.specs.declared.write.Write.TheVariants as write
use Rattle.vra_syntax.specs.declared.statement.Statement.{Statement}
use Rattle.vra_syntax.specs.declared.statement.Statement.TheVariants as statement

abbrev pub greatest_of : List ℕ → ℕ
greatest_of [] = 0
greatest_of (number ∷ numbers) = max number (greatest_of numbers)

abbrev pub param_in_operand : Operand → ℕ
param_in_operand (operand.Column column) = 0
param_in_operand (operand.Literal value) = 0
param_in_operand (operand.Param number) = number

-- one layer of a condition, with the greatest number of each part in its place
abbrev pub param_in_cond_step : Cond-F ℕ → ℕ
param_in_cond_step (Cond-F.Cmp left op right) = max (param_in_operand left) (param_in_operand right)
param_in_cond_step (Cond-F.Not inner) = inner
param_in_cond_step (Cond-F.And left right) = max left right
param_in_cond_step (Cond-F.Or left right) = max left right
param_in_cond_step (Cond-F.Choice expr left right) = max left right
param_in_cond_step Cond-F.True = 0
param_in_cond_step Cond-F.False = 0

abbrev pub param_in_cond : Cond → ℕ
param_in_cond c = fold-Cond ℕ param_in_cond_step c

-- one layer of a query, with the greatest number of each part in its place
abbrev pub param_in_query_step : Query-F ℕ → ℕ
param_in_query_step (Query-F.Table name) = 0
param_in_query_step (Query-F.Select items source c) = max source (param_in_cond c)
param_in_query_step (Query-F.Join left right c) = max (max left right) (param_in_cond c)
param_in_query_step (Query-F.Union left right) = max left right
param_in_query_step (Query-F.Except left right) = max left right
param_in_query_step (Query-F.Alias source name) = source
param_in_query_step (Query-F.Choice expr left right) = max left right
param_in_query_step Query-F.Empty = 0

abbrev pub param_in_query : Query → ℕ
param_in_query q = fold-Query ℕ param_in_query_step q

abbrev pub param_in_row : List Operand → ℕ
param_in_row row = greatest_of (map param_in_operand row)

abbrev pub param_in_rows : List (List Operand) → ℕ
param_in_rows rows = greatest_of (map param_in_row rows)

abbrev pub param_in_set_item : SetItem → ℕ
param_in_set_item item = param_in_operand item.value

abbrev pub param_in_set_items : List SetItem → ℕ
param_in_set_items items = greatest_of (map param_in_set_item items)

abbrev pub param_in_write : Write → ℕ
param_in_write (write.Insert table columns rows expr) = param_in_rows rows
param_in_write (write.Delete table c expr) = param_in_cond c
param_in_write (write.Update table items c expr) = max (param_in_set_items items) (param_in_cond c)

abbrev pub greatest_param : Statement → ℕ
greatest_param (statement.Query q) = param_in_query q
greatest_param (statement.Write w) = param_in_write w
greatest_param statement.Begin = 0
greatest_param statement.Commit = 0
greatest_param statement.Rollback = 0
greatest_param statement.Set = 0
