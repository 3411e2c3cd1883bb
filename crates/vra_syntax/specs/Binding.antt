-- What a statement is once its parameters have their values. A parameter that has no value stays.
use Rattle.std.specs.Prelude.{ℕ, ◌-◌, ◌==◌, List, map, Option, Some, None, slice_get, if◌then◌else◌}
use Rattle.values.specs.declared.value.Value.{Value}
use Rattle.vra_syntax.specs.declared.cond.Operand.{Operand}
use Rattle.vra_syntax.specs.declared.cond.Operand.TheVariants as operand
use Rattle.vra_syntax.specs.declared.cond.Cond.{Cond, fold-Cond}
use Rattle.vra_syntax.specs.declared.cond.Cond.TheOpen.{Cond-F}
use Rattle.vra_syntax.specs.declared.cond.Cond as cond
use Rattle.vra_syntax.specs.declared.query.Query.{Query, fold-Query}
use Rattle.vra_syntax.specs.declared.query.Query.TheOpen.{Query-F}
use Rattle.vra_syntax.specs.declared.query.Query as query
use Rattle.vra_syntax.specs.declared.write.SetItem.{SetItem}
use Rattle.vra_syntax.specs.declared.write.Write.{Write}
use Rattle.vra_syntax.specs.declared.write.Write.TheVariants as write
use Rattle.vra_syntax.specs.declared.statement.Statement.{Statement}
use Rattle.vra_syntax.specs.declared.statement.Statement.TheVariants as statement

-- the value of a parameter: they are numbered from 1
abbrev pub value_at : List Value → ℕ → Option Value
value_at values number = if number == 0 then None else slice_get values (number - 1)

abbrev pub bound_param : ℕ → Option Value → Operand
bound_param number None = operand.Param number
bound_param number (Some value) = operand.Literal value

abbrev pub bound_operand : List Value → Operand → Operand
bound_operand values (operand.Column column) = operand.Column column
bound_operand values (operand.Literal value) = operand.Literal value
bound_operand values (operand.Param number) = bound_param number (value_at values number)

-- one layer of a condition, whose parts are bound
abbrev pub bound_cond_step : List Value → Cond-F Cond → Cond
bound_cond_step values (Cond-F.Cmp left op right) = cond.Cmp (bound_operand values left) op (bound_operand values right)
bound_cond_step values (Cond-F.Not inner) = cond.Not inner
bound_cond_step values (Cond-F.And left right) = cond.And left right
bound_cond_step values (Cond-F.Or left right) = cond.Or left right
bound_cond_step values (Cond-F.Choice expr left right) = cond.Choice expr left right
bound_cond_step values Cond-F.True = cond.True
bound_cond_step values Cond-F.False = cond.False

abbrev pub bound_cond : List Value → Cond → Cond
bound_cond values c = fold-Cond Cond (bound_cond_step values) c

-- one layer of a query, whose parts are bound
abbrev pub bound_query_step : List Value → Query-F Query → Query
bound_query_step values (Query-F.Table name) = query.Table name
bound_query_step values (Query-F.Select items source c) = query.Select items source (bound_cond values c)
bound_query_step values (Query-F.Join left right c) = query.Join left right (bound_cond values c)
bound_query_step values (Query-F.Union left right) = query.Union left right
bound_query_step values (Query-F.Except left right) = query.Except left right
bound_query_step values (Query-F.Alias source name) = query.Alias source name
bound_query_step values (Query-F.Choice expr left right) = query.Choice expr left right
bound_query_step values Query-F.Empty = query.Empty

abbrev pub bound_query : List Value → Query → Query
bound_query values q = fold-Query Query (bound_query_step values) q

abbrev pub bound_row : List Value → List Operand → List Operand
bound_row values row = map (bound_operand values) row

abbrev pub bound_rows : List Value → List (List Operand) → List (List Operand)
bound_rows values rows = map (bound_row values) rows

abbrev pub bound_set_item : List Value → SetItem → SetItem
bound_set_item values item = record { column = item.column; value = bound_operand values item.value }

abbrev pub bound_set_items : List Value → List SetItem → List SetItem
bound_set_items values items = map (bound_set_item values) items

abbrev pub bound_write : List Value → Write → Write
bound_write values (write.Insert table columns rows expr) = write.Insert table columns (bound_rows values rows) expr
bound_write values (write.Delete table c expr) = write.Delete table (bound_cond values c) expr
bound_write values (write.Update table items c expr) = write.Update table (bound_set_items values items) (bound_cond values c) expr

-- the statement in which each parameter that has a value is that value, and all else is as it was
abbrev pub bound_statement : List Value → Statement → Statement
bound_statement values (statement.Query q) = statement.Query (bound_query values q)
bound_statement values (statement.Write w) = statement.Write (bound_write values w)
bound_statement values statement.Begin = statement.Begin
bound_statement values statement.Commit = statement.Commit
bound_statement values statement.Rollback = statement.Rollback
bound_statement values statement.Set = statement.Set
