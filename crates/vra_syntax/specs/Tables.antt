-- Queries that are a table's name alone.
use Rattle.std.specs.Prelude.{ℕ, List, Option, Some, None}
use Rattle.vra_syntax.specs.declared.query.Query.{Query, out-Query}
use Rattle.vra_syntax.specs.declared.query.Query.TheOpen.{Query-F}

abbrev pub table_step : Query-F Query → Option (List ℕ)
table_step (Query-F.Table name) = Some name
table_step _ = None

-- Brackets leave no trace in a query, so one in brackets counts too.
abbrev pub table_of : Query → Option (List ℕ)
table_of query = table_step (out-Query query)
