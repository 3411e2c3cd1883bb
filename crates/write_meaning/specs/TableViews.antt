-- When rows under conditions are a table that stands apart in each variant.
use Rattle.std.specs.Prelude.{ℕ, List}
use Rattle.condition_sat.specs.Admitted.{IsAdmitted}
use Rattle.feature_expr.specs.declared.expr.Expr.{Expr}
use Rattle.plain_relation.specs.Relations.{Relation}
use Rattle.query_meaning.specs.Bounds.{Size, IsWithin}
use Rattle.vschema.specs.declared.catalog.Table.{Table}
use Rattle.vtable.specs.Answers.{answer_at, IsAnswerAt}
use Rattle.vtable.specs.declared.table.VRow.{VRow}
use Rattle.write_meaning.specs.Members.{SameRows}
use Rattle.write_meaning.specs.StoredTables.{stored_table, size_of}

-- In each admitted variant the rows are a well-formed answer, and what the table is there; and they are within its bounds.
pub record IsTableView (model : Expr) (table : Table) (rows : List VRow) (there : List ℕ → Relation) (size : Size) : Type 0 where
  pub formed : (c : List ℕ) → IsAdmitted model c → IsAnswerAt c (stored_table table rows)
  pub means : (c : List ℕ) → IsAdmitted model c → SameRows (answer_at c (stored_table table rows)) (there c)
  pub within : IsWithin (size_of (stored_table table rows)) size
