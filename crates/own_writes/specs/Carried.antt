-- What writes make of rows that are a table in every variant.
use Rattle.std.specs.Prelude.{◌≡◌, ℕ, true, List, ◌++◌}
use Rattle.commit_log.specs.declared.commit.Commit.{Commit}
use Rattle.feature_expr.specs.declared.expr.Expr.{Expr}
use Rattle.stored_versions.specs.Logs.{all_taken}
use Rattle.stored_versions.specs.Openings.{Opening}
use Rattle.stored_versions.specs.StoredViews.{IsStoredView}
use Rattle.vra_syntax.specs.declared.write.Write.{Write}
use Rattle.vschema.specs.declared.catalog.Table.{Table}
use Rattle.vtable.specs.declared.table.VRow.{VRow}

-- Whatever the store was opened over, whatever commits it has and whatever writes came before: where the old rows are
-- then the table with this number, the new ones are that table after these writes too, if each of them counts.
pub record Carries (model : Expr) (tables : List Table) (number : ℕ) (table : Table) (writes : List Write) (old new : List VRow) : Type 0 where
  pub view : (opening : Opening) (commits : List Commit) (before : List Write) → opening.catalog.model ≡ model → opening.catalog.tables ≡ tables → all_taken opening.catalog writes ≡ true →
      IsStoredView opening commits before number table old → IsStoredView opening commits (before ++ writes) number table new
