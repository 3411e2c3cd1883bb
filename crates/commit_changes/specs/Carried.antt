-- What changes of tables make of their newest rows, against what a commit makes of the tables.
use Rattle.std.specs.Prelude.{◌≡◌, ℕ, List, [], ◌∷◌, ◌++◌, Some, slice_get}
use Rattle.commit_log.specs.declared.commit.Commit.{Commit}
use Rattle.feature_expr.specs.declared.expr.Expr.{Expr}
use Rattle.own_writes.specs.Carried.{Carries}
use Rattle.plan_tables.specs.declared.rows.TableRows.{TableRows}
use Rattle.stored_versions.specs.Logs.{taken_from}
use Rattle.stored_versions.specs.Openings.{Opening}
use Rattle.stored_versions.specs.StoredViews.{IsStoredView}
use Rattle.table_changes.specs.Changes.{after_changes}
use Rattle.table_changes.specs.declared.change.TableChange.{TableChange}
use Rattle.vra_syntax.specs.declared.write.Write.{Write}
use Rattle.vschema.specs.declared.catalog.Table.{Table}

-- Of each table, these writes carry the rows after the old changes to those after the new ones.
pub record CarriesEach (model : Expr) (tables : List Table) (writes : List Write) (newest : List TableRows) (old new : List TableChange) : Type 0 where
  pub each : (number : ℕ) (table : Table) (it : TableRows) → slice_get tables number ≡ Some table → slice_get newest number ≡ Some it →
      Carries model tables number table writes (after_changes number old it.rows.rows) (after_changes number new it.rows.rows)

-- Whatever the store was opened over and whatever commits it has: where the newest rows of a table are that table then,
-- the rows after the changes are the table after one commit more, if these are its writes that count.
pub record CarriesCommit (model : Expr) (tables : List Table) (writes : List Write) (newest : List TableRows) (changes : List TableChange) : Type 0 where
  pub view : (opening : Opening) (commits : List Commit) (commit : Commit) → opening.catalog.model ≡ model → opening.catalog.tables ≡ tables →
      taken_from opening.catalog commit.writes ≡ writes →
      (number : ℕ) (table : Table) (it : TableRows) → slice_get tables number ≡ Some table → slice_get newest number ≡ Some it →
      IsStoredView opening commits [] number table it.rows.rows → IsStoredView opening (commits ++ commit ∷ []) [] number table (after_changes number changes it.rows.rows)
