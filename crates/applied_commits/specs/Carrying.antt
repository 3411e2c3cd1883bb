-- What changes of the newest rows make of what the log says.
use Rattle.std.specs.Prelude.{ℕ, ◌≡◌, List, [], ◌∷◌, ◌++◌, Some, slice_get}
use Rattle.commit_log.specs.declared.append.Append.{Append}
use Rattle.commit_log.specs.declared.append.Append.TheVariants as append
use Rattle.commit_log.specs.declared.commit.Commit.{Commit}
use Rattle.row_versions.specs.Changing.{IsChanged}
use Rattle.row_versions.specs.Stored.{Stored}
use Rattle.stored_versions.specs.Logs.{taken_from}
use Rattle.stored_versions.specs.Openings.{Opening}
use Rattle.stored_versions.specs.StoredViews.{IsStoredView}
use Rattle.table_changes.specs.Changes.{after_changes}
use Rattle.table_changes.specs.declared.change.TableChange.{TableChange}
use Rattle.version_lists.specs.Versions.{newest_rows}
use Rattle.vra_syntax.specs.declared.write.Write.{Write}
use Rattle.vschema.specs.declared.catalog.Catalog.{Catalog}
use Rattle.vschema.specs.declared.catalog.Table.{Table}

-- Where the newest rows of a table are that table after some commits, they are it, after the changes, after one more, if
-- these are its writes that count.
pub record CarriesWrites (catalog : Catalog) (old : Stored) (writes : List Write) (changes : List TableChange) : Type 0 where
  pub view : (opening : Opening) (commits : List Commit) (commit : Commit) (number : ℕ) (table : Table) → catalog ≡ opening.catalog → taken_from catalog commit.writes ≡ writes →
      slice_get opening.catalog.tables number ≡ Some table →
      IsStoredView opening commits [] number table (newest_rows number old.versions) → IsStoredView opening (commits ++ commit ∷ []) [] number table (after_changes number changes (newest_rows number old.versions))

-- the changes are made where the commit was added, and no others
abbrev pub ChangesAt : List TableChange → Stored → Append → Stored → Type 0
ChangesAt changes old (append.At k) new = IsChanged changes old new
ChangesAt changes old answer new = new ≡ old

-- of the two, the versions with their changes where the commit was added
abbrev pub settled_by : Append → Stored × Stored → Stored
settled_by (append.At k) prepared = prepared.1
settled_by answer prepared = prepared.0
