-- When rows under conditions are a table after commits and own writes.
use Rattle.std.specs.Prelude.{ℕ, List}
use Rattle.commit_log.specs.declared.commit.Commit.{Commit}
use Rattle.stored_versions.specs.Databases.{sizes_of, variant_database}
use Rattle.stored_versions.specs.Openings.{Opening}
use Rattle.vra_syntax.specs.declared.write.Write.{Write}
use Rattle.vschema.specs.declared.catalog.Table.{Table}
use Rattle.vtable.specs.declared.table.VRow.{VRow}
use Rattle.write_meaning.specs.TableViews.{IsTableView}

-- These rows are the table with this number after these commits and then these writes: in each admitted variant well
-- formed and the variant's table, and within its bounds.
abbrev pub IsStoredView : Opening → List Commit → List Write → ℕ → Table → List VRow → Type 0
IsStoredView opening commits writes number table rows =
    IsTableView opening.catalog.model table rows (λ c. variant_database c opening commits writes number) (sizes_of opening commits writes number)
