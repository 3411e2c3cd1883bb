-- The writes of a log that count.
use Rattle.std.specs.Prelude.{Bool, true, ◌&&◌, List, [], ◌∷◌, flat_map, if◌then◌else◌}
use Rattle.commit_log.specs.declared.commit.Commit.{Commit}
use Rattle.stored_versions.specs.Catalogues.{catalog_after}
use Rattle.stored_versions.specs.Openings.{Opening}
use Rattle.vra_syntax.specs.declared.write.Write.{Write}
use Rattle.vschema.specs.declared.catalog.Catalog.{Catalog}
use Rattle.write_meaning.specs.TakenWrites.{is_taken}

-- those of the writes that count, each over the catalogue at its place
abbrev pub taken_from : Catalog → List Write → List Write
taken_from catalog [] = []
taken_from catalog (w ∷ writes) = if is_taken catalog w then w ∷ taken_from (catalog_after catalog w) writes else taken_from catalog writes

-- all writes of the commits, in order
abbrev pub writes_of : List Commit → List Write
writes_of commits = flat_map (λ (commit : Commit). commit.writes) commits

abbrev pub taken_writes : Opening → List Commit → List Write
taken_writes opening commits = taken_from opening.catalog (writes_of commits)

-- whether each of the writes counts, over the catalogue at its place
abbrev pub all_taken : Catalog → List Write → Bool
all_taken catalog [] = true
all_taken catalog (w ∷ writes) = is_taken catalog w && all_taken (catalog_after catalog w) writes
