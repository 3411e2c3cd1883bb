-- The tables of a variant after commits and own writes, and their bounds.
use Rattle.std.specs.Prelude.{ℕ, ◌==◌, Bool, false, List, [], ◌∷◌, ◌++◌, length, Option, Some, None, slice_get, if◌then◌else◌}
use Rattle.plain_relation.specs.Relations.{Relation}
use Rattle.query_meaning.specs.Bounds.{Size, column_weight_of}
use Rattle.stored_versions.specs.Catalogues.{catalog_after, catalog_from, written_number}
use Rattle.stored_versions.specs.Openings.{Opening, opening_rows}
use Rattle.write_meaning.specs.PlainWrites.{after_write, size_after}
use Rattle.stored_versions.specs.Logs.{taken_writes}
use Rattle.commit_log.specs.declared.commit.Commit.{Commit}
use Rattle.vra_syntax.specs.declared.write.Write.{Write}
use Rattle.vschema.specs.Variants.{opening_database}
use Rattle.vschema.specs.declared.catalog.Catalog.{Catalog}
use Rattle.vschema.specs.declared.catalog.Table.{Table}
use Rattle.vtable.specs.TableForm.{rows_weight}

abbrev pub is_number : ℕ → Option ℕ → Bool
is_number number None = false
is_number number (Some other) = other == number

-- whether the write names the table with this number
abbrev pub writes_to : Catalog → ℕ → Write → Bool
writes_to catalog number w = is_number number (written_number catalog w)

-- the table with a number, after a write that names it
abbrev pub table_after : List ℕ → Option Table → Write → Relation → Relation
table_after c None w r = r
table_after c (Some table) w r = after_write c table w r

abbrev pub relation_after : List ℕ → ℕ → Catalog → Write → Relation → Relation
relation_after c number catalog w r = if writes_to catalog number w then table_after c (slice_get catalog.tables number) w r else r

-- after writes, one after another
abbrev pub relation_from : List ℕ → ℕ → Catalog → List Write → Relation → Relation
relation_from c number catalog [] r = r
relation_from c number catalog (w ∷ writes) r = relation_from c number (catalog_after catalog w) writes (relation_after c number catalog w r)

-- the variant's tables by their numbers, after these commits and then these writes
abbrev pub variant_database : List ℕ → Opening → List Commit → List Write → ℕ → Relation
variant_database c opening commits writes number =
    relation_from c number opening.catalog (taken_writes opening commits ++ writes) (opening_database c opening.catalog opening.rows number)

-- the catalogue after these commits and then these writes
abbrev pub catalog_at : Opening → List Commit → List Write → Catalog
catalog_at opening commits writes = catalog_from opening.catalog (taken_writes opening commits ++ writes)

abbrev pub bounds_after : ℕ → Catalog → Write → Size → Size
bounds_after number catalog w size = if writes_to catalog number w then size_after w size else size

abbrev pub bounds_from : ℕ → Catalog → List Write → Size → Size
bounds_from number catalog [] size = size
bounds_from number catalog (w ∷ writes) size = bounds_from number (catalog_after catalog w) writes (bounds_after number catalog w size)

-- before any commit
abbrev pub opening_size : Opening → ℕ → Size
opening_size opening number = record {
  rows = length (opening_rows number opening.rows);
  row_weight = rows_weight (opening_rows number opening.rows);
  column_weight = column_weight_of (slice_get opening.catalog.tables number);
}

-- how great the tables are at most, after these commits and then these writes
abbrev pub sizes_of : Opening → List Commit → List Write → ℕ → Size
sizes_of opening commits writes number = bounds_from number opening.catalog (taken_writes opening commits ++ writes) (opening_size opening number)
