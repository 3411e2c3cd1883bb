-- The newest rows of a catalogue's tables, as they are lent.
use Rattle.std.proofs.Common.{◌≡◌, ◌∙◌, ◌<◌, ℕ, zero, suc, ◌+◌, List, [], ◌∷◌, map, length, Option, Some, None, slice_get, refl, sym, ap, subst, arith, rules}
use Rattle.std.proofs.lemmas.Option.{slice_get_within}
use Rattle.commit_changes.specs.Stored.{AreOfTables, AreStored}
use Rattle.plan_tables.specs.declared.rows.TableRows.{TableRows}
use Rattle.row_versions.specs.Changing.{AreChangesOf}
use Rattle.row_versions.specs.Stored.{Stored, newest_tables}
use Rattle.table_changes.specs.declared.change.TableChange.{TableChange}
use Rattle.version_lists.specs.Versions.{Version, newest_rows}
use Rattle.vschema.specs.declared.catalog.Table.{Table}
use Rattle.vtable.specs.declared.table.VColumn.{VColumn}
use Rattle.write_meaning.specs.StoredTables.{stored_columns, stored_table}

stored_from : (number : ℕ) (tables : List Table) (versions : List Version) → AreStored number tables (newest_tables number (map stored_columns tables) versions)
stored_from number [] versions = tt
stored_from number (table ∷ tables) versions = (refl, refl, stored_from (number + 1) tables versions)

pub newest_stored : (tables : List Table) (columns : List (List VColumn)) (versions : List Version) (newest : List TableRows) → columns ≡ map stored_columns tables → newest ≡ newest_tables 0 columns versions → AreStored 0 tables newest
newest_stored tables columns versions newest same is =
    subst (AreStored 0 tables) (sym (is ∙ ap (λ columns. newest_tables 0 columns versions) same)) (stored_from 0 tables versions)

abbrev newest_at : ℕ → Table → List Version → TableRows
newest_at number table versions = record { table = number; rows = stored_table table (newest_rows number versions) }

some_is : {X : Type 0} (a b : X) → Some a ≡ Some b → a ≡ b
some_is a b h = search rules

found_from : (first number : ℕ) (tables : List Table) (table : Table) (versions : List Version) → slice_get tables number ≡ Some table
    → slice_get (newest_tables first (map stored_columns tables) versions) number ≡ Some (newest_at (first + number) table versions)
found_from first number [] table versions there = search rules
found_from first zero (one ∷ tables) table versions there =
    let same : first ≡ first + 0 = omega arith in
    ap (λ it. Some (newest_at first it versions)) (some_is one table there) ∙ ap (λ n. Some (newest_at n table versions)) same
found_from first (suc number) (one ∷ tables) table versions there =
    let same : first + 1 + number ≡ first + suc number = omega arith in
    found_from (first + 1) number tables table versions there ∙ ap (λ n. Some (newest_at n table versions)) same

pub newest_found : (number : ℕ) (tables : List Table) (table : Table) (columns : List (List VColumn)) (versions : List Version) (newest : List TableRows) → columns ≡ map stored_columns tables → newest ≡ newest_tables 0 columns versions
    → slice_get tables number ≡ Some table → slice_get newest number ≡ Some (newest_at number table versions)
newest_found number tables table columns versions newest same is there =
    let at : 0 + number ≡ number = omega arith in
    ap (λ it. slice_get it number) (is ∙ ap (λ columns. newest_tables 0 columns versions) same)
    ∙ found_from 0 number tables table versions there
    ∙ ap (λ n. Some (newest_at n table versions)) at

count_from : (number : ℕ) (columns : List (List VColumn)) (versions : List Version) → length (newest_tables number columns versions) ≡ length columns
count_from number [] versions = refl
count_from number (one ∷ columns) versions = ap suc (count_from (number + 1) columns versions)

pub changes_within : (old : Stored) (newest : List TableRows) (changes : List TableChange) → newest ≡ newest_tables 0 old.columns old.versions → AreOfTables newest changes → AreChangesOf changes old
changes_within old newest [] is h = tt
changes_within old newest (change ∷ changes) is h =
    let within = slice_get_within newest change.table h.0.rows h.0.named in
    let count = ap length is ∙ count_from 0 old.columns old.versions in
    (omega (arith, within, count), changes_within old newest changes is h.1)
