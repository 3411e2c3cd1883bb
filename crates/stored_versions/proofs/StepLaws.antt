-- One write more, on rows that are a table; and a commit as the writes of it that count.
use Rattle.std.proofs.Common.{◌≡◌, ℕ, ◌==◌, Bool, true, false, if◌then◌else◌, List, [], ◌∷◌, ◌++◌, Option, Some, None, slice_get, refl, sym, ◌∙◌, ap, subst, arith, rules, append-nil}
use Rattle.std.specs.Option.{option_and_then}
use Rattle.std.proofs.lemmas.Bool.Decides.{nat_tests}
use Rattle.std.proofs.lemmas.Grind.{flat_map-append}
use Rattle.commit_log.specs.declared.commit.Commit.{Commit}
use Rattle.plain_relation.specs.Relations.{Relation}
use Rattle.query_meaning.specs.Bounds.{IsWithin, Size, column_weight_of, table_column_weight}
use Rattle.query_meaning.specs.Sources.{table_named}
use Rattle.query_meaning.specs.WriteTyping.{table_name_of}
use Rattle.stored_versions.proofs.LogLaws.{database_after, sizes_after}
use Rattle.stored_versions.specs.Catalogues.{catalog_after, catalog_from, written_number}
use Rattle.stored_versions.specs.Databases.{bounds_after, bounds_from, catalog_at, is_number, opening_size, sizes_of, table_after, variant_database, writes_to}
use Rattle.stored_versions.specs.Logs.{taken_from, taken_writes, writes_of}
use Rattle.stored_versions.specs.Openings.{Opening}
use Rattle.stored_versions.specs.StoredViews.{IsStoredView}
use Rattle.vra_syntax.specs.declared.write.Write.{Write}
use Rattle.vra_syntax.specs.declared.write.Write.TheVariants as write
use Rattle.vschema.specs.declared.catalog.Catalog.{Catalog}
use Rattle.vschema.specs.declared.catalog.Table.{Table}
use Rattle.vtable.specs.declared.table.VRow.{VRow}
use Rattle.write_meaning.proofs.RelationLaws.{columns_stay}
use Rattle.write_meaning.proofs.TakenLaws.{view_after}
use Rattle.write_meaning.specs.Members.{SameRows}
use Rattle.write_meaning.specs.PlainWrites.{after_write, size_after}
use Rattle.write_meaning.specs.RowWrites.{IsRowWrite}
use Rattle.write_meaning.specs.StoredTables.{size_of, stored_table}
use Rattle.write_meaning.specs.TableViews.{IsTableView}
use Rattle.write_meaning.specs.TakenWrites.{is_taken}
use Rattle.vtable.specs.Answers.{answer_at}

-- no write changes the catalogue yet

after_stays : (catalog : Catalog) (w : Write) → catalog_after catalog w ≡ catalog
after_stays catalog (write.Insert table names rows expr) = refl
after_stays catalog (write.Delete table cond expr) = refl
after_stays catalog (write.Update table items cond expr) = refl

catalog_stays : (writes : List Write) (catalog : Catalog) → catalog_from catalog writes ≡ catalog
catalog_stays [] catalog = refl
catalog_stays (w ∷ writes) catalog = catalog_stays writes (catalog_after catalog w) ∙ after_stays catalog w

-- the bound of a table's columns stays

bound_by : (w : Write) (size : Size) (b : Bool) → (if b then size_after w size else size).column_weight ≡ size.column_weight
bound_by w size true = columns_stay w size
bound_by w size false = refl

bounds_stay : (number : ℕ) (writes : List Write) (catalog : Catalog) (size : Size) → (bounds_from number catalog writes size).column_weight ≡ size.column_weight
bounds_stay number [] catalog size = refl
bounds_stay number (w ∷ writes) catalog size = bounds_stay number writes (catalog_after catalog w) (bounds_after number catalog w size) ∙ bound_by w size (writes_to catalog number w)

module _ (opening : Opening) (commits : List Commit) (writes : List Write) (w : Write) (number : ℕ) (table : Table) where
  abbrev here : Catalog
  here = catalog_at opening commits writes

  abbrev database : List ℕ → Relation
  database c = variant_database c opening commits writes number

  here_is : here ≡ opening.catalog
  here_is = catalog_stays (taken_writes opening commits ++ writes) opening.catalog

  bound_is : slice_get here.tables number ≡ Some table → (sizes_of opening commits writes number).column_weight ≡ table_column_weight table
  bound_is found =
      bounds_stay number (taken_writes opening commits ++ writes) opening.catalog (opening_size opening number)
      ∙ ap column_weight_of (ap (λ (catalog : Catalog). slice_get catalog.tables number) (sym here_is) ∙ found)

  eq_of : (a b : ℕ) → (a == b) ≡ true → a ≡ b
  eq_of a b h = grind (arith, nat_tests)

  number_by : (it : Option ℕ) → is_number number it ≡ true → it ≡ Some number
  number_by None h = search rules
  number_by (Some other) h = ap Some (eq_of other number h)

  named_is : slice_get here.tables number ≡ Some table → writes_to here number w ≡ true → table_named here.tables (table_name_of w) ≡ Some table
  named_is found named = ap (option_and_then (slice_get here.tables)) (number_by (written_number here w) named) ∙ found

  database_is : slice_get here.tables number ≡ Some table → writes_to here number w ≡ true → (c : List ℕ) → variant_database c opening commits (writes ++ w ∷ []) number ≡ after_write c table w (database c)
  database_is found named c =
      database_after c opening commits writes w number
      ∙ ap (λ b. if b then table_after c (slice_get here.tables number) w (database c) else database c) named
      ∙ ap (λ (it : Option Table). table_after c it w (database c)) found

  sizes_is : writes_to here number w ≡ true → sizes_of opening commits (writes ++ w ∷ []) number ≡ size_after w (sizes_of opening commits writes number)
  sizes_is named =
      sizes_after opening commits writes w number
      ∙ ap (λ b. if b then size_after w (sizes_of opening commits writes number) else sizes_of opening commits writes number) named

  -- a write of the table
  pub view_written : (old new : List VRow) → is_taken here w ≡ true → slice_get here.tables number ≡ Some table → writes_to here number w ≡ true → IsRowWrite here.model table w old new → IsStoredView opening commits writes number table old → IsStoredView opening commits (writes ++ w ∷ []) number table new
  view_written old new taken found named it view =
      let same : here.model ≡ opening.catalog.model = ap (λ (catalog : Catalog). catalog.model) here_is in
      let after = view_after here table w old new database (sizes_of opening commits writes number) taken (named_is found named) (bound_is found) it
      (subst (λ model. IsTableView model table old database (sizes_of opening commits writes number)) (sym same) view) in
      let there = subst (λ model. IsTableView model table new (λ c. after_write c table w (database c)) (size_after w (sizes_of opening commits writes number))) same after in
      record {
        formed = there.formed;
        means = λ c admitted. subst (λ (relation : Relation). SameRows (answer_at c (stored_table table new)) relation) (sym (database_is found named c)) (there.means c admitted);
        within = subst (λ (size : Size). IsWithin (size_of (stored_table table new)) size) (sym (sizes_is named)) there.within;
      }

  -- a write of another table
  pub view_left : (rows : List VRow) → writes_to here number w ≡ false → IsStoredView opening commits writes number table rows → IsStoredView opening commits (writes ++ w ∷ []) number table rows
  view_left rows other view = record {
    formed = view.formed;
    means = λ c admitted. subst (λ (relation : Relation). SameRows (answer_at c (stored_table table rows)) relation)
        (sym (database_after c opening commits writes w number ∙ ap (λ b. if b then table_after c (slice_get here.tables number) w (database c) else database c) other)) (view.means c admitted);
    within = subst (λ (size : Size). IsWithin (size_of (stored_table table rows)) size)
        (sym (sizes_after opening commits writes w number ∙ ap (λ b. if b then size_after w (sizes_of opening commits writes number) else sizes_of opening commits writes number) other)) view.within;
  }

-- A commit is its writes that count.

taken_by : (w : Write) (xs ys : List Write) (catalog : Catalog) (b : Bool)
    → ((later : Catalog) → taken_from later (xs ++ ys) ≡ taken_from later xs ++ taken_from (catalog_from later (taken_from later xs)) ys)
    → (if b then w ∷ taken_from (catalog_after catalog w) (xs ++ ys) else taken_from catalog (xs ++ ys))
    ≡ (if b then w ∷ taken_from (catalog_after catalog w) xs else taken_from catalog xs) ++ taken_from (catalog_from catalog (if b then w ∷ taken_from (catalog_after catalog w) xs else taken_from catalog xs)) ys
taken_by w xs ys catalog true on = ap (λ ws. w ∷ ws) (on (catalog_after catalog w))
taken_by w xs ys catalog false on = on catalog

taken_append : (xs ys : List Write) (catalog : Catalog) → taken_from catalog (xs ++ ys) ≡ taken_from catalog xs ++ taken_from (catalog_from catalog (taken_from catalog xs)) ys
taken_append [] ys catalog = refl
taken_append (w ∷ xs) ys catalog = taken_by w xs ys catalog (is_taken catalog w) (λ later. taken_append xs ys later)

writes_more : (commits : List Commit) (commit : Commit) → writes_of (commits ++ commit ∷ []) ≡ writes_of commits ++ commit.writes
writes_more commits commit = flat_map-append (λ (commit : Commit). commit.writes) commits (commit ∷ []) ∙ ap (λ ws. writes_of commits ++ ws) (append-nil commit.writes)

-- the writes that count, with one commit more
pub commit_taken : (opening : Opening) (commits : List Commit) (commit : Commit) → taken_writes opening (commits ++ commit ∷ []) ≡ taken_writes opening commits ++ taken_from (catalog_at opening commits []) commit.writes
commit_taken opening commits commit =
    ap (taken_from opening.catalog) (writes_more commits commit)
    ∙ taken_append (writes_of commits) commit.writes opening.catalog
    ∙ ap (λ ws. taken_writes opening commits ++ taken_from (catalog_from opening.catalog ws) commit.writes) (sym (append-nil (taken_writes opening commits)))
