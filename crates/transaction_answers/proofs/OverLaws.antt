-- What is answered from the tables after a snapshot's commits and own writes is the answer over them.
use Rattle.std.proofs.Common.{◌≡◌, ◌∙◌, ℕ, Bool, true, false, List, [], ◌∷◌, ◌++◌, take, Option, Some, None, slice_get, refl, sym, ap, subst, arith, if◌then◌else◌}
use Rattle.condition_sat.specs.Admitted.{IsAdmitted}
use Rattle.commit_log.specs.declared.commit.Commit.{Commit}
use Rattle.live_snapshots.specs.Snapshots.{Seen}
use Rattle.plain_relation.specs.Relations.{Relation, SameRelation, absent}
use Rattle.plan_tables.specs.StoredRows.{database_of, relation_by, rows_of, rows_size, size_by}
use Rattle.plan_tables.specs.declared.rows.TableRows.{TableRows}
use Rattle.query_answers.proofs.RunLaws.{can_answer as answerable}
use Rattle.query_answers.specs.Answering.{CanAnswer, IsAnswerFrom}
use Rattle.query_answers.specs.Answers.{IsAnswerTo}
use Rattle.query_answers.specs.Held.{held_mention}
use Rattle.query_meaning.specs.Bounds.{IsWithin, Size, query_size}
use Rattle.query_meaning.specs.Meaning.{meaning}
use Rattle.query_meaning.specs.declared.typed.TypedColumn.{TypedColumn}
use Rattle.query_names.specs.declared.typed.Typed.{Typed}
use Rattle.store_states.specs.Stored.{Stored, log_of}
use Rattle.store_states.specs.Views.{IsOpened, IsStore, IsTidy}
use Rattle.stored_versions.specs.Catalogues.{catalog_after}
use Rattle.stored_versions.specs.Databases.{relation_after, relation_from, sizes_of, table_after, variant_database, writes_to}
use Rattle.stored_versions.specs.Logs.{taken_writes}
use Rattle.stored_versions.specs.Openings.{Opening}
use Rattle.transaction_answers.proofs.ParamLaws.{no_params}
use Rattle.transaction_answers.proofs.SameLaws.{same_meaning}
use Rattle.transaction_answers.proofs.TableLaws.{IsFound, after_holds, after_stored, as_stored, found}
use Rattle.transaction_answers.specs.Answers.{IsAnswer, IsAnswerOf, IsTypedQuery}
use Rattle.transaction_answers.specs.TablesAfter.{AreTablesAfter}
use Rattle.vra_syntax.specs.declared.query.Query.{Query}
use Rattle.vra_syntax.specs.declared.write.Write.{Write}
use Rattle.vra_syntax.specs.declared.write.Write.TheVariants as write
use Rattle.vschema.specs.Variants.{table_in}
use Rattle.vschema.specs.declared.catalog.Catalog.{Catalog}
use Rattle.vschema.specs.declared.catalog.Table.{Table}
use Rattle.vtable.specs.Answers.{answer_at}
use Rattle.vtable.specs.declared.table.VTable.{VTable}
use Rattle.write_meaning.specs.Members.{SameRows}
use Rattle.write_meaning.specs.StoredTables.{stored_table}
use Rattle.write_meaning.specs.StoredTables as stored_tables

-- ---- a typed query can be answered from the tables

pub can_answer : (store : Stored) (snap : Seen) (writes : List Write) (rows : List TableRows) (it : Typed) → IsTidy store → IsOpened store → AreTablesAfter store snap writes rows → IsTypedQuery store.catalog it → CanAnswer store.catalog.model rows it
can_answer store snap writes rows it tidy opened after typed =
    answerable store.catalog.model [] store.catalog.tables typed.query it rows typed.typed (after_holds store snap writes rows after)
    (after_stored store snap writes tidy opened.opening opened.is_store rows after)
    (no_params store.catalog.model store.catalog.tables typed.query typed.typed.well)

-- ---- a number that no table has

nothing_after : (c : List ℕ) (number : ℕ) (table : Option Table) (w : Write) (writes : Bool) → table ≡ None → (if writes then table_after c table w absent else absent) ≡ absent
nothing_after c number table w true none = rw none refl
nothing_after c number table w false none = refl

same_catalog : (catalog : Catalog) (w : Write) → catalog_after catalog w ≡ catalog
same_catalog catalog (write.Insert table names rows expr) = refl
same_catalog catalog (write.Delete table cond expr) = refl
same_catalog catalog (write.Update table items cond expr) = refl

absent_from : (c : List ℕ) (number : ℕ) (catalog : Catalog) (writes : List Write) → slice_get catalog.tables number ≡ None → relation_from c number catalog writes absent ≡ absent
absent_from c number catalog [] none = refl
absent_from c number catalog (w ∷ writes) none =
    subst (λ k. relation_from c number k writes (relation_after c number catalog w absent) ≡ absent) (sym (same_catalog catalog w))
    (subst (λ r. relation_from c number catalog writes r ≡ absent) (sym (nothing_after c number (slice_get catalog.tables number) w (writes_to catalog number w) none)) (absent_from c number catalog writes none))

none_there : (c : List ℕ) (opening : Opening) (commits : List Commit) (writes : List Write) (number : ℕ) → slice_get opening.catalog.tables number ≡ None → variant_database c opening commits writes number ≡ absent
none_there c opening commits writes number none =
    ap (λ table. relation_from c number opening.catalog (taken_writes opening commits ++ writes) (table_in c number table opening.rows)) none
    ∙ absent_from c number opening.catalog (taken_writes opening commits ++ writes) none

same_itself : (r : Relation) → SameRows r r
same_itself r = record { columns = refl; rows = λ row. ((λ x. x), (λ x. x)) }

-- ---- what the tables say, and their sizes

module _ (store : Stored) (snap : Seen) (writes : List Write) (opening : Opening) (is : IsStore opening store) where
  abbrev commits : List Commit
  commits = take snap.1 (log_of store)

  same_by : (c : List ℕ) (number : ℕ) (held : Option TableRows) (table : Option Table) → IsAdmitted opening.catalog.model c → slice_get store.catalog.tables number ≡ table → IsFound store snap writes number held table → SameRows (relation_by c held) (variant_database c opening commits writes number)
  same_by c number None None admitted there it =
      subst (SameRows absent) (sym (none_there c opening commits writes number (sym (ap (λ (k : Catalog). slice_get k.tables number) is.catalog) ∙ there))) (same_itself absent)
  same_by c number None (Some table) admitted there it = absurd it
  same_by c number (Some held) None admitted there it = absurd it
  same_by c number (Some held) (Some table) admitted there it =
      subst (λ t. SameRows (answer_at c t) (variant_database c opening commits writes number)) (as_stored store snap writes table held.rows (it.columns table there))
      ((it.view opening table is there).means c admitted)

  size_within : (number : ℕ) (held : Option TableRows) (table : Option Table) → slice_get store.catalog.tables number ≡ table → IsFound store snap writes number held table → IsWithin (size_by held) (sizes_of opening commits writes number)
  size_within number None None there it = record { rows = omega arith; row_weight = omega arith; column_weight = omega arith }
  size_within number None (Some table) there it = absurd it
  size_within number (Some held) None there it = absurd it
  size_within number (Some held) (Some table) there it =
      subst (λ t. IsWithin (stored_tables.size_of t) (sizes_of opening commits writes number)) (as_stored store snap writes table held.rows (it.columns table there))
      (it.view opening table is there).within

  module _ (rows : List TableRows) (after : AreTablesAfter store snap writes rows) where
    same_rows : (c : List ℕ) → IsAdmitted opening.catalog.model c → (number : ℕ) → SameRows (database_of rows c number) (variant_database c opening commits writes number)
    same_rows c admitted number = same_by c number (rows_of rows number) (slice_get store.catalog.tables number) admitted refl (found store snap writes rows number after)

    within : (number : ℕ) → IsWithin (rows_size rows number) (sizes_of opening commits writes number)
    within number = size_within number (rows_of rows number) (slice_get store.catalog.tables number) refl (found store snap writes rows number after)

-- ---- the answers from them

same_then : (one two three : Relation) → SameRelation one two → SameRelation two three → SameRelation one three
same_then one two three f g = record {
  columns = λ k. (λ x. (g.columns k).0 ((f.columns k).0 x), λ x. (f.columns k).1 ((g.columns k).1 x));
  rows = λ values. (λ x. (g.rows values).0 ((f.rows values).0 x), λ x. (f.rows values).1 ((g.rows values).1 x));
}

abbrev Grows : Type 0
Grows = (tables : List Table) (sizes others : ℕ → Size) (query : Query) → ((table : ℕ) → IsWithin (sizes table) (others table)) → IsWithin (query_size tables sizes query) (query_size tables others query)

abbrev RowsAreSame : Type 0
RowsAreSame = (one other : Relation) → SameRows one other → SameRelation one other

module _ (grows : Grows) (relations : RowsAreSame) (store : Stored) (snap : Seen) (writes : List Write) (rows : List TableRows) (after : AreTablesAfter store snap writes rows) where
  over_is : (opening : Opening) (query : Query) (columns : List TypedColumn) (answer : VTable) → IsStore opening store → IsAnswerTo opening.catalog.model opening.catalog.tables (database_of rows) (rows_size rows) (held_mention rows) query columns answer → IsAnswer opening (take snap.1 (log_of store)) writes query columns answer
  over_is opening query columns answer is it =
      let there : List ℕ → ℕ → Relation = λ c. variant_database c opening (take snap.1 (log_of store)) writes in
      let grown = grows opening.catalog.tables (rows_size rows) (sizes_of opening (take snap.1 (log_of store)) writes) query (within store snap writes opening is rows after) in
      let count = grown.rows in
      let weight = grown.row_weight in
      let most = it.rows in
      let heaviest = it.row_conditions in
      record {
        form = it.form;
        columns_are = it.columns_are;
        formed = it.formed;
        right = λ c admitted.
            same_then (answer_at c answer) (meaning c opening.catalog.tables (database_of rows c) query) (meaning c opening.catalog.tables (there c) query) (it.right c admitted)
            (relations (meaning c opening.catalog.tables (database_of rows c) query) (meaning c opening.catalog.tables (there c) query)
            (same_meaning c opening.catalog.tables (database_of rows c) (there c) query (same_rows store snap writes opening is rows after c admitted)));
        rows = omega (arith, most, count);
        row_conditions = omega (arith, heaviest, count, weight);
      }

  pub over_answers : (it : Typed) (answer : VTable) → IsAnswerFrom store.catalog.model rows it answer → IsAnswerOf store snap writes it answer
  over_answers it answer from = record {
    answers = λ opening query is typed. over_is opening query it.columns answer is
        (subst (λ (k : Catalog). IsAnswerTo k.model k.tables (database_of rows) (rows_size rows) (held_mention rows) query it.columns answer) is.catalog
        (from.answers [] store.catalog.tables query typed (after_holds store snap writes rows after)));
  }
