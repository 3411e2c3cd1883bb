-- The rows that are counted are those of the write's table, after the snapshot's commits and the own writes.
use Rattle.std.proofs.Common.{◌≡◌, ◌∙◌, ℕ, zero, suc, ◌+◌, ◌<◌, ◌==◌, Bool, true, false, ◌||◌, cond, List, [], ◌∷◌, ◌++◌, length, take, Option, Some, None, slice_get, get_or, Result, Ok, Err, IfOk, refl, sym, ap, subst, arith, rules, append_assoc, append-nil}
use Rattle.std.proofs.Math.Seq.{take-length}
use Rattle.std.proofs.lemmas.Bool.Decides.{nat_tests}
use Rattle.std.proofs.lemmas.List.Quantifiers.{position-Some}
use Rattle.std.proofs.lemmas.Slice.Eq.{bytes_eq-Decides}
use Rattle.std.specs.List.{list_any}
use Rattle.std.specs.Str.{bytes_eq}
use Rattle.commit_log.specs.declared.commit.Commit.{Commit}
use Rattle.counted_writes.specs.Counted.{IsCountOf, is_insert}
use Rattle.feature_expr.specs.declared.expr.Expr.{Expr}
use Rattle.live_snapshots.specs.Snapshots.{IsLive, Seen}
use Rattle.plain_relation.specs.Relations.{Relation}
use Rattle.plan_tables.specs.declared.rows.TableRows.{TableRows}
use Rattle.query_meaning.specs.Bounds.{Size}
use Rattle.query_meaning.specs.Sources.{number_of}
use Rattle.query_meaning.specs.WriteTyping.{table_name_of}
use Rattle.snapshot_store.specs.Parts.{IsCounted}
use Rattle.store_states.proofs.LiveLaws.{live_view}
use Rattle.store_states.proofs.TakenLaws.{catalog_same}
use Rattle.store_states.specs.Reads.{IsRowsAt, seen_tables}
use Rattle.store_states.specs.Stored.{Stored, log_of}
use Rattle.store_states.specs.Views.{IsStore, IsTidy}
use Rattle.stored_versions.proofs.StepLaws.{view_left}
use Rattle.stored_versions.specs.Catalogues.{written_number}
use Rattle.stored_versions.specs.Conflicts.{names_table}
use Rattle.stored_versions.specs.Databases.{catalog_at, is_number, variant_database, writes_to}
use Rattle.stored_versions.specs.Openings.{Opening}
use Rattle.stored_versions.specs.StoredViews.{IsStoredView}
use Rattle.version_lists.specs.Versions.{Version, rows_seen}
use Rattle.vra_syntax.specs.declared.write.Write.{Write}
use Rattle.vra_syntax.specs.declared.write.Write.TheVariants as write
use Rattle.vschema.specs.declared.catalog.Catalog.{Catalog}
use Rattle.vschema.specs.declared.catalog.Table.{Table}
use Rattle.vtable.specs.Answers.{IsAnswerAt, answer_at}
use Rattle.vtable.specs.declared.table.VRow.{VRow}
use Rattle.vtable.specs.declared.table.VTable.{VTable}
use Rattle.write_counts.specs.Counts.{AreRowsOf, IsCount}
use Rattle.write_meaning.specs.Members.{SameRows}
use Rattle.write_meaning.specs.StoredTables.{stored_table}
use Rattle.write_meaning.specs.TableViews.{IsTableView}

some_is : {X : Type 0} (a b : X) → Some a ≡ Some b → a ≡ b
some_is a b h = search rules

rows_of : (model : Expr) (table : Table) (rows : List VRow) (there : List ℕ → Relation) (size : Size) → IsTableView model table rows there size → AreRowsOf model table rows there
rows_of model table rows there size view = λ c admitted. (view.formed c admitted, view.means c admitted)

-- these rows are the table with this number after the snapshot's commits and the own writes
pub record AreRows (store : Stored) (snap : Seen) (writes : List Write) (number : ℕ) (rows : List VRow) : Type 0 where
  pub view : (opening : Opening) (table : Table) → IsStore opening store → slice_get store.catalog.tables number ≡ Some table → IsStoredView opening (take snap.1 (log_of store)) writes number table rows

-- so many are so many behind the own writes
pub counted : (store : Stored) (snap : Seen) (writes : List Write) (w : Write) (number : ℕ) (rows : List VRow) (count : ℕ) → written_number store.catalog w ≡ Some number → AreRows store snap writes number rows
    → IsCountOf store.catalog number w rows count → IsCounted store snap writes w count
counted store snap writes w number rows count is are it = record {
  counted = λ opening other table store_is named there.
      let same : number ≡ other = some_is number other (sym is ∙ named) in
      let at : slice_get store.catalog.tables number ≡ Some table = ap (λ n. slice_get store.catalog.tables n) same ∙ there in
      let database : List ℕ → Relation = λ c. variant_database c opening (take snap.1 (log_of store)) writes number in
      let rows_there : AreRowsOf store.catalog.model table rows (λ c. variant_database c opening (take snap.1 (log_of store)) writes number) =
      subst (λ (catalog : Catalog). AreRowsOf catalog.model table rows (λ c. variant_database c opening (take snap.1 (log_of store)) writes number)) (sym store_is.catalog)
      (rows_of opening.catalog.model table rows (λ c. variant_database c opening (take snap.1 (log_of store)) writes number) _ (are.view opening table store_is at)) in
      subst (λ n. IsCount store.catalog.model table w (λ c. variant_database c opening (take snap.1 (log_of store)) writes n) count) same
      (it.over table at (λ c. variant_database c opening (take snap.1 (log_of store)) writes number) rows_there);
}

-- ---- no table is named

pub unknown_counted : (store : Stored) (snap : Seen) (writes : List Write) (w : Write) (count : ℕ) → written_number store.catalog w ≡ None → IsCounted store snap writes w count
unknown_counted store snap writes w count none = record {
  counted = λ opening number table store_is named there. let never : None ≡ Some number = sym none ∙ named in search rules;
}

-- ---- an INSERT

inserted_by : (model : Expr) (table : Table) (w : Write) (one other : List ℕ → Relation) (count : ℕ) → is_insert w ≡ true → IsCount model table w one count → IsCount model table w other count
inserted_by model table (write.Insert name names rows expr) one other count is it = it
inserted_by model table (write.Delete name cond expr) one other count is it = search rules
inserted_by model table (write.Update name items cond expr) one other count is it = search rules

same_itself : (r : Relation) → SameRows r r
same_itself r = record { columns = refl; rows = λ row. (λ h. h, λ h. h) }

-- a table without rows is an answer, where one with rows is
none_formed : (c : List ℕ) (table : Table) (rows : List VRow) → IsAnswerAt c (stored_table table rows) → IsAnswerAt c (stored_table table [])
none_formed c table rows formed = record { distinct = formed.distinct; whole = refl; filled = refl }

pub inserted_counted : (store : Stored) (snap : Seen) (writes : List Write) (w : Write) (number : ℕ) (count : ℕ) → IsTidy store → IsLive store.live snap → written_number store.catalog w ≡ Some number → is_insert w ≡ true
    → IsCountOf store.catalog number w [] count → IsCounted store snap writes w count
inserted_counted store snap writes w number count tidy live is insert it = record {
  counted = λ opening other table store_is named there.
      let same : number ≡ other = some_is number other (sym is ∙ named) in
      let at : slice_get store.catalog.tables number ≡ Some table = ap (λ n. slice_get store.catalog.tables n) same ∙ there in
      let view = live_view opening store snap number table tidy live store_is at in
      let none : AreRowsOf store.catalog.model table [] (λ c. answer_at c (stored_table table [])) =
      subst (λ (catalog : Catalog). AreRowsOf catalog.model table [] (λ c. answer_at c (stored_table table []))) (sym store_is.catalog)
      (λ c admitted. (none_formed c table (rows_seen snap.1 number store.rows.versions) (view.formed c admitted), same_itself (answer_at c (stored_table table [])))) in
      inserted_by store.catalog.model table w (λ c. answer_at c (stored_table table [])) (λ c. variant_database c opening (take snap.1 (log_of store)) writes other) count insert
      (it.over table at (λ c. answer_at c (stored_table table [])) none);
}

-- ---- the newest rows

pub seen_length : (s from : ℕ) (tables : List Table) (versions : List Version) → length (seen_tables s from tables versions) ≡ length tables
seen_length s from [] versions = refl
seen_length s from (table ∷ tables) versions = ap suc (seen_length s (from + 1) tables versions)

placed : (tables : List Table) (name : List ℕ) (number : ℕ) → number_of tables name ≡ Some number → number < length tables
placed [] name number is = search rules
placed (table ∷ tables) name number is = (position-Some (λ (t : Table). bytes_eq t.name name) (table ∷ tables) number table is).0

pub lent_within : (store : Stored) (snap : Seen) (w : Write) (number : ℕ) (all : List TableRows) → written_number store.catalog w ≡ Some number → all ≡ seen_tables snap.1 0 store.catalog.tables store.rows.versions → number < length all
lent_within store snap w number all is are =
    subst (λ n. number < n) (sym (ap length are ∙ seen_length snap.1 0 store.catalog.tables store.rows.versions)) (placed store.catalog.tables (table_name_of w) number is)

seen_at : (s from n : ℕ) (tables : List Table) (versions : List Version) (table : Table) → slice_get tables n ≡ Some table
    → slice_get (seen_tables s from tables versions) n ≡ Some (record { table = from + n; rows = stored_table table (rows_seen s (from + n) versions) })
seen_at s from n [] versions table there = search rules
seen_at s from zero (one ∷ tables) versions table there =
    let e : from ≡ from + 0 = omega arith in
    ap (λ t. Some (record { table = from; rows = stored_table t (rows_seen s from versions) })) (some_is one table there)
    ∙ ap (λ k. Some (record { table = k; rows = stored_table table (rows_seen s k versions) })) e
seen_at s from (suc n) (one ∷ tables) versions table there =
    let e : from + 1 + n ≡ from + suc n = omega arith in
    seen_at s (from + 1) n tables versions table there
    ∙ ap (λ k. Some (record { table = k; rows = stored_table table (rows_seen s k versions) })) e

lent_is : (s number : ℕ) (tables : List Table) (versions : List Version) (all : List TableRows) (lent : TableRows) (table : Table) → all ≡ seen_tables s 0 tables versions → slice_get all number ≡ Some lent → slice_get tables number ≡ Some table
    → lent.rows.rows ≡ rows_seen s number versions
lent_is s number tables versions all lent table are there at =
    let same : 0 + number ≡ number = omega arith in
    ap (λ (it : TableRows). it.rows.rows)
    (some_is lent (record { table = 0 + number; rows = stored_table table (rows_seen s (0 + number) versions) }) (sym there ∙ ap (λ xs. slice_get xs number) are ∙ seen_at s 0 number tables versions table at))
    ∙ ap (λ n. rows_seen s n versions) same

-- ---- own writes of other tables

or_first : (a b : Bool) → (a || b) ≡ false → a ≡ false
or_first true b h = h
or_first false b h = refl

or_second : (a b : Bool) → (a || b) ≡ false → b ≡ false
or_second true b h = search rules
or_second false b h = h

-- a table with this number has one name
one_name : (tables : List Table) (table : Table) (name other : List ℕ) (number n : ℕ) → n ≡ number → number_of tables name ≡ Some number → number_of tables other ≡ Some n → bytes_eq other name ≡ true
one_name tables table name other number n same one two =
    let first = (bytes_eq-Decides (get_or tables number table).name name).0 (position-Some (λ (t : Table). bytes_eq t.name name) tables number table one).1 in
    let second = (bytes_eq-Decides (get_or tables n table).name other).0 (position-Some (λ (t : Table). bytes_eq t.name other) tables n table two).1 in
    (bytes_eq-Decides other name).1 (sym second ∙ ap (λ k. (get_or tables k table).name) same ∙ first)

eq_of : (a b : ℕ) → (a == b) ≡ true → a ≡ b
eq_of a b h = grind (arith, nat_tests)

other_by : (tables : List Table) (table : Table) (name other : List ℕ) (number n : ℕ) (b : Bool) → (n == number) ≡ b → bytes_eq other name ≡ false → number_of tables name ≡ Some number → number_of tables other ≡ Some n → b ≡ false
other_by tables table name other number n false is apart one two = refl
other_by tables table name other number n true is apart one two = sym (one_name tables table name other number n (eq_of n number is) one two) ∙ apart

other_number : (tables : List Table) (table : Table) (name other : List ℕ) (number : ℕ) (it : Option ℕ) → number_of tables other ≡ it → bytes_eq other name ≡ false → number_of tables name ≡ Some number → is_number number it ≡ false
other_number tables table name other number None is apart one = refl
other_number tables table name other number (Some n) is apart one = other_by tables table name other number n (n == number) refl apart one is

module _ (opening : Opening) (commits : List Commit) (number : ℕ) (table : Table) (name : List ℕ) (rows : List VRow) (named : number_of opening.catalog.tables name ≡ Some number) where
  other_write : (own : List Write) (w : Write) → names_table name w ≡ false → writes_to (catalog_at opening commits own) number w ≡ false
  other_write own w apart =
      ap (λ (catalog : Catalog). writes_to catalog number w) (catalog_same opening commits own)
      ∙ other_number opening.catalog.tables table name (table_name_of w) number (number_of opening.catalog.tables (table_name_of w)) refl apart named

  -- writes of other tables leave the rows
  others_left : (own more : List Write) → list_any (names_table name) more ≡ false → IsStoredView opening commits own number table rows → IsStoredView opening commits (own ++ more) number table rows
  others_left own [] none view = subst (λ ws. IsStoredView opening commits ws number table rows) (sym (append-nil own)) view
  others_left own (w ∷ more) none view =
      subst (λ ws. IsStoredView opening commits ws number table rows) (append_assoc own (w ∷ []) more)
      (others_left (own ++ w ∷ []) more (or_second (names_table name w) (list_any (names_table name) more) none)
      (view_left opening commits own w number table rows (other_write own w (or_first (names_table name w) (list_any (names_table name) more) none)) view))

pub lent_rows : (store : Stored) (snap : Seen) (writes : List Write) (w : Write) (number : ℕ) (all : List TableRows) (lent : TableRows) → IsTidy store → IsLive store.live snap → written_number store.catalog w ≡ Some number
    → list_any (names_table (table_name_of w)) writes ≡ false → all ≡ seen_tables snap.1 0 store.catalog.tables store.rows.versions → slice_get all number ≡ Some lent → AreRows store snap writes number lent.rows.rows
lent_rows store snap writes w number all lent tidy live is none are there = record {
  view = λ opening table store_is at.
      let named : number_of opening.catalog.tables (table_name_of w) ≡ Some number = sym (ap (λ (catalog : Catalog). number_of catalog.tables (table_name_of w)) store_is.catalog) ∙ is in
      others_left opening (take snap.1 (log_of store)) number table (table_name_of w) lent.rows.rows named [] writes none
      (subst (IsStoredView opening (take snap.1 (log_of store)) [] number table) (sym (lent_is snap.1 number store.catalog.tables store.rows.versions all lent table are there at)) (live_view opening store snap number table tidy live store_is at));
}

-- ---- the rows after the own writes

pub written_rows : (store : Stored) (snap : Seen) (writes : List Write) (number count : ℕ) (it : VTable) → count ≡ length writes → IsRowsAt store snap number (take count writes) it → AreRows store snap writes number it.rows
written_rows store snap writes number count it all at =
    let same : take count writes ≡ writes = ap (λ n. take n writes) all ∙ take-length writes in
    record { view = λ opening table store_is there. subst (λ ws. IsStoredView opening (take snap.1 (log_of store)) ws number table it.rows) same (at.view opening table store_is there) }

pub map_ok : {X E : Type 0} {P Q : X → Type 0} (result : Result X E) → ((x : X) → P x → Q x) → IfOk result P → IfOk result Q
map_ok (Ok x) f h = f x h
map_ok (Err e) f h = tt
