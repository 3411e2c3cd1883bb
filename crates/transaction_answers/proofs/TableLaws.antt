-- The tables of a store's catalogue, each after what a snapshot sees and own writes, are rows that a query can be answered
-- from.
use Rattle.std.proofs.Common.{◌≡◌, ◌∙◌, ℕ, zero, suc, ◌+◌, ◌<◌, ◌≤◌, true, false, List, [], ◌∷◌, ◌++◌, append-nil, length, take, drop, Option, Some, None, option_map, slice_get, refl, sym, ap, subst, arith, eq-eqb}
use Rattle.std.proofs.lemmas.Bool.{ne_eqb}
use Rattle.std.specs.List.{AllByRecursion}
use Rattle.condition_sat.specs.Admitted.{IsAdmitted}
use Rattle.live_snapshots.specs.Snapshots.{Seen}
use Rattle.plan_tables.specs.StoredRows.{IsStored, are_distinct, rows_of, table_numbers}
use Rattle.plan_tables.specs.declared.rows.TableRows.{TableRows}
use Rattle.query_answers.proofs.ScanLaws.{scan_stored}
use Rattle.query_answers.specs.Held.{HoldsTables, held_columns}
use Rattle.query_meaning.specs.Plans.{has_number}
use Rattle.store_states.specs.Reads.{IsRowsAt}
use Rattle.store_states.specs.Stored.{Stored}
use Rattle.store_states.specs.Views.{IsStore, IsTidy}
use Rattle.stored_versions.specs.Openings.{Opening}
use Rattle.transaction_answers.specs.TablesAfter.{AreFrom, AreTablesAfter}
use Rattle.vra_syntax.specs.declared.write.Write.{Write}
use Rattle.vschema.specs.declared.catalog.Catalog.{Catalog}
use Rattle.vschema.specs.declared.catalog.Table.{Table}
use Rattle.vtable.specs.Answers.{IsAnswerAt}
use Rattle.vtable.specs.TableForm.{columns_are_distinct}
use Rattle.vtable.specs.declared.table.VColumn.{VColumn}
use Rattle.vtable.specs.declared.table.VTable.{VTable}
use Rattle.write_meaning.specs.StoredTables.{stored_columns, stored_table}

module _ (store : Stored) (snap : Seen) (writes : List Write) where
  abbrev Are : ℕ → List Table → List TableRows → Type 0
  Are = AreFrom store snap writes

  -- ---- a table under its number

  abbrev pub IsFound : ℕ → Option TableRows → Option Table → Type 0
  IsFound number None None = Unit {0}
  IsFound number (Some held) (Some table) = IsRowsAt store snap number writes held.rows
  IsFound number None (Some table) = ⊥
  IsFound number (Some held) None = ⊥

  here_found : (number k : ℕ) (held : TableRows) (rows : List TableRows) (table : Table) → number ≡ k → held.table ≡ k → IsRowsAt store snap k writes held.rows → IsFound number (rows_of (held ∷ rows) number) (Some table)
  here_found number k held rows table is at there = rw (eq-eqb held.table number (at ∙ sym is)) (subst (λ n. IsRowsAt store snap n writes held.rows) (sym is) there)

  other_found : (number k : ℕ) (held : TableRows) (rows : List TableRows) → k < number → held.table ≡ k → rows_of (held ∷ rows) number ≡ rows_of rows number
  other_found number k held rows less at = rw (ne_eqb held.table number (λ is. let e = is in omega (arith, less, e, at))) refl

  found_from : (number k n : ℕ) (tables : List Table) (rows : List TableRows) → number ≡ k + n → Are k tables rows → IsFound number (rows_of rows number) (slice_get tables n)
  found_from number k n [] [] is are = tt
  found_from number k n [] (held ∷ rows) is are = absurd are
  found_from number k n (table ∷ tables) [] is are = absurd are
  found_from number k zero (table ∷ tables) (held ∷ rows) is are = here_found number k held rows table (omega (arith, is)) are.0 are.1
  found_from number k (suc n) (table ∷ tables) (held ∷ rows) is are =
      subst (λ x. IsFound number x (slice_get tables n)) (sym (other_found number k held rows (omega (arith, is)) are.0))
      (found_from number (suc k) n tables rows (omega (arith, is)) are.2)

  pub found : (rows : List TableRows) (number : ℕ) → AreTablesAfter store snap writes rows → IsFound number (rows_of rows number) (slice_get store.catalog.tables number)
  found rows number after = found_from number 0 number store.catalog.tables rows (omega arith) after.are

  -- ---- each table once, with its columns

  lacks_lower : (j k : ℕ) (tables : List Table) (rows : List TableRows) → j < k → Are k tables rows → has_number j (table_numbers rows) ≡ false
  lacks_lower j k [] [] less are = refl
  lacks_lower j k [] (held ∷ rows) less are = absurd are
  lacks_lower j k (table ∷ tables) [] less are = absurd are
  lacks_lower j k (table ∷ tables) (held ∷ rows) less are =
      let at = are.0 in
      rw (ne_eqb held.table j (λ is. let e = is in omega (arith, less, e, at))) (lacks_lower j (suc k) tables rows (omega (arith, less)) are.2)

  numbers_distinct : (k : ℕ) (tables : List Table) (rows : List TableRows) → Are k tables rows → are_distinct (table_numbers rows) ≡ true
  numbers_distinct k [] [] are = refl
  numbers_distinct k [] (held ∷ rows) are = absurd are
  numbers_distinct k (table ∷ tables) [] are = absurd are
  numbers_distinct k (table ∷ tables) (held ∷ rows) are =
      let at = are.0 in
      rw (lacks_lower held.table (suc k) tables rows (omega (arith, at)) are.2) (numbers_distinct (suc k) tables rows are.2)

  columns_found : (number : ℕ) (held : Option TableRows) (table : Option Table) → slice_get store.catalog.tables number ≡ table → IsFound number held table → option_map (λ (it : TableRows). it.rows.columns) held ≡ option_map held_columns table
  columns_found number None None is it = refl
  columns_found number None (Some table) is it = absurd it
  columns_found number (Some held) None is it = absurd it
  columns_found number (Some held) (Some table) is it = ap Some (it.columns table is)

  pub after_holds : (rows : List TableRows) → AreTablesAfter store snap writes rows → HoldsTables store.catalog.tables rows
  after_holds rows after = record {
    distinct = numbers_distinct 0 store.catalog.tables rows after.are;
    columns = λ number. columns_found number (rows_of rows number) (slice_get store.catalog.tables number) refl (found rows number after);
  }

  -- ---- each is well formed

  pub as_stored : (table : Table) (it : VTable) → it.columns ≡ stored_columns table → stored_table table it.rows ≡ it
  as_stored table it are = ap (λ (columns : List VColumn). (let made : VTable = record { columns = columns; rows = it.rows } in made)) (sym are)

  module _ (tidy : IsTidy store) (opening : Opening) (is : IsStore opening store) where
    stored_one : (number : ℕ) (table : Table) (it : VTable) → slice_get store.catalog.tables number ≡ Some table → IsRowsAt store snap number writes it → IsStored store.catalog.model it
    stored_one number table it there at = record {
      distinct = subst (λ columns. columns_are_distinct columns ≡ true) (sym (at.columns table there)) (scan_stored store.catalog [] number table tidy.formed (λ c admitted. refl) there).distinct;
      formed = λ c admitted.
          subst (IsAnswerAt c) (as_stored table it (at.columns table there))
          ((at.view opening table is there).formed c (subst (λ (k : Catalog). IsAdmitted k.model c) is.catalog admitted));
    }

    stored_from : (k : ℕ) (tables : List Table) (rows : List TableRows) → ((n : ℕ) → slice_get tables n ≡ slice_get store.catalog.tables (k + n)) → Are k tables rows → AllByRecursion (λ (held : TableRows). IsStored store.catalog.model held.rows) rows
    stored_from k [] [] there are = tt
    stored_from k [] (held ∷ rows) there are = absurd are
    stored_from k (table ∷ tables) [] there are = absurd are
    stored_from k (table ∷ tables) (held ∷ rows) there are =
        let at_first : k ≡ k + 0 = omega arith in
        let further : (n : ℕ) → k + suc n ≡ suc k + n = λ n. omega arith in
        let first = stored_one k table held.rows (ap (slice_get store.catalog.tables) at_first ∙ sym (there 0)) are.1 in
        (first, stored_from (suc k) tables rows (λ n. there (suc n) ∙ ap (slice_get store.catalog.tables) (further n)) are.2)

    pub after_stored : (rows : List TableRows) → AreTablesAfter store snap writes rows → AllByRecursion (λ (held : TableRows). IsStored store.catalog.model held.rows) rows
    after_stored rows after = let same : (n : ℕ) → n ≡ 0 + n = λ n. omega arith in stored_from 0 store.catalog.tables rows (λ n. ap (slice_get store.catalog.tables) (same n)) after.are

  -- ---- the whole list of writes

  take_all : {X : Type 0} (xs : List X) → take (length xs) xs ≡ xs
  take_all [] = refl
  take_all (x ∷ xs) = ap (λ ys. x ∷ ys) (take_all xs)

  pub whole_rows : (number : ℕ) (it : VTable) → IsRowsAt store snap number (take (length writes) writes) it → IsRowsAt store snap number writes it
  whole_rows number it at = subst (λ ws. IsRowsAt store snap number ws it) (take_all writes) at

  -- ---- all of them made

  nothing_left : {X : Type 0} (n : ℕ) (xs : List X) → length xs ≤ n → drop n xs ≡ []
  nothing_left zero [] all = refl
  nothing_left (suc n) [] all = refl
  nothing_left zero (x ∷ xs) all = absurd (omega (arith, all))
  nothing_left (suc n) (x ∷ xs) all = nothing_left n xs (omega (arith, all))

  pub after_made : (tables : List Table) (index number : ℕ) (made rows : List TableRows) → ((behind : List TableRows) → AreFrom store snap writes number (drop index tables) behind → AreFrom store snap writes 0 tables (made ++ behind)) → length tables ≤ index → tables ≡ store.catalog.tables → rows ≡ made → AreTablesAfter store snap writes rows
  after_made tables index number made rows goes out all are = record {
    are = subst (λ ts. AreFrom store snap writes 0 ts rows) all
        (subst (λ held. AreFrom store snap writes 0 tables held) (append-nil made ∙ sym are)
        (goes [] (subst (λ ts. AreFrom store snap writes number ts []) (sym (nothing_left index tables out)) tt)));
  }
