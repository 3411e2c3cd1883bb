-- A write made in the change of its table carries the rows of every table.
use Rattle.std.proofs.Common.{◌≡◌, ◌∙◌, ℕ, ◌+◌, ◌==◌, ◌⊎◌, inl, inr, Bool, true, false, ◌&&◌, List, [], ◌∷◌, length, set, suc, zero, Option, Some, None, slice_get, refl, sym, ap, subst, arith, rules}
use Rattle.std.proofs.lemmas.Bool.{cases_eq}
use Rattle.std.proofs.lemmas.Bool.Decides.{nat_tests}
use Rattle.std.proofs.lemmas.Option.{same_Some}
use Rattle.std.specs.List.{list_all}
use Rattle.commit_changes.proofs.PendingLaws.{after_slot, get_other, get_set, set_pending, slot_after}
use Rattle.commit_changes.specs.Carried.{CarriesEach}
use Rattle.commit_changes.specs.Made.{IsMade, IsWritten, IsWrittenAt, MadeAt, WrittenBy}
use Rattle.commit_changes.specs.Stored.{ArePending, AreStored}
use Rattle.feature_expr.specs.declared.expr.Expr.{Expr}
use Rattle.own_writes.proofs.CarriedLaws.{carries_left, carries_written}
use Rattle.own_writes.specs.Carried.{Carries}
use Rattle.plan_tables.specs.declared.rows.TableRows.{TableRows}
use Rattle.query_meaning.specs.Sources.{number_of}
use Rattle.query_meaning.specs.WriteTyping.{table_name_of}
use Rattle.stored_versions.specs.Databases.{is_number}
use Rattle.table_changes.specs.Changes.{ArePlaces, after_change, after_changes}
use Rattle.table_changes.specs.declared.change.TableChange.{TableChange}
use Rattle.vra_syntax.specs.declared.write.Write.{Write}
use Rattle.vschema.specs.Formed.{has_distinct_columns}
use Rattle.vschema.specs.declared.catalog.Table.{Table}
use Rattle.vtable.specs.declared.table.VRow.{VRow}
use Rattle.write_meaning.specs.RowWrites.{IsRowWrite}
use Rattle.write_meaning.specs.StoredTables.{stored_columns}

-- What is asked of a table and its rows.

pub columns_at : (low : ℕ) (tables : List Table) (newest : List TableRows) (k : ℕ) (table : Table) (rows : TableRows) → AreStored low tables newest → slice_get tables k ≡ Some table → slice_get newest k ≡ Some rows → rows.rows.columns ≡ stored_columns table
columns_at low [] [] k table rows h found named = search (rules, found)
columns_at low [] (it ∷ newest) k table rows h found named = absurd h
columns_at low (one ∷ tables) [] k table rows h found named = absurd h
columns_at low (one ∷ tables) (it ∷ newest) zero table rows h found named =
    ap (λ (it : TableRows). it.rows.columns) (sym (same_Some it rows named)) ∙ h.1 ∙ ap stored_columns (same_Some one table found)
columns_at low (one ∷ tables) (it ∷ newest) (suc k) table rows h found named = columns_at (low + 1) tables newest k table rows h.2 found named

first_true : (a b : Bool) → (a && b) ≡ true → a ≡ true
first_true true b h = refl
first_true false b h = h

rest_true : (a b : Bool) → (a && b) ≡ true → b ≡ true
rest_true true b h = h
rest_true false b h = search (rules, h)

pub distinct_at : (tables : List Table) (k : ℕ) (table : Table) → list_all has_distinct_columns tables ≡ true → slice_get tables k ≡ Some table → has_distinct_columns table ≡ true
distinct_at [] k table h found = search (rules, found)
distinct_at (one ∷ tables) zero table h found = ap has_distinct_columns (sym (same_Some one table found)) ∙ first_true (has_distinct_columns one) (list_all has_distinct_columns tables) h
distinct_at (one ∷ tables) (suc k) table h found = distinct_at tables k table (rest_true (has_distinct_columns one) (list_all has_distinct_columns tables) h) found

-- Where the write was made.

nowhere_at : (model : Expr) (w : Write) (place : ℕ) (table : Option Table) (rows : Option TableRows) (old : Option TableChange) (pending : List TableChange) → old ≡ None → IsWrittenAt model w place table rows old pending pending
nowhere_at model w place None rows old pending none = refl
nowhere_at model w place (Some table) None old pending none = refl
nowhere_at model w place (Some table) (Some rows) None pending none = refl
nowhere_at model w place (Some table) (Some rows) (Some old) pending none = search (rules, none)

pub written_nowhere : (model : Expr) (tables : List Table) (newest : List TableRows) (w : Write) (place : ℕ) (pending : List TableChange) → number_of tables (table_name_of w) ≡ Some place → slice_get pending place ≡ None → IsWritten model tables newest w pending pending
written_nowhere model tables newest w place pending names none =
    subst (λ (it : Option ℕ). WrittenBy model tables newest w it pending pending) (sym names) (nowhere_at model w place (slice_get tables place) (slice_get newest place) (slice_get pending place) pending none)

pub written_here : (model : Expr) (tables : List Table) (newest : List TableRows) (w : Write) (place : ℕ) (table : Table) (rows : TableRows) (old new : TableChange) (pending : List TableChange) → number_of tables (table_name_of w) ≡ Some place → slice_get tables place ≡ Some table
    → slice_get newest place ≡ Some rows → slice_get pending place ≡ Some old → IsMade model table w rows.rows.rows old new → IsWritten model tables newest w pending (set pending place new)
written_here model tables newest w place table rows old new pending names there named found made =
    let it : MadeAt model w place table rows old pending (set pending place new) = record { change = new; made = made; set_is = refl } in
    subst (λ (number : Option ℕ). WrittenBy model tables newest w number pending (set pending place new)) (sym names)
    (subst (λ (a : Option Table). IsWrittenAt model w place a (slice_get newest place) (slice_get pending place) pending (set pending place new)) (sym there)
    (subst (λ (b : Option TableRows). IsWrittenAt model w place (Some table) b (slice_get pending place) pending (set pending place new)) (sym named)
    (subst (λ (c : Option TableChange). IsWrittenAt model w place (Some table) (Some rows) c pending (set pending place new)) (sym found) it)))

-- Changes stay those of the tables.

zero_plus : (k : ℕ) → 0 + k ≡ k
zero_plus k = omega arith

slot_at : (k : ℕ) (newest : List TableRows) (pending : List TableChange) (rows : List VRow) → ArePending 0 newest pending → after_changes k pending rows ≡ after_slot (slice_get pending k) rows
slot_at k newest pending rows h = ap (λ (n : ℕ). after_changes n pending rows) (sym (zero_plus k)) ∙ slot_after 0 k newest pending rows h

module _ (model : Expr) (tables : List Table) (newest : List TableRows) (w : Write) (old new : List TableChange) (pending : ArePending 0 newest old) where
  places_of : (number : ℕ) (rows : TableRows) (one other : TableChange) → slice_get newest number ≡ Some rows → (ArePlaces 0 (length rows.rows.rows) one.ends → ArePlaces 0 (length rows.rows.rows) other.ends)
      → (it : TableRows) → slice_get newest number ≡ Some it → ArePlaces 0 (length it.rows.rows) one.ends → ArePlaces 0 (length it.rows.rows) other.ends
  places_of number rows one other here keep it there =
      subst (λ (rows : TableRows). ArePlaces 0 (length rows.rows.rows) one.ends → ArePlaces 0 (length rows.rows.rows) other.ends) (same_Some rows it (sym here ∙ there)) keep

  set_made : (number : ℕ) (table : Table) (rows : TableRows) (change : TableChange) → slice_get newest number ≡ Some rows → slice_get old number ≡ Some change → (made : MadeAt model w number table rows change old new) → ArePending 0 newest (set old number made.change)
  set_made number table rows change named found made =
      set_pending 0 number newest old change made.change pending found made.made.same_table (places_of number rows change made.change named made.made.places)

  pending_at : (number : ℕ) (a : Option Table) (b : Option TableRows) (c : Option TableChange) → slice_get newest number ≡ b → slice_get old number ≡ c → IsWrittenAt model w number a b c old new → ArePending 0 newest new
  pending_at number None b c named found is = subst (ArePending 0 newest) (sym is) pending
  pending_at number (Some table) None c named found is = subst (ArePending 0 newest) (sym is) pending
  pending_at number (Some table) (Some rows) None named found is = subst (ArePending 0 newest) (sym is) pending
  pending_at number (Some table) (Some rows) (Some change) named found is = subst (ArePending 0 newest) (sym is.set_is) (set_made number table rows change named found is)

  pending_by : (it : Option ℕ) → WrittenBy model tables newest w it old new → ArePending 0 newest new
  pending_by None is = subst (ArePending 0 newest) (sym is) pending
  pending_by (Some number) is = pending_at number (slice_get tables number) (slice_get newest number) (slice_get old number) refl refl is

  pub written_pending : IsWritten model tables newest w old new → ArePending 0 newest new
  written_pending is = pending_by (number_of tables (table_name_of w)) is

  -- A write of no table.

  left_as : new ≡ old → ((number : ℕ) (table : Table) (it : TableRows) → slice_get tables number ≡ Some table → slice_get newest number ≡ Some it → is_number number (number_of tables (table_name_of w)) ≡ false) → CarriesEach model tables (w ∷ []) newest old new
  left_as is other = record {
    each = λ number table it found named.
        subst (λ (changes : List TableChange). Carries model tables number table (w ∷ []) (after_changes number old it.rows.rows) (after_changes number changes it.rows.rows)) (sym is)
        (carries_left model tables number table w (after_changes number old it.rows.rows) (other number table it found named));
  }

  apart_by : (number n : ℕ) → (number ≡ n → ⊥) → (number == n) ≡ false
  apart_by number n h = grind (arith, nat_tests)

  -- none has the number that it names
  other_by : (number n : ℕ) → number_of tables (table_name_of w) ≡ Some number → (number ≡ n → ⊥) → is_number n (number_of tables (table_name_of w)) ≡ false
  other_by number n is apart = ap (is_number n) is ∙ apart_by number n apart

  none_some : {X : Type 0} (o : Option X) (x : X) → o ≡ None → o ≡ Some x → ⊥
  none_some o x none some = search (rules, sym none ∙ some)

  slot_there : (low k : ℕ) (newest : List TableRows) (changes : List TableChange) (it : TableRows) → ArePending low newest changes → slice_get newest k ≡ Some it → slice_get changes k ≡ None → ⊥
  slot_there low k [] [] it h named none = search (rules, named)
  slot_there low k [] (change ∷ changes) it h named none = absurd h
  slot_there low k (one ∷ newest) [] it h named none = absurd h
  slot_there low zero (one ∷ newest) (change ∷ changes) it h named none = search (rules, none)
  slot_there low (suc k) (one ∷ newest) (change ∷ changes) it h named none = slot_there (low + 1) k newest changes it h.2 named none

  -- A write of a table.

  module _ (number : ℕ) (table : Table) (rows : TableRows) (change : TableChange) (names : number_of tables (table_name_of w) ≡ Some number)
      (there : slice_get tables number ≡ Some table) (named : slice_get newest number ≡ Some rows) (found : slice_get old number ≡ Some change) (made : MadeAt model w number table rows change old new) where
    here_is : (n : ℕ) → number ≡ n → (number == n) ≡ true
    here_is n h = grind (arith, nat_tests)

    before_rows : after_changes number old rows.rows.rows ≡ after_change change rows.rows.rows
    before_rows = slot_at number newest old rows.rows.rows pending ∙ ap (λ (it : Option TableChange). after_slot it rows.rows.rows) found

    after_rows : after_changes number (set old number made.change) rows.rows.rows ≡ after_change made.change rows.rows.rows
    after_rows =
        slot_at number newest (set old number made.change) rows.rows.rows (set_made number table rows change named found made)
        ∙ ap (λ (it : Option TableChange). after_slot it rows.rows.rows) (get_set old number change made.change found)

    carried_here : Carries model tables number table (w ∷ []) (after_changes number old rows.rows.rows) (after_changes number (set old number made.change) rows.rows.rows)
    carried_here =
        carries_written model tables number table w (after_changes number old rows.rows.rows) (after_changes number (set old number made.change) rows.rows.rows) there (ap (is_number number) names ∙ here_is number refl)
        (subst (λ (xs : List VRow). IsRowWrite model table w xs (after_changes number (set old number made.change) rows.rows.rows)) (sym before_rows)
        (subst (λ (xs : List VRow). IsRowWrite model table w (after_change change rows.rows.rows) xs) (sym after_rows) made.made.written))

    carried_this : (table' : Table) (it : TableRows) → slice_get tables number ≡ Some table' → slice_get newest number ≡ Some it → Carries model tables number table' (w ∷ []) (after_changes number old it.rows.rows) (after_changes number (set old number made.change) it.rows.rows)
    carried_this table' it found' named' =
        subst (λ (t : Table). Carries model tables number t (w ∷ []) (after_changes number old it.rows.rows) (after_changes number (set old number made.change) it.rows.rows)) (same_Some table table' (sym there ∙ found'))
        (subst (λ (r : TableRows). Carries model tables number table (w ∷ []) (after_changes number old r.rows.rows) (after_changes number (set old number made.change) r.rows.rows)) (same_Some rows it (sym named ∙ named')) carried_here)

    others_same : (n : ℕ) (it : TableRows) → (number ≡ n → ⊥) → after_changes n (set old number made.change) it.rows.rows ≡ after_changes n old it.rows.rows
    others_same n it apart =
        slot_at n newest (set old number made.change) it.rows.rows (set_made number table rows change named found made)
        ∙ ap (λ (slot : Option TableChange). after_slot slot it.rows.rows) (get_other old number n made.change apart)
        ∙ sym (slot_at n newest old it.rows.rows pending)

    carried_other : (n : ℕ) (table' : Table) (it : TableRows) → (number ≡ n → ⊥) → Carries model tables n table' (w ∷ []) (after_changes n old it.rows.rows) (after_changes n (set old number made.change) it.rows.rows)
    carried_other n table' it apart =
        subst (λ (xs : List VRow). Carries model tables n table' (w ∷ []) (after_changes n old it.rows.rows) xs) (sym (others_same n it apart))
        (carries_left model tables n table' w (after_changes n old it.rows.rows) (other_by number n names apart))

    carried_by : (n : ℕ) → (number ≡ n) ⊎ (number ≡ n → ⊥) → (table' : Table) (it : TableRows) → slice_get tables n ≡ Some table' → slice_get newest n ≡ Some it
        → Carries model tables n table' (w ∷ []) (after_changes n old it.rows.rows) (after_changes n (set old number made.change) it.rows.rows)
    carried_by n (inl same) =
        subst (λ (n : ℕ). (table' : Table) (it : TableRows) → slice_get tables n ≡ Some table' → slice_get newest n ≡ Some it → Carries model tables n table' (w ∷ []) (after_changes n old it.rows.rows) (after_changes n (set old number made.change) it.rows.rows)) same carried_this
    carried_by n (inr apart) = λ table' it found' named'. carried_other n table' it apart

    carried_made : CarriesEach model tables (w ∷ []) newest old new
    carried_made = record {
      each = λ n table' it found' named'.
          subst (λ (changes : List TableChange). Carries model tables n table' (w ∷ []) (after_changes n old it.rows.rows) (after_changes n changes it.rows.rows)) (sym made.set_is)
          (carried_by n (cases_eq number n) table' it found' named');
    }

  apart_from : (number : ℕ) (P : ℕ → Type 0) → (P number → ⊥) → (n : ℕ) → P n → number ≡ n → ⊥
  apart_from number P none n there same = none (subst P (sym same) there)

  carried_at : (number : ℕ) (a : Option Table) (b : Option TableRows) (c : Option TableChange) → number_of tables (table_name_of w) ≡ Some number → slice_get tables number ≡ a → slice_get newest number ≡ b → slice_get old number ≡ c → IsWrittenAt model w number a b c old new
      → CarriesEach model tables (w ∷ []) newest old new
  carried_at number None b c names there named found is =
      left_as is (λ n table it at row. other_by number n names (apart_from number (λ n. slice_get tables n ≡ Some table) (none_some (slice_get tables number) table there) n at))
  carried_at number (Some table) None c names there named found is =
      left_as is (λ n table' it at row. other_by number n names (apart_from number (λ n. slice_get newest n ≡ Some it) (none_some (slice_get newest number) it named) n row))
  carried_at number (Some table) (Some rows) None names there named found is = absurd (slot_there 0 number newest old rows pending named found)
  carried_at number (Some table) (Some rows) (Some change) names there named found is = carried_made number table rows change names there named found is

  carried_of : (it : Option ℕ) → number_of tables (table_name_of w) ≡ it → WrittenBy model tables newest w it old new → CarriesEach model tables (w ∷ []) newest old new
  carried_of None names is = left_as is (λ n table it at row. ap (is_number n) names)
  carried_of (Some number) names is = carried_at number (slice_get tables number) (slice_get newest number) (slice_get old number) names refl refl refl is

  pub written_carried : IsWritten model tables newest w old new → CarriesEach model tables (w ∷ []) newest old new
  written_carried is = carried_of (number_of tables (table_name_of w)) refl is
