-- The places under some cells, as a map has them.
use Rattle.std.proofs.Common.{arith, ◌≤◌, ◌≡◌, ◌∙◌, ℕ, Bool, true, false, cond, List, [], ◌∷◌, ◌++◌, map, Option, Some, None, if◌then◌else◌, refl, sym, ap, ap₂, ◌+◌, ◌<◌, length, take, get_or, filter, slice_get, append-nil}
use Rattle.std.proofs.lemmas.List.{take_more}
use Rattle.std.proofs.lemmas.List.Elements.{filter-append}
use Rattle.std.proofs.lemmas.Option.{slice_get-get_or}
use Rattle.std.specs.List.{cons_option, filter_map}
use Rattle.std.specs.Global.{Vec}
use Rattle.std.specs.Cmp.Lexicographic.{pointwise}
use Rattle.std.specs.Option.{option_eq, option_to_list}
use Rattle.std.specs.Map.{lookup}
use Rattle.indexmap.specs.IndexMap.{IndexMap, Updates, get}
use Rattle.values.specs.contracts.value.ValuePartialEq.TheImpl.{eq-value}
use Rattle.values.specs.declared.value.Value.{Value}
use Rattle.row_places.proofs.KeyLaws.{cells_same}
use Rattle.row_places.specs.Places.{places_or_none, places_under, rows_keyed}
use Rattle.vtable.proofs.CellLaws.{same_cells_are}
use Rattle.plan_tables.proofs.LoopLaws.{kept_push}
use Rattle.vtable.specs.TableForm.{same_cells}
use Rattle.vtable.specs.declared.table.VRow.{VRow}

abbrev pub vec_same : Vec (Option Value) → Vec (Option Value) → Bool
vec_same one other = pointwise (option_eq eq-value.it) one.items other.items

abbrev pub entries_seen : List (Vec (Option Value) × Vec ℕ) → List (List (Option Value) × List ℕ)
entries_seen es = map (λ e. (e.0.items, e.1.items)) es

under_step : (key : Vec (Option Value)) (e : Vec (Option Value) × Vec ℕ) (rest : List ℕ) (found : Option (Vec ℕ)) (same : Bool) → same_cells key.items e.0.items ≡ same → rest ≡ places_or_none found → (if same_cells key.items e.0.items then e.1.items else rest) ≡ places_or_none (cond (vec_same key e.0) (Some e.1) found)
under_step key e rest found true is h = rw (cells_same key.items e.0.items, is) refl
under_step key e rest found false is h = rw (cells_same key.items e.0.items, is) h

under_from : (key : Vec (Option Value)) (es : List (Vec (Option Value) × Vec ℕ)) → places_under key.items (entries_seen es) ≡ places_or_none (lookup (vec_same key) es)
under_from key [] = refl
under_from key (e ∷ es) = under_step key e (places_under key.items (entries_seen es)) (lookup (vec_same key) es) (same_cells key.items e.0.items) refl (under_from key es)

by_same : (one other : Vec (Option Value)) (w : Option (Vec ℕ)) (rest : Option (Vec ℕ)) (same : Bool) → same_cells one.items other.items ≡ same → places_or_none (cond (vec_same one other) w rest) ≡ (if same_cells one.items other.items then places_or_none w else places_or_none rest)
by_same one other w rest true is = rw (cells_same one.items other.items, is) refl
by_same one other w rest false is = rw (cells_same one.items other.items, is) refl

added_by : (cells key : List (Option Value)) (place : ℕ) (places left : List ℕ) (es : List (List (Option Value) × List ℕ)) (same : Bool) → same_cells cells key ≡ same → places ≡ places_under cells es ++ place ∷ [] → left ≡ (if same_cells cells key then [] else places_under key es) → (if same_cells cells key then places else left) ≡ (if same_cells cells key then places_under key es ++ place ∷ [] else places_under key es)
added_by cells key place places left es true is p l = rw is (p ∙ ap (λ k. places_under k es ++ place ∷ []) (same_cells_are cells key is))
added_by cells key place places left es false is p l = rw is (rw is at l)

module _ {S : Type 0} where
  under_is : (key : Vec (Option Value)) (m : IndexMap (Vec (Option Value)) (Vec ℕ) S) → places_under key.items (entries_seen m.entries) ≡ places_or_none (get vec_same m key)
  under_is key m = under_from key m.entries

  -- what is found under the cells
  pub found_under : (key : Vec (Option Value)) (m : IndexMap (Vec (Option Value)) (Vec ℕ) S) (places : Vec ℕ) → Some places ≡ get vec_same m key → places.items ≡ places_under key.items (entries_seen m.entries)
  found_under key m places is = ap places_or_none is ∙ sym (under_is key m)

  pub none_under : (key : Vec (Option Value)) (m : IndexMap (Vec (Option Value)) (Vec ℕ) S) → None ≡ get vec_same m key → [] ≡ places_under key.items (entries_seen m.entries)
  none_under key m is = ap places_or_none is ∙ sym (under_is key m)

  pub taken_under : (key : Vec (Option Value)) (m : IndexMap (Vec (Option Value)) (Vec ℕ) S) (found : Option (Vec ℕ)) (places : List ℕ) → found ≡ get vec_same m key → places ≡ places_or_none found → places ≡ places_under key.items (entries_seen m.entries)
  taken_under key m found places is it = it ∙ ap places_or_none is ∙ sym (under_is key m)

  -- a map in which other places stand under some cells
  pub under_updated : (cells key : Vec (Option Value)) (old new : IndexMap (Vec (Option Value)) (Vec ℕ) S) (w : Option (Vec ℕ)) → Updates vec_same old new cells w → places_under key.items (entries_seen new.entries) ≡ (if same_cells cells.items key.items then places_or_none w else places_under key.items (entries_seen old.entries))
  under_updated cells key old new w updates =
      under_is key new ∙ ap places_or_none (updates.0 key) ∙ by_same cells key w (get vec_same old key) (same_cells cells.items key.items) refl
      ∙ ap (λ xs. if same_cells cells.items key.items then places_or_none w else xs) (sym (under_is key old))

  -- one more place under some cells, where those that stood there were taken out
  pub added_under : (cells key : Vec (Option Value)) (taken new : IndexMap (Vec (Option Value)) (Vec ℕ) S) (w : Vec ℕ) (place : ℕ) (places : List ℕ) (es : List (List (Option Value) × List ℕ)) → Updates vec_same taken new cells (Some w) → w.items ≡ places ++ place ∷ [] → places ≡ places_under cells.items es → places_under key.items (entries_seen taken.entries) ≡ (if same_cells cells.items key.items then [] else places_under key.items es) → places_under key.items (entries_seen new.entries) ≡ (if same_cells cells.items key.items then places_under key.items es ++ place ∷ [] else places_under key.items es)
  added_under cells key taken new w place places es updates pushed is left =
      under_updated cells key taken new (Some w) updates
      ∙ added_by cells.items key.items place w.items (places_under key.items (entries_seen taken.entries)) es (same_cells cells.items key.items) refl (pushed ∙ ap (λ ps. ps ++ place ∷ []) is) left

-- ---- one more row

push_kept : (test : VRow → Bool) (rows : List VRow) (row : VRow) (kept : Bool) → test row ≡ kept → filter test (rows ++ row ∷ []) ≡ (if kept then filter test rows ++ row ∷ [] else filter test rows)
push_kept test rows row true is = filter-append test rows (row ∷ []) ∙ ap (λ xs. filter test rows ++ xs) (rw is refl)
push_kept test rows row false is = filter-append test rows (row ∷ []) ∙ ap (λ xs. filter test rows ++ xs) (rw is refl) ∙ append-nil (filter test rows)

got : (rows : List VRow) (place : ℕ) (row : VRow) → place < length rows → row ≡ get_or rows place row → option_to_list (slice_get rows place) ≡ row ∷ []
got rows place row below is = ap option_to_list (slice_get-get_or rows place row below ∙ ap Some (sym is))

module _ (key_of : VRow → List (Option Value)) (rows : List VRow) (place : ℕ) (row : VRow) (key : List (Option Value)) (old new : List (List (Option Value) × List ℕ)) (below : place < length rows) (is_row : row ≡ get_or rows place row) where
  abbrev taken : List VRow → Type 0
  taken found = found ≡ rows_keyed key_of key (take (place + 1) rows)

  taken_more : take (place + 1) rows ≡ take place rows ++ row ∷ []
  taken_more = take_more rows place row below ∙ ap (λ x. take place rows ++ x ∷ []) (sym is_row)

  more_by : (same : Bool) → same_cells (key_of row) key ≡ same → places_under key new ≡ (if same_cells (key_of row) key then places_under key old ++ place ∷ [] else places_under key old) → filter_map (slice_get rows) (places_under key old) ≡ rows_keyed key_of key (take place rows) → taken (filter_map (slice_get rows) (places_under key new))
  more_by true is added before =
      ap (filter_map (slice_get rows)) (added ∙ rw is refl)
      ∙ kept_push (slice_get rows) (places_under key old) place
      ∙ ap₂ (λ xs ys. xs ++ ys) before (got rows place row below is_row)
      ∙ sym (ap (rows_keyed key_of key) taken_more ∙ push_kept (λ (row : VRow). same_cells (key_of row) key) (take place rows) row true is)
  more_by false is added before =
      ap (filter_map (slice_get rows)) (added ∙ rw is refl)
      ∙ before
      ∙ sym (ap (rows_keyed key_of key) taken_more ∙ push_kept (λ (row : VRow). same_cells (key_of row) key) (take place rows) row false is)

  pub one_place_more : places_under key new ≡ (if same_cells (key_of row) key then places_under key old ++ place ∷ [] else places_under key old) → filter_map (slice_get rows) (places_under key old) ≡ rows_keyed key_of key (take place rows) → filter_map (slice_get rows) (places_under key new) ≡ rows_keyed key_of key (take (place + 1) rows)
  one_place_more = more_by (same_cells (key_of row) key) refl

keyed_by : {X : Type 0} (f : VRow → Option X) (row : VRow) (keyed rows : List VRow) (same : Bool) → (same ≡ false → f row ≡ None) → filter_map f keyed ≡ filter_map f rows
    → filter_map f (cond same (row ∷ keyed) keyed) ≡ filter_map f (row ∷ rows)
keyed_by f row keyed rows true none rest = ap (cons_option (f row)) rest
keyed_by f row keyed rows false none rest = rest ∙ ap (λ x. cons_option x (filter_map f rows)) (sym (none refl))

-- where rows of other keys give nothing, those under the key are all that give something
pub keyed_all : {X : Type 0} (key_of : VRow → List (Option Value)) (key : List (Option Value)) (f : VRow → Option X) → ((row : VRow) → same_cells (key_of row) key ≡ false → f row ≡ None) → (rows : List VRow) → filter_map f (rows_keyed key_of key rows) ≡ filter_map f rows
keyed_all key_of key f none [] = refl
keyed_all key_of key f none (row ∷ rows) = keyed_by f row (rows_keyed key_of key rows) rows (same_cells (key_of row) key) (none row) (keyed_all key_of key f none rows)

fewer_by : (row : VRow) (keyed rows : List VRow) (same : Bool) → length keyed ≤ length rows → length (cond same (row ∷ keyed) keyed) ≤ length (row ∷ rows)
fewer_by row keyed rows true h = omega (arith, h)
fewer_by row keyed rows false h = omega (arith, h)

-- no more rows have the key than there are
pub keyed_fewer : (key_of : VRow → List (Option Value)) (key : List (Option Value)) (rows : List VRow) → length (rows_keyed key_of key rows) ≤ length rows
keyed_fewer key_of key [] = omega arith
keyed_fewer key_of key (row ∷ rows) = fewer_by row (rows_keyed key_of key rows) rows (same_cells (key_of row) key) (keyed_fewer key_of key rows)
