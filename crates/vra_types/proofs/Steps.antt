-- One table, row or cell place further.
use Rattle.std.proofs.Common.{◌≡◌, ℕ, ◌+◌, ◌<◌, ◌≤◌, true, false, if◌then◌else◌, List, [], ◌∷◌, ◌++◌, map, take, drop, length, get_or, Option, Some, None, slice_get, refl, sym, ap, ◌∙◌, subst, inl, inr, arith}
use Rattle.std.specs.List.{flat_map, All}
use Rattle.std.proofs.lemmas.List.{drop_more, take_more}
use Rattle.std.proofs.lemmas.List.Elements.{All-push}
use Rattle.std.proofs.lemmas.Option.{slice_get_within, get_or_from_slice_get, slice_get_cases, none-some}
use Rattle.std.proofs.Math.ListN.{drop_of_length-le}
use Rattle.feature_expr.specs.declared.expr.Expr.{Expr}
use Rattle.values.specs.declared.value.Value.{Value}
use Rattle.vschema.specs.declared.catalog.Column.{Column}
use Rattle.vschema.specs.declared.catalog.OpeningRow.{OpeningRow}
use Rattle.vschema.specs.declared.catalog.Table.{Table}
use Rattle.vschema.specs.Gaps.{columns_without}
use Rattle.vschema.specs.Spelling.{is_filled}
use Rattle.vra_types.specs.declared.refused.CheckRefused.{CheckRefused}
use Rattle.vra_types.specs.Check.{Gap, TableGap, RowGap, row_gaps, IsNowhere, AreNowhere, RefusesGaps}
use Rattle.vra_types.proofs.Left.{IsLeft, left_behind, left_refused}

-- an item and what is behind it
pub item_next : {X : Type 0} (xs : List X) (i : ℕ) (x : X) → i < length xs → x ≡ get_or xs i x → drop i xs ≡ x ∷ drop (i + 1) xs
item_next xs i x low is = rw (drop_more xs i x low) (ap (λ y. y ∷ drop (i + 1) xs) (sym is))

left_along : (model : Expr) (all rest other : List Gap) → rest ≡ other → IsLeft model all rest → IsLeft model all other
left_along model all rest other same left = subst (λ gaps. IsLeft model all gaps) same left

table_next : (tables : List Table) (i : ℕ) (table : Table) → i < length tables → table ≡ get_or tables i table → map TableGap (drop i tables) ≡ (TableGap table ∷ []) ++ map TableGap (drop (i + 1) tables)
table_next tables i table low is = ap (λ xs. map TableGap xs) (item_next tables i table low is)

pub table_left : (model : Expr) (all : List Gap) (tables : List Table) (i : ℕ) (table : Table) → i < length tables → table ≡ get_or tables i table → IsLeft model all (map TableGap (drop i tables)) → IsNowhere model (TableGap table) → IsLeft model all (map TableGap (drop (i + 1) tables))
table_left model all tables i table low is left none = left_behind model all (TableGap table ∷ []) _ (left_along model all _ _ (table_next tables i table low is) left) (none, tt)

pub table_refused : (model : Expr) (all : List Gap) (tables : List Table) (i : ℕ) (table : Table) (why : CheckRefused) → i < length tables → table ≡ get_or tables i table → IsLeft model all (map TableGap (drop i tables)) → RefusesGaps model (TableGap table ∷ []) why → RefusesGaps model all why
table_refused model all tables i table why low is left h = left_refused model all (TableGap table ∷ []) _ why (left_along model all _ _ (table_next tables i table low is) left) h

row_next : (tables : List Table) (rows : List OpeningRow) (i : ℕ) (row : OpeningRow) → i < length rows → row ≡ get_or rows i row → flat_map (row_gaps tables) (drop i rows) ≡ row_gaps tables row ++ flat_map (row_gaps tables) (drop (i + 1) rows)
row_next tables rows i row low is = ap (λ xs. flat_map (row_gaps tables) xs) (item_next rows i row low is)

pub row_left : (model : Expr) (all : List Gap) (tables : List Table) (rows : List OpeningRow) (i : ℕ) (row : OpeningRow) → i < length rows → row ≡ get_or rows i row → IsLeft model all (flat_map (row_gaps tables) (drop i rows)) → AreNowhere model (row_gaps tables row) → IsLeft model all (flat_map (row_gaps tables) (drop (i + 1) rows))
row_left model all tables rows i row low is left none = left_behind model all (row_gaps tables row) _ (left_along model all _ _ (row_next tables rows i row low is) left) none

pub row_refused : (model : Expr) (all : List Gap) (tables : List Table) (rows : List OpeningRow) (i : ℕ) (row : OpeningRow) (why : CheckRefused) → i < length rows → row ≡ get_or rows i row → IsLeft model all (flat_map (row_gaps tables) (drop i rows)) → RefusesGaps model (row_gaps tables row) why → RefusesGaps model all why
row_refused model all tables rows i row why low is left h = left_refused model all (row_gaps tables row) _ why (left_along model all _ _ (row_next tables rows i row low is) left) h

pub row_judged : (model : Expr) (tables : List Table) (rows : List OpeningRow) (i : ℕ) (row : OpeningRow) → i < length rows → row ≡ get_or rows i row → All (λ (r : OpeningRow). AreNowhere model (row_gaps tables r)) (take i rows) → AreNowhere model (row_gaps tables row) → All (λ (r : OpeningRow). AreNowhere model (row_gaps tables r)) (take (i + 1) rows)
row_judged model tables rows i row low is judged none = rw (take_more rows i row low) (All-push (λ (r : OpeningRow). AreNowhere model (row_gaps tables r)) (take i rows) (get_or rows i row) judged (subst (λ (r : OpeningRow). AreNowhere model (row_gaps tables r)) is none))

-- a cell, if there is one, and what is behind it
CellsFrom : Option (Option Value) → List (Option Value) → List (Option Value) → Type 0
CellsFrom None now next = (now ≡ []) × (next ≡ [])
CellsFrom (Some cell) now next = now ≡ cell ∷ next

none_past : (cells : List (Option Value)) (k : ℕ) → slice_get cells k ≡ None → length cells ≤ k
none_past cells k none = elim ((slice_get_cases cells k).1) [ inl h ↦ absurd (none-some h.0 (sym none ∙ h.2)) | inr h ↦ h.0 ]

cells_from : (cells : List (Option Value)) (k : ℕ) (got : Option (Option Value)) → slice_get cells k ≡ got → CellsFrom got (drop k cells) (drop (k + 1) cells)
unfolding CellsFrom
cells_from cells k None none = let past : length cells ≤ k = none_past cells k none in (drop_of_length-le cells past, drop_of_length-le cells (omega arith))
cells_from cells k (Some cell) some = rw (drop_more cells k cell (slice_get_within cells k cell some)) (ap (λ y. y ∷ drop (k + 1) cells) (get_or_from_slice_get cells k cell cell some))

cells_next : (column : Column) (columns : List Column) (got : Option (Option Value)) (now next : List (Option Value)) → CellsFrom got now next → columns_without (column ∷ columns) now ≡ (if is_filled got then columns_without columns next else column ∷ columns_without columns next)
unfolding CellsFrom
cells_next column columns None now next from = rw (from.0, from.1) refl
cells_next column columns (Some None) now next from = rw from refl
cells_next column columns (Some (Some value)) now next from = rw from refl

column_next : (columns : List Column) (cells : List (Option Value)) (k : ℕ) (column : Column) → k < length columns → column ≡ get_or columns k column → columns_without (drop k columns) (drop k cells) ≡ (if is_filled (slice_get cells k) then columns_without (drop (k + 1) columns) (drop (k + 1) cells) else column ∷ columns_without (drop (k + 1) columns) (drop (k + 1) cells))
column_next columns cells k column low is = rw (item_next columns k column low is) (cells_next column (drop (k + 1) columns) (slice_get cells k) (drop k cells) (drop (k + 1) cells) (cells_from cells k (slice_get cells k) refl))

module _ (model : Expr) (all : List Gap) (table : Table) (row : OpeningRow) (columns : List Column) (cells : List (Option Value)) (k : ℕ) (column : Column) (low : k < length columns) (is : column ≡ get_or columns k column) where
  pub valued_left : is_filled (slice_get cells k) ≡ true → IsLeft model all (map (RowGap table row) (columns_without (drop k columns) (drop k cells))) → IsLeft model all (map (RowGap table row) (columns_without (drop (k + 1) columns) (drop (k + 1) cells)))
  valued_left is_there left = left_along model all _ _ (ap (λ xs. map (RowGap table row) xs) (column_next columns cells k column low is ∙ ap (λ b. if b then columns_without (drop (k + 1) columns) (drop (k + 1) cells) else column ∷ columns_without (drop (k + 1) columns) (drop (k + 1) cells)) is_there)) left

  blank_next : is_filled (slice_get cells k) ≡ false → map (RowGap table row) (columns_without (drop k columns) (drop k cells)) ≡ (RowGap table row column ∷ []) ++ map (RowGap table row) (columns_without (drop (k + 1) columns) (drop (k + 1) cells))
  blank_next is_blank = ap (λ xs. map (RowGap table row) xs) (column_next columns cells k column low is ∙ ap (λ b. if b then columns_without (drop (k + 1) columns) (drop (k + 1) cells) else column ∷ columns_without (drop (k + 1) columns) (drop (k + 1) cells)) is_blank)

  pub blank_left : is_filled (slice_get cells k) ≡ false → IsLeft model all (map (RowGap table row) (columns_without (drop k columns) (drop k cells))) → IsNowhere model (RowGap table row column) → IsLeft model all (map (RowGap table row) (columns_without (drop (k + 1) columns) (drop (k + 1) cells)))
  blank_left is_blank left none = left_behind model all (RowGap table row column ∷ []) _ (left_along model all _ _ (blank_next is_blank) left) (none, tt)

  pub blank_refused : (why : CheckRefused) → is_filled (slice_get cells k) ≡ false → IsLeft model all (map (RowGap table row) (columns_without (drop k columns) (drop k cells))) → RefusesGaps model (RowGap table row column ∷ []) why → RefusesGaps model all why
  blank_refused why is_blank left h = left_refused model all (RowGap table row column ∷ []) _ why (left_along model all _ _ (blank_next is_blank) left) h
