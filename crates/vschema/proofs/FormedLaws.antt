-- What a file spells is formed.
use Rattle.std.proofs.Common.{Bool, true, false, not, ◌&&◌, ◌||◌, ◌≡◌, ◌∙◌, sym, ap, ◌<◌, ◌≤◌, ℕ, zero, suc, ◌+◌, List, [], ◌∷◌, ◌++◌, length, map, Option, Some, None, slice_get, slice_index_or, set, ◌⊎◌, inl, inr, nat_lt, nat_le, position, refl, arith}
use Rattle.std.specs.List.{All, list_any, list_all, position_from}
use Rattle.std.specs.Str.{bytes_eq}
use Rattle.std.specs.Char.{to_ascii_lowercase, is_ascii_alphabetic, is_ascii_alphanumeric}
use Rattle.std.proofs.lemmas.Bool.Decides.{nat_tests}
use Rattle.std.proofs.lemmas.List.{length-append, map-append, length-map}
use Rattle.std.proofs.lemmas.List.Elements.{All-nil, All-push}
use Rattle.std.proofs.lemmas.List.Folds.{list_all-append, list_any-append}
use Rattle.std.proofs.lemmas.Slice.Eq.{bytes_eq-Decides}
use Rattle.std.proofs.lemmas.Str.Ascii.{lowercase-lowercase, lowercase_is}
use Rattle.word_tokens.specs.Words.{starts_word, continues_word, is_word_of, reserved_words, is_reserved_word, is_name_of}
use Rattle.feature_expr.specs.Names.{among}
use Rattle.feature_expr.specs.Expressions.{mentions, mentions_step}
use Rattle.feature_expr.specs.Printing.{HasNames}
use Rattle.feature_expr.proofs.OccurringLaws.{names_spelled}
use Rattle.values.specs.Value.{kind_of}
use Rattle.word_tokens.specs.Tokens.{bytes_of}
use Rattle.feature_expr.specs.ExprGrammar.{Part, Disjunction, Conjunction, Negation, feature_of, Spells, one_conjunction, disjunction, one_negation, conjunction, negation, truth, falsehood, feature, brackets}
use Rattle.feature_expr.specs.declared.expr.Expr.{Expr}
use Rattle.feature_expr.specs.declared.expr.Expr.TheFolds.{fold-roll-Expr}
use Rattle.feature_expr.specs.declared.expr.Expr.TheVariants.{rolls-True}
use Rattle.feature_expr.specs.declared.expr.Expr as e
use Rattle.feature_expr.specs.declared.expr.Expr.TheOpen.{Expr-F}
use Rattle.word_tokens.specs.declared.token.Token.{Token}
use Rattle.values.specs.declared.value.Value.{Value}
use Rattle.vschema.specs.Limits.{table_limit}
use Rattle.vschema.specs.Formed.{distinct, table_names, column_names, has_names, TableKnown, RowKnown, has_distinct_columns, CellsFit, FitsTable, RowFits, IsFormed}
use Rattle.vschema.specs.Words.{spelled_name_at, lower, folded_at}
use Rattle.vschema.specs.Spelling.{column_place, table_place, IsModel, no_model, some_model, IsWhen, no_when, some_when, IsColumn, ColumnsBefore, no_column_yet, another_column, AreColumns, IsTable, no_cells, CellsBefore, no_cell_yet, another_cell, AreCells, IsRow, IsEntry, tables_with, rows_with, EntriesTo, no_entry_yet, another_entry, SpellCatalogue}
use Rattle.vschema.specs.declared.catalog.Catalog.{Catalog}
use Rattle.vschema.specs.declared.catalog.Column.{Column}
use Rattle.vschema.specs.declared.catalog.OpeningRow.{OpeningRow}
use Rattle.vschema.specs.declared.catalog.Table.{Table}
use Rattle.vschema.specs.declared.entries.Entry.{Entry}
use Rattle.vschema.specs.declared.entries.Entry.TheVariants as entry
use Rattle.vschema.proofs.HeadLaws.{is_a_name}
use Rattle.std.proofs.lemmas.Iterator.Adapters.{position_from-zero}

both : (a b : Bool) → a ≡ true → b ≡ true → (a && b) ≡ true
both a b p q = rw (p, q) refl

and_parts : (a b : Bool) → (a && b) ≡ true → (a ≡ true) × (b ≡ true)
and_parts true true e = (refl, refl)
and_parts true false e = absurd (cc e)
and_parts false b e = absurd (cc e)

or_parts : (a b : Bool) → (a || b) ≡ false → (a ≡ false) × (b ≡ false)
or_parts false false e = (refl, refl)
or_parts false true e = absurd (cc e)
or_parts true b e = absurd (cc e)

not_false : (a : Bool) → not a ≡ true → a ≡ false
not_false false e = refl
not_false true e = absurd (cc e)

all_more : {X : Type 0} (p : X → Bool) (xs : List X) (x : X) → list_all p xs ≡ true → p x ≡ true → list_all p (xs ++ x ∷ []) ≡ true
all_more p xs x a b = list_all-append p xs (x ∷ []) ∙ rw (a, b) refl

-- names in lower case

le_true : (a b : ℕ) → a ≤ b → nat_le a b ≡ true
le_true a b h = grind (arith, nat_tests)

le_false : (a b : ℕ) → b < a → nat_le a b ≡ false
le_false a b h = grind (arith, nat_tests)

lt_of : (a b : ℕ) → nat_lt a b ≡ true → a < b
lt_of a b h = grind (arith, nat_tests)

not_lt_of : (a b : ℕ) → nat_lt a b ≡ false → b ≤ a
not_lt_of a b h = grind (arith, nat_tests)

large : (byte : ℕ) → 65 ≤ byte → byte ≤ 90 → is_ascii_alphabetic byte ≡ true
large byte low high = rw (le_true 65 byte low, le_true byte 90 high) refl

small : (byte : ℕ) → 97 ≤ byte → byte ≤ 122 → is_ascii_alphabetic byte ≡ true
small byte low high = rw (le_false byte 90 (omega arith), le_true 97 byte low, le_true byte 122 high, le_true 65 byte (omega arith)) refl

or_true : (a : Bool) → (a || true) ≡ true
or_true true = refl
or_true false = refl

or_assoc : (a b c : Bool) → (a || b || c) ≡ (a || (b || c))
or_assoc true b c = refl
or_assoc false b c = refl

is_ascii_alphanumeric_is : (byte : ℕ) → is_ascii_alphanumeric byte ≡ ((nat_le 48 byte && nat_le byte 57) || is_ascii_alphabetic byte)
is_ascii_alphanumeric_is byte = or_assoc (nat_le 48 byte && nat_le byte 57) (nat_le 65 byte && nat_le byte 90) (nat_le 97 byte && nat_le byte 122)

-- a condition that isn't written names no feature
mentions_True : (i : ℕ) → mentions i e.True ≡ false
mentions_True i = ap (mentions i) (sym rolls-True) ∙ fold-roll-Expr Bool (mentions_step i) Expr-F.True

true_known : (names : List (List ℕ)) → HasNames names e.True
true_known names i mentioned = absurd (cc (mentioned, mentions_True i))

digit_large : (byte : ℕ) → is_ascii_alphabetic byte ≡ true → is_ascii_alphanumeric byte ≡ true
digit_large byte h = let e : is_ascii_alphanumeric byte ≡ ((nat_le 48 byte && nat_le byte 57) || is_ascii_alphabetic byte) = is_ascii_alphanumeric_is byte in e ∙ rw h (or_true (nat_le 48 byte && nat_le byte 57))

lowered : (byte : ℕ) (low high : Bool) → nat_lt byte 65 ≡ low → nat_lt 90 byte ≡ high → (to_ascii_lowercase byte ≡ byte) ⊎ ((is_ascii_alphabetic (to_ascii_lowercase byte) ≡ true) × (is_ascii_alphabetic byte ≡ true))
lowered byte true high low_is high_is = inl ((lowercase_is byte).1 (lt_of byte 65 low_is))
lowered byte false true low_is high_is = inl ((lowercase_is byte).2 (lt_of 90 byte high_is))
lowered byte false false low_is high_is =
    let least = not_lt_of byte 65 low_is in
    let most = not_lt_of 90 byte high_is in
    let e : to_ascii_lowercase byte ≡ byte + 32 = (lowercase_is byte).0 (least, most) in
    inr (rw e (small (byte + 32) (omega arith) (omega arith)), large byte least most)

starts_lower_by : (byte : ℕ) → (to_ascii_lowercase byte ≡ byte) ⊎ ((is_ascii_alphabetic (to_ascii_lowercase byte) ≡ true) × (is_ascii_alphabetic byte ≡ true)) → starts_word (to_ascii_lowercase byte) ≡ starts_word byte
starts_lower_by byte (inl same) = ap starts_word same
starts_lower_by byte (inr letters) = rw (letters.0, letters.1) refl

continues_lower_by : (byte : ℕ) → (to_ascii_lowercase byte ≡ byte) ⊎ ((is_ascii_alphabetic (to_ascii_lowercase byte) ≡ true) × (is_ascii_alphabetic byte ≡ true)) → continues_word (to_ascii_lowercase byte) ≡ continues_word byte
continues_lower_by byte (inl same) = ap continues_word same
continues_lower_by byte (inr letters) = rw (digit_large (to_ascii_lowercase byte) letters.0, digit_large byte letters.1) refl

starts_lower : (byte : ℕ) → starts_word (to_ascii_lowercase byte) ≡ starts_word byte
starts_lower byte = starts_lower_by byte (lowered byte (nat_lt byte 65) (nat_lt 90 byte) refl refl)

continues_lower : (byte : ℕ) → continues_word (to_ascii_lowercase byte) ≡ continues_word byte
continues_lower byte = continues_lower_by byte (lowered byte (nat_lt byte 65) (nat_lt 90 byte) refl refl)

rest_lower : (bytes : List ℕ) → list_all continues_word (map to_ascii_lowercase bytes) ≡ list_all continues_word bytes
rest_lower [] = refl
rest_lower (byte ∷ bytes) = rw (continues_lower byte, rest_lower bytes) refl

word_lower : (bytes : List ℕ) → is_word_of (map to_ascii_lowercase bytes) ≡ is_word_of bytes
word_lower [] = refl
word_lower (byte ∷ bytes) = rw (starts_lower byte, rest_lower bytes) refl

twice_lower : (bytes : List ℕ) → map to_ascii_lowercase (map to_ascii_lowercase bytes) ≡ map to_ascii_lowercase bytes
twice_lower [] = refl
twice_lower (byte ∷ bytes) = rw (lowercase-lowercase byte, twice_lower bytes) refl

reserved_lower : (bytes : List ℕ) → is_reserved_word (map to_ascii_lowercase bytes) ≡ is_reserved_word bytes
reserved_lower bytes = ap (λ z. list_any (λ word. bytes_eq z (map to_ascii_lowercase word)) reserved_words) (twice_lower bytes)

name_lower : (bytes : List ℕ) → is_name_of (map to_ascii_lowercase bytes) ≡ is_name_of bytes
name_lower bytes = rw (length-map bytes to_ascii_lowercase, word_lower bytes, reserved_lower bytes) refl

-- names that stand once

position_zero : {X : Type 0} (p : X → Bool) (xs : List X) → position p xs ≡ position_from p 0 xs
position_zero p xs = position_from-zero p xs

bytes_sym : (x y : List ℕ) (b : Bool) → bytes_eq x y ≡ b → bytes_eq y x ≡ false → bytes_eq x y ≡ false
bytes_sym x y false is other = is
bytes_sym x y true is other = let same : x ≡ y = (bytes_eq-Decides x y).0 is in let e : bytes_eq y x ≡ true = (bytes_eq-Decides y x).1 (sym same) in absurd (cc (e, other))

distinct_more : (xs : List (List ℕ)) (x : List ℕ) → distinct xs ≡ true → among x xs ≡ false → distinct (xs ++ x ∷ []) ≡ true
distinct_more [] x d a = refl
distinct_more (y ∷ ys) x d a =
    let parts = and_parts (not (among y ys)) (distinct ys) d in
    let others = or_parts (bytes_eq y x) (among x ys) a in
    let new : bytes_eq x y ≡ false = bytes_sym x y (bytes_eq x y) refl others.0 in
    let here : among y (ys ++ x ∷ []) ≡ false = list_any-append (λ other. bytes_eq other y) ys (x ∷ []) ∙ rw (not_false (among y ys) parts.0, new) refl in
    both (not (among y (ys ++ x ∷ []))) (distinct (ys ++ x ∷ [])) (rw here refl) (distinct_more ys x parts.1 others.1)

none_passes_at : {X : Type 0} (p : X → Bool) (i : ℕ) (x : X) (xs : List X) (b : Bool) → p x ≡ b → (position_from p (i + 1) xs ≡ None → list_any p xs ≡ false) → position_from p i (x ∷ xs) ≡ None → list_any p (x ∷ xs) ≡ false
none_passes_at p i x xs true is more none = let q : Some i ≡ None = rw is at none in absurd (cc q)
none_passes_at p i x xs false is more none = let q : position_from p (i + 1) xs ≡ None = rw is at none in rw is (more q)

none_passes : {X : Type 0} (p : X → Bool) (i : ℕ) (xs : List X) → position_from p i xs ≡ None → list_any p xs ≡ false
none_passes p i [] none = refl
none_passes p i (x ∷ xs) none = none_passes_at p i x xs (p x) refl (none_passes p (i + 1) xs) none

among_columns : (name : List ℕ) (columns : List Column) → among name (column_names columns) ≡ list_any (λ (column : Column). bytes_eq column.name name) columns
among_columns name [] = refl
among_columns name (column ∷ columns) = rw (among_columns name columns) refl

among_tables : (name : List ℕ) (tables : List Table) → among name (table_names tables) ≡ list_any (λ (table : Table). bytes_eq table.name name) tables
among_tables name [] = refl
among_tables name (table ∷ tables) = rw (among_tables name tables) refl

new_column : (name : List ℕ) (columns : List Column) → column_place name columns ≡ None → among name (column_names columns) ≡ false
new_column name columns none =
    let p : Column → Bool = λ column. bytes_eq column.name name in among_columns name columns ∙ none_passes p 0 columns (sym (position_zero p columns) ∙ none)

new_table : (name : List ℕ) (tables : List Table) → table_place name tables ≡ None → among name (table_names tables) ≡ false
new_table name tables none =
    let p : Table → Bool = λ table. bytes_eq table.name name in among_tables name tables ∙ none_passes p 0 tables (sym (position_zero p tables) ∙ none)

-- cells

fit_none : (columns : List Column) → CellsFit columns (no_cells columns)
fit_none [] = tt
fit_none (column ∷ columns) = (tt, fit_none columns)

fit_set : (columns : List Column) (cells : List (Option Value)) (place : ℕ) (column : Column) (value : Value) → CellsFit columns cells → slice_get columns place ≡ Some column → kind_of value ≡ column.kind → CellsFit columns (set cells place (Some value))
fit_set [] cells place column value fit there kind = absurd (cc there)
fit_set (first ∷ columns) [] place column value fit there kind = absurd fit
fit_set (first ∷ columns) (cell ∷ cells) zero column value fit there kind = let same : first ≡ column = cc there in (rw same kind, fit.1)
fit_set (first ∷ columns) (cell ∷ cells) (suc place) column value fit there kind = (fit.0, fit_set columns cells place column value fit.1 there kind)

got_more : (tables : List Table) (number : ℕ) (table other : Table) → slice_get tables number ≡ Some table → slice_get (tables ++ other ∷ []) number ≡ Some table
got_more [] number table other there = absurd (cc there)
got_more (first ∷ tables) zero table other there = there
got_more (first ∷ tables) (suc number) table other there = got_more tables number table other there

fits_more_at : (tables : List Table) (other : Table) (row : OpeningRow) (found : Option Table) → slice_get tables row.table ≡ found → FitsTable found row → RowFits (tables ++ other ∷ []) row
fits_more_at tables other row None is fit = absurd fit
fits_more_at tables other row (Some table) is fit = let there = got_more tables row.table table other is in rw there fit

fit_more : (tables : List Table) (other : Table) (rows : List OpeningRow) → All (RowFits tables) rows → All (RowFits (tables ++ other ∷ [])) rows
fit_more tables other rows all k d within = fits_more_at tables other (slice_index_or rows k d) (slice_get tables (slice_index_or rows k d).table) refl (all k d within)

module _ (names : List (List ℕ)) (text : List ℕ) (tokens : List Token) where
  folded_from : (at : ℕ) (name : List ℕ) (found : Option (List ℕ)) → spelled_name_at text tokens at ≡ found → lower found ≡ Some name → is_name_of name ≡ true
  folded_from at name (Some word) is e =
      let same : map to_ascii_lowercase word ≡ name = cc e in
      rw (sym same) (name_lower word ∙ is_a_name text tokens at word is)
  folded_from at name None is e = absurd (cc e)

  folded_is_name : (at : ℕ) (name : List ℕ) → folded_at text tokens at ≡ Some name → is_name_of name ≡ true
  unfolding folded_at
  folded_is_name at name e = folded_from at name (spelled_name_at text tokens at) refl e

  when_known : (nesting at : ℕ) (cond : Expr) (end : ℕ) → IsWhen names text tokens nesting at cond end → HasNames names cond
  when_known nesting at cond end (no_when other) = true_known names
  when_known nesting at cond end (some_when expr last begins is) = names_spelled names text tokens (Disjunction nesting) (at + 1) expr last is.spelled

  model_known : (at : ℕ) (model : Expr) (end : ℕ) → IsModel names text tokens at model end → HasNames names model
  model_known at model end (no_model other) = true_known names
  model_known at model end (some_model expr last begins is stops) = names_spelled names text tokens (Disjunction 0) (at + 1) expr last is.spelled

  -- columns that have names, each its own, and whose conditions have known features
  record Columns (columns : List Column) : Type 0 where
    pub named : list_all is_name_of (column_names columns) ≡ true
    pub once : distinct (column_names columns) ≡ true
    pub known : All (λ (column : Column). HasNames names column.cond) columns

  names_more : (columns : List Column) (column : Column) → column_names (columns ++ column ∷ []) ≡ column_names columns ++ column.name ∷ []
  names_more columns column = map-append (λ (c : Column). c.name) columns (column ∷ [])

  one_column : (columns : List Column) (column : Column) (at end : ℕ) → Columns columns → IsColumn names text tokens columns at column end → Columns (columns ++ column ∷ [])
  one_column columns column at end so is = record {
    named = rw (names_more columns column) (all_more is_name_of (column_names columns) column.name so.named (folded_is_name at column.name is.is_new.named));
    once = rw (names_more columns column) (distinct_more (column_names columns) column.name so.once (new_column column.name columns is.is_new.fresh));
    known = All-push (λ (column : Column). HasNames names column.cond) columns column so.known (when_known 1 (at + 2) column.cond end is.condition);
  }

  columns_before : (from : ℕ) (columns : List Column) (at : ℕ) → ColumnsBefore names text tokens from columns at → Columns columns
  columns_before from all to no_column_yet = record { named = refl; once = refl; known = All-nil (λ (column : Column). HasNames names column.cond) }
  columns_before from all to (another_column columns column at end before is comma) = one_column columns column at end (columns_before from columns at before) is

  columns_formed : (from : ℕ) (columns : List Column) (end : ℕ) → AreColumns names text tokens from columns end → Columns columns
  columns_formed from columns end are = rw are.all (one_column are.others are.last are.at are.close (columns_before from are.others are.at are.before) are.is_column)

  cells_before : (columns : List Column) (from : ℕ) (cells : List (Option Value)) (at : ℕ) → CellsBefore text tokens columns from cells at → CellsFit columns cells
  cells_before columns from all to no_cell_yet = fit_none columns
  cells_before columns from all to (another_cell cells at place value before is comma) = fit_set columns cells place is.column value (cells_before columns from cells at before) is.is_new.there is.kind

  cells_formed : (columns : List Column) (from : ℕ) (cells : List (Option Value)) (end : ℕ) → AreCells text tokens columns from cells end → CellsFit columns cells
  cells_formed columns from cells end are = rw are.all (fit_set columns are.others are.place are.is_cell.column are.value (cells_before columns from are.others are.at are.before) are.is_cell.is_new.there are.is_cell.kind)

  -- tables and rows that are formed
  record Entries (tables : List Table) (rows : List OpeningRow) : Type 0 where
    pub within : length tables ≤ table_limit
    pub named : list_all has_names tables ≡ true
    pub tables_known : All (TableKnown names) tables
    pub rows_known : All (RowKnown names) rows
    pub once : distinct (table_names tables) ≡ true
    pub columns_once : list_all has_distinct_columns tables ≡ true
    pub fitting : All (RowFits tables) rows

  tables_more : (tables : List Table) (table : Table) → table_names (tables ++ table ∷ []) ≡ table_names tables ++ table.name ∷ []
  tables_more tables table = map-append (λ (t : Table). t.name) tables (table ∷ [])

  one_table : (tables : List Table) (rows : List OpeningRow) (at end : ℕ) (table : Table) → Entries tables rows → IsTable names text tokens tables at table end → Entries (tables ++ table ∷ []) rows
  one_table tables rows at end table so is =
      let columns = columns_formed (at + 3) table.columns is.behind is.columns in
      record {
        within = omega (arith, length-append tables (table ∷ []), is.is_new.within);
        named = all_more has_names tables table so.named (both (is_name_of table.name) (list_all is_name_of (column_names table.columns)) (folded_is_name (at + 1) table.name is.is_new.named) columns.named);
        tables_known = All-push (TableKnown names) tables table so.tables_known (record { table_known = when_known 0 is.behind table.cond is.tail.last is.tail.condition; columns_known = columns.known });
        rows_known = so.rows_known;
        once = rw (tables_more tables table) (distinct_more (table_names tables) table.name so.once (new_table table.name tables is.is_new.fresh));
        columns_once = all_more has_distinct_columns tables table so.columns_once columns.once;
        fitting = fit_more tables table rows so.fitting;
      }

  one_row : (tables : List Table) (rows : List OpeningRow) (at end : ℕ) (row : OpeningRow) → Entries tables rows → IsRow names text tokens tables at row end → Entries tables (rows ++ row ∷ [])
  one_row tables rows at end row so is =
      let fits : RowFits tables row = rw is.is_name.there (cells_formed is.table.columns (at + 3) row.cells is.behind is.cells) in
      record {
        within = so.within;
        named = so.named;
        tables_known = so.tables_known;
        rows_known = All-push (RowKnown names) rows row so.rows_known (when_known 0 is.behind row.cond is.tail.last is.tail.condition);
        once = so.once;
        columns_once = so.columns_once;
        fitting = All-push (RowFits tables) rows row so.fitting fits;
      }

  one_entry : (tables : List Table) (rows : List OpeningRow) (at end : ℕ) (e : Entry) → Entries tables rows → IsEntry names text tokens tables at e end → Entries (tables_with tables e) (rows_with rows e)
  one_entry tables rows at end (entry.Table table) so is = one_table tables rows at end table so is
  one_entry tables rows at end (entry.Row row) so is = one_row tables rows at end row so is

  entries_formed : (from : ℕ) (tables : List Table) (rows : List OpeningRow) (end : ℕ) → EntriesTo names text tokens from tables rows end → Entries tables rows
  entries_formed from all all_rows to no_entry_yet = record { within = omega arith; named = refl; tables_known = All-nil (TableKnown names); rows_known = All-nil (RowKnown names); once = refl; columns_once = refl; fitting = All-nil (RowFits []) }
  entries_formed from all all_rows to (another_entry tables rows e at end before is) = one_entry tables rows at end e (entries_formed from tables rows at before) is

-- what all tokens spell is formed
pub is_formed : (text : List ℕ) (tokens : List Token) (catalog : Catalog) (rows : List OpeningRow) → SpellCatalogue text tokens catalog rows → IsFormed catalog rows
is_formed text tokens catalog rows spelled =
    let so = entries_formed catalog.features text tokens spelled.entries catalog.tables rows (length tokens) spelled.all_entries in
    record {
      countable = omega (arith, so.within);
      named = so.named;
      model_known = model_known catalog.features text tokens spelled.body catalog.model spelled.entries spelled.model;
      tables_known = so.tables_known;
      rows_known = so.rows_known;
      distinct_tables = so.once;
      distinct_columns = so.columns_once;
      fitting = so.fitting;
    }
