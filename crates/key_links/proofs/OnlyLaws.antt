-- A column that alone has its name.
use Rattle.std.proofs.Common.{◌≡◌, ◌∙◌, ℕ, zero, suc, ◌+◌, Bool, true, false, not, ◌&&◌, ◌||◌, List, [], ◌∷◌, refl, sym, ap, arith, rules, Option, Some, fold, slice_get}
use Rattle.std.specs.List.{list_any}
use Rattle.feature_expr.specs.declared.expr.Expr.{Expr}
use Rattle.key_links.specs.KeyLinks.{is_named, is_only_at}
use Rattle.row_conditions.specs.Truths.{Slot, slots_of}
use Rattle.values.specs.declared.column_name.ColName.{ColName}
use Rattle.values.specs.declared.value.Value.{Value}
use Rattle.vtable.specs.declared.table.VColumn.{VColumn}

-- places in what is left of the columns are places in all of them
abbrev pub Behind : ColName → ℕ → List VColumn → List VColumn → Type 0
Behind name place left columns = (k : ℕ) → is_only_at name k left ≡ is_only_at name (k + place) columns

found_by : (name : ColName) (column : VColumn) (more : List VColumn) → is_named name column ≡ true → list_any (is_named name) more ≡ false → is_only_at name 0 (column ∷ more) ≡ true
found_by name column more is none = rw (is, none) refl

pub only_found : (name : ColName) (place : ℕ) (column : VColumn) (more left columns : List VColumn) → Behind name place left columns → left ≡ column ∷ more → is_named name column ≡ true → list_any (is_named name) more ≡ false → is_only_at name place columns ≡ true
only_found name place column more left columns behind split is none =
    ap (λ k. is_only_at name k columns) (omega arith) ∙ sym (behind 0) ∙ ap (is_only_at name 0) split ∙ found_by name column more is none

passed_by : (name : ColName) (k : ℕ) (column : VColumn) (more : List VColumn) → is_named name column ≡ false → is_only_at name (suc k) (column ∷ more) ≡ is_only_at name k more
passed_by name k column more is = rw is refl

pub only_behind : (name : ColName) (place : ℕ) (column : VColumn) (more columns : List VColumn) → Behind name place (column ∷ more) columns → is_named name column ≡ false → Behind name (place + 1) more columns
only_behind name place column more columns behind is k = sym (passed_by name k column more is) ∙ behind (suc k) ∙ ap (λ n. is_only_at name n columns) (omega arith)

and_first : (a b : Bool) → (a && b) ≡ true → a ≡ true
and_first true b h = refl
and_first false b h = h

and_second : (a b : Bool) → (a && b) ≡ true → b ≡ true
and_second true b h = h
and_second false b h = search rules

is_not : (b : Bool) → not b ≡ true → b ≡ false
is_not true h = search rules
is_not false h = refl

or_first : (a b : Bool) → (a || b) ≡ false → a ≡ false
or_first true b h = h
or_first false b h = refl

or_second : (a b : Bool) → (a || b) ≡ false → b ≡ false
or_second true b h = search rules
or_second false b h = h

-- What goes over slots and passes those of other names.
module _ (g : Expr → Slot → Expr) (name : ColName) (skips : (out : Expr) (column : VColumn) (cell : Option Value) → is_named name column ≡ false → g out (record { column = column; cell = cell }) ≡ out) where
  -- where no column has the name
  pub none_named : (columns : List VColumn) (cells : List (Option Value)) (out : Expr) → list_any (is_named name) columns ≡ false → fold g out (slots_of columns cells) ≡ out
  none_named [] cells out h = refl
  none_named (column ∷ columns) [] out h = refl
  none_named (column ∷ columns) (cell ∷ cells) out h =
      ap (λ x. fold g x (slots_of columns cells)) (skips out column cell (or_first (is_named name column) (list_any (is_named name) columns) h))
      ∙ none_named columns cells out (or_second (is_named name column) (list_any (is_named name) columns) h)

  -- where the only one that has it adds nothing
  pub one_named : (place : ℕ) (columns : List VColumn) (cells : List (Option Value)) (out : Expr) → is_only_at name place columns ≡ true
      → ((column : VColumn) (cell : Option Value) → slice_get cells place ≡ Some cell → g out (record { column = column; cell = cell }) ≡ out)
      → fold g out (slots_of columns cells) ≡ out
  one_named place [] cells out only adds = refl
  one_named zero (column ∷ columns) [] out only adds = refl
  one_named zero (column ∷ columns) (cell ∷ cells) out only adds =
      ap (λ x. fold g x (slots_of columns cells)) (adds column cell refl)
      ∙ none_named columns cells out (is_not (list_any (is_named name) columns) (and_second (is_named name column) (not (list_any (is_named name) columns)) only))
  one_named (suc place) (column ∷ columns) [] out only adds = refl
  one_named (suc place) (column ∷ columns) (cell ∷ cells) out only adds =
      ap (λ x. fold g x (slots_of columns cells)) (skips out column cell (is_not (is_named name column) (and_first (not (is_named name column)) (is_only_at name place columns) only)))
      ∙ one_named place columns cells out (and_second (not (is_named name column)) (is_only_at name place columns) only) (λ column cell is. adds column cell is)

pub behind_all : (name : ColName) (columns : List VColumn) → Behind name 0 columns columns
behind_all name columns k = ap (λ n. is_only_at name n columns) (omega arith)
