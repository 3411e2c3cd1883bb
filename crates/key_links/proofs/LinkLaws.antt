-- Links of two columns.
use Rattle.std.proofs.Common.{◌≡◌, ◌∙◌, ℕ, zero, suc, ◌&&◌, ◌||◌, not, fold, Bool, true, false, List, [], ◌∷◌, ◌++◌, refl, sym, ap, subst, rules, Option, Some, None, slice_get, true≢false, if◌then◌else◌}
use Rattle.std.specs.List.{list_any}
use Rattle.std.specs.declared.cmp.Ordering.{Ordering}
use Rattle.std.specs.declared.cmp.Ordering.TheVariants.{Less, Equal, Greater}
use Rattle.feature_expr.specs.Expressions.{and_of}
use Rattle.feature_expr.specs.declared.expr.Expr.{Expr}
use Rattle.feature_expr.specs.declared.expr.Expr as e
use Rattle.key_links.proofs.NeededLaws.{and_none, truth_cmp}
use Rattle.key_links.proofs.OnlyLaws.{none_named, one_named}
use Rattle.key_links.proofs.PassingLaws.{fold_append, none_passes, one_fails, passing_append}
use Rattle.key_links.specs.KeyLinks.{ArePlacesOf, IsColumnLink, IsPart, cell_at, cell_or_none, equals_column, is_equal, is_named, is_only_at}
use Rattle.key_links.specs.declared.columns.ColumnLink.{ColumnLink}
use Rattle.plain_relation.specs.Relations.{same_name}
use Rattle.plain_relation.specs.Values.{same_kind, value_cmp}
use Rattle.plan_tables.proofs.WeightLaws.{or_none}
use Rattle.relational_algebra.specs.Values.{meets_op}
use Rattle.row_conditions.specs.Truths.{Slot, left_test, pairing, passes, passing, slots_of, with_pairs, with_pairs_of}
use Rattle.row_conditions.proofs.NameLaws.{name_is}
use Rattle.values.specs.Value.{kind_of}
use Rattle.values.specs.declared.column_name.ColName.{ColName}
use Rattle.values.specs.declared.value.Value.{Value}
use Rattle.vra_syntax.specs.declared.cond.Cond.{Cond}
use Rattle.vra_syntax.specs.declared.cond.Op.TheVariants as op
use Rattle.vra_syntax.specs.declared.cond.Operand.TheVariants as operand
use Rattle.vtable.proofs.CellLaws.{same_cells_self, value_is}
use Rattle.vtable.specs.TableForm.{same_cells}
use Rattle.vtable.specs.declared.table.VColumn.{VColumn}

equal_by : (v w : Value) (b : Bool) (o : Ordering) → value_cmp v w ≡ o → (if b then meets_op op.Eq o else false) ≡ true → v ≡ w
equal_by v w true Less is h = search rules
equal_by v w true Equal is h = value_is v w is
equal_by v w true Greater is h = search rules
equal_by v w false o is h = search rules

equal_is : (v w : Value) → is_equal v w ≡ true → v ≡ w
equal_is v w h = equal_by v w (same_kind (kind_of v) (kind_of w)) (value_cmp v w) refl h

-- different cells don't compare
different_by : (v w : Value) (b : Bool) → is_equal v w ≡ b → same_cells (Some w ∷ []) (Some v ∷ []) ≡ false → b ≡ false
different_by v w true is h = absurd (true≢false (sym (subst (λ x. same_cells (Some x ∷ []) (Some v ∷ []) ≡ true) (equal_is v w is) (same_cells_self (Some v ∷ []))) ∙ h))
different_by v w false is h = refl

different : (v w : Value) → same_cells (Some w ∷ []) (Some v ∷ []) ≡ false → is_equal v w ≡ false
different v w h = different_by v w (is_equal v w) refl h

turned_by : (v w : Value) (b : Bool) → is_equal w v ≡ b → same_cells (Some w ∷ []) (Some v ∷ []) ≡ false → b ≡ false
turned_by v w true is h = absurd (true≢false (sym (subst (λ x. same_cells (Some w ∷ []) (Some x ∷ []) ≡ true) (equal_is w v is) (same_cells_self (Some w ∷ []))) ∙ h))
turned_by v w false is h = refl

turned : (v w : Value) → same_cells (Some w ∷ []) (Some v ∷ []) ≡ false → is_equal w v ≡ false
turned v w h = turned_by v w (is_equal w v) refl h

-- a name that a column has is none that no column has
has_name : (name : ColName) (place : ℕ) (columns : List VColumn) → is_only_at name place columns ≡ true → list_any (is_named name) columns ≡ true
has_name name place [] h = search rules
has_name name zero (column ∷ columns) h = first_of (is_named name column) _ (list_any (is_named name) columns) h where
  first_of : (a b c : Bool) → (a && b) ≡ true → (a || c) ≡ true
  first_of true b c h = refl
  first_of false b c h = search rules
has_name name (suc place) (column ∷ columns) h = second_of (is_named name column) _ (list_any (is_named name) columns) (has_name name place columns) h where
  second_of : (a b c : Bool) → (b ≡ true → c ≡ true) → (not a && b) ≡ true → (a || c) ≡ true
  second_of true b c on h = refl
  second_of false b c on h = on h

apart_by : (one other : ColName) (place : ℕ) (columns : List VColumn) (b : Bool) → same_name one other ≡ b → is_only_at one place columns ≡ true → list_any (is_named other) columns ≡ false → b ≡ false
apart_by one other place columns true is only none =
    absurd (true≢false (sym (subst (λ name. list_any (is_named name) columns ≡ true) (name_is one other is) (has_name one place columns only)) ∙ none))
apart_by one other place columns false is only none = refl

apart : (one other : ColName) (place : ℕ) (columns : List VColumn) → is_only_at one place columns ≡ true → list_any (is_named other) columns ≡ false → same_name one other ≡ false
apart one other place columns only none = apart_by one other place columns (same_name one other) refl only none

same_some : (v w : Value) → Some v ≡ Some w → v ≡ w
same_some v w h = search rules

-- the value that is found at a place is the cell there
found : (cells : List (Option Value)) (place : ℕ) (v : Value) → slice_get cells place ≡ Some (Some v) → cell_at place cells ≡ Some v
found cells place v is = ap cell_or_none is

module _ (one other : ColName) (slots : List Slot) where
  skips : (out : Expr) (column : VColumn) (cell : Option Value) → is_named one column ≡ false → with_pairs one op.Eq other slots out (record { column = column; cell = cell }) ≡ out
  skips out column cell is = rw is refl

  adds_value : (column : VColumn) (v : Value) → passing other (left_test op.Eq v) e.False slots ≡ e.False → with_pairs_of other op.Eq slots e.False column.cond (Some v) ≡ e.False
  adds_value column v none = or_none (and_of column.cond (passing other (left_test op.Eq v) e.False slots)) ∙ ap (and_of column.cond) none ∙ and_none column.cond

  adds_by : (column : VColumn) (cell : Option Value) (b : Bool) → is_named one column ≡ b → ((v : Value) → cell ≡ Some v → passing other (left_test op.Eq v) e.False slots ≡ e.False)
      → with_pairs one op.Eq other slots e.False (record { column = column; cell = cell }) ≡ e.False
  adds_by column cell false is none = rw is refl
  adds_by column None true is none = rw is refl
  adds_by column (Some v) true is none = rw is (adds_value column v (none v refl))

  adds_none : (column : VColumn) (cell : Option Value) → ((v : Value) → cell ≡ Some v → passing other (left_test op.Eq v) e.False slots ≡ e.False) → with_pairs one op.Eq other slots e.False (record { column = column; cell = cell }) ≡ e.False
  adds_none column cell none = adds_by column cell (is_named one column) refl none

module _ (one other : ColName) (left right : List VColumn) (link : ColumnLink) (places : ArePlacesOf one other left right link) (cells others : List (Option Value))
    (differs : same_cells (cell_at link.right others ∷ []) (cell_at link.left cells ∷ []) ≡ false) where
  abbrev both : List Slot
  both = slots_of left cells ++ slots_of right others

  values_differ : (v w : Value) → slice_get cells link.left ≡ Some (Some v) → slice_get others link.right ≡ Some (Some w) → same_cells (Some w ∷ []) (Some v ∷ []) ≡ false
  values_differ v w is are = subst (λ y. same_cells (y ∷ []) (Some v ∷ []) ≡ false) (found others link.right w are) (subst (λ x. same_cells (cell_at link.right others ∷ []) (x ∷ []) ≡ false) (found cells link.left v is) differs)

  right_fails : (v : Value) → slice_get cells link.left ≡ Some (Some v) → (cell : Option Value) → slice_get others link.right ≡ Some cell → passes (left_test op.Eq v) cell ≡ false
  right_fails v is None are = refl
  right_fails v is (Some w) are = different v w (values_differ v w is are)

  left_fails : (w : Value) → slice_get others link.right ≡ Some (Some w) → (cell : Option Value) → slice_get cells link.left ≡ Some cell → passes (left_test op.Eq w) cell ≡ false
  left_fails w are None is = refl
  left_fails w are (Some v) is = turned v w (values_differ v w is are)

  none_right : (v : Value) → slice_get cells link.left ≡ Some (Some v) → passing other (left_test op.Eq v) e.False both ≡ e.False
  none_right v is =
      passing_append other (left_test op.Eq v) e.False (slots_of left cells) (slots_of right others)
      ∙ ap (λ x. passing other (left_test op.Eq v) x (slots_of right others)) (none_passes other (left_test op.Eq v) left cells e.False places.not_left)
      ∙ one_fails other (left_test op.Eq v) link.right right others e.False places.second (right_fails v is)

  none_left : (w : Value) → slice_get others link.right ≡ Some (Some w) → passing one (left_test op.Eq w) e.False both ≡ e.False
  none_left w are =
      passing_append one (left_test op.Eq w) e.False (slots_of left cells) (slots_of right others)
      ∙ ap (λ x. passing one (left_test op.Eq w) x (slots_of right others)) (one_fails one (left_test op.Eq w) link.left left cells e.False places.first (left_fails w are))
      ∙ none_passes one (left_test op.Eq w) right others e.False places.not_right

  pairing_none : pairing one op.Eq other both e.False both ≡ e.False
  pairing_none =
      fold_append (with_pairs one op.Eq other both) e.False (slots_of left cells) (slots_of right others)
      ∙ ap (λ x. fold (with_pairs one op.Eq other both) x (slots_of right others))
      (one_named (with_pairs one op.Eq other both) one (skips one other both) link.left left cells e.False places.first
      (λ column cell is. adds_none one other both column cell (λ v has. none_right v (is ∙ ap Some has))))
      ∙ none_named (with_pairs one op.Eq other both) one (skips one other both) right others e.False places.not_right

  pairing_turned : pairing other op.Eq one both e.False both ≡ e.False
  pairing_turned =
      fold_append (with_pairs other op.Eq one both) e.False (slots_of left cells) (slots_of right others)
      ∙ ap (λ x. fold (with_pairs other op.Eq one both) x (slots_of right others))
      (none_named (with_pairs other op.Eq one both) other (skips other one both) left cells e.False places.not_left)
      ∙ one_named (with_pairs other op.Eq one both) other (skips other one both) link.right right others e.False places.second
      (λ column cell is. adds_none other one both column cell (λ w has. none_left w (is ∙ ap Some has)))

-- a comparison of two columns, the left side's first
pub linked : (one other : ColName) (left right : List VColumn) (link : ColumnLink) → ArePlacesOf one other left right link → IsColumnLink (equals_column one other) left right link
linked one other left right link places = record {
  nowhere = λ cells others differs.
      truth_cmp (slots_of left cells ++ slots_of right others) (operand.Column one) (operand.Column other)
      ∙ rw (apart one other link.left left places.first places.not_left) (pairing_none one other left right link places cells others differs);
}

-- and the right side's first
pub linked_turned : (one other : ColName) (left right : List VColumn) (link : ColumnLink) → ArePlacesOf one other left right link → IsColumnLink (equals_column other one) left right link
linked_turned one other left right link places = record {
  nowhere = λ cells others differs.
      truth_cmp (slots_of left cells ++ slots_of right others) (operand.Column other) (operand.Column one)
      ∙ rw (apart other one link.right right places.second places.not_right) (pairing_turned one other left right link places cells others differs);
}

-- a link of a part is one of the whole
pub linked_part : (whole part : Cond) (left right : List VColumn) (link : ColumnLink) → IsPart whole part → IsColumnLink part left right link → IsColumnLink whole left right link
linked_part whole part left right link is has = record { nowhere = λ cells others differs. is.nowhere (slots_of left cells ++ slots_of right others) (has.nowhere cells others differs) }
