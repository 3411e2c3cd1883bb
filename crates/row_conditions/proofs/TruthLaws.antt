-- The expression that is made of a condition and a row's slots holds in the variants in which the condition is true of the
-- row, where no two columns of one name are there.
use Rattle.std.proofs.Common.{◌≡◌, ◌∙◌, ℕ, Bool, true, false, not, ◌&&◌, ◌||◌, List, [], ◌∷◌, Option, Some, None, if◌then◌else◌, refl, sym, ap, ap₂, subst}
use Rattle.std.specs.List.{list_any}
use Rattle.feature_expr.specs.Expressions.{and_of, not_of}
use Rattle.feature_expr.specs.Satisfaction.{satisfies}
use Rattle.feature_expr.specs.declared.expr.Expr.{Expr}
use Rattle.feature_expr.specs.declared.expr.Expr as e
use Rattle.values.specs.declared.column_name.ColName.{ColName}
use Rattle.values.specs.declared.value.Value.{Value}
use Rattle.plain_relation.specs.Relations.{cell_of, same_name}
use Rattle.relational_algebra.specs.Conditions.{holds, holds_step, value_of}
use Rattle.relational_algebra.specs.Values.{compares, compares_values}
use Rattle.row_conditions.specs.RowConditions.{cells_are_distinct}
use Rattle.row_conditions.specs.Truths.{Slot, choice_of, comparing, constant, is_fitting, left_test, own_test, pairing, passes, passing, right_test, truth_of, truth_step, with_pairs, with_slot}
use Rattle.row_conditions.proofs.BoolLaws.{and_true, and_false, or_assoc, or_false}
use Rattle.row_conditions.proofs.FoldingLaws.{and_holds, or_holds, not_holds, holds_True, holds_False}
use Rattle.row_conditions.proofs.NameLaws.{name_is}
use Rattle.row_conditions.proofs.SlotLaws.{finds, found, slots_row}
use Rattle.vra_syntax.specs.declared.cond.Cond.{Cond, map-Cond, roll-Cond}
use Rattle.vra_syntax.specs.declared.cond.Cond.TheFolds.{fold-roll-Cond, ind-Cond}
use Rattle.vra_syntax.specs.declared.cond.Cond.TheOpen.{Cond-F}
use Rattle.vra_syntax.specs.declared.cond.Op.{Op}
use Rattle.vra_syntax.specs.declared.cond.Operand.{Operand}
use Rattle.vra_syntax.specs.declared.cond.Operand.TheVariants as operand

module _ (c : List ℕ) where
  slot_step : (name : ColName) (test : Value → Bool) (out : Expr) (slot : Slot) (fits : Bool) → is_fitting name test slot ≡ fits → satisfies c (with_slot name test out slot) ≡ (satisfies c out || finds c (passes test) name slot)
  slot_step name test out slot true is = rw is (or_holds c out slot.column.cond ∙ ap (λ b. satisfies c out || b) (sym (and_true (satisfies c slot.column.cond))))
  slot_step name test out slot false is = rw is (sym (ap (λ b. satisfies c out || b) (and_false (satisfies c slot.column.cond)) ∙ or_false (satisfies c out)))

  passing_holds : (name : ColName) (test : Value → Bool) (out : Expr) (slots : List Slot) → satisfies c (passing name test out slots) ≡ (satisfies c out || list_any (finds c (passes test) name) slots)
  passing_holds name test out [] = sym (or_false (satisfies c out))
  passing_holds name test out (slot ∷ slots) =
      passing_holds name test (with_slot name test out slot) slots
      ∙ ap (λ b. b || list_any (finds c (passes test) name) slots) (slot_step name test out slot (is_fitting name test slot) refl)
      ∙ or_assoc (satisfies c out) (finds c (passes test) name slot) (list_any (finds c (passes test) name) slots)

  module _ (all : List Slot) (distinct : cells_are_distinct (slots_row c all) ≡ true) where
    -- what a name finds in the row passes the test
    passing_found : (name : ColName) (test : Value → Bool) → satisfies c (passing name test e.False all) ≡ passes test (cell_of (slots_row c all) name)
    passing_found name test =
        passing_holds name test e.False all
        ∙ ap (λ b. b || list_any (finds c (passes test) name) all) (holds_False c)
        ∙ sym (found c (passes test) refl name all distinct)

    on_left : (sign : Op) (value : Value) (x : Option Value) → passes (left_test sign value) x ≡ compares sign (Some value) x
    on_left sign value None = refl
    on_left sign value (Some x) = refl

    on_right : (sign : Op) (value : Value) (x : Option Value) → passes (right_test sign value) x ≡ compares sign x (Some value)
    on_right sign value None = refl
    on_right sign value (Some x) = refl

    on_both : (sign : Op) (x : Option Value) → passes (own_test sign) x ≡ compares sign x x
    on_both sign None = refl
    on_both sign (Some x) = refl

    without_left : (sign : Op) (x : Option Value) → false ≡ compares sign None x
    without_left sign None = refl
    without_left sign (Some x) = refl

    without_right : (sign : Op) (x : Option Value) → false ≡ compares sign x None
    without_right sign None = refl
    without_right sign (Some x) = refl

    abbrev to_other : Op → ColName → Option Value → Bool
    to_other sign other cell = compares sign cell (cell_of (slots_row c all) other)

    pair_step : (name : ColName) (sign : Op) (other : ColName) (out : Expr) (slot : Slot) (cell : Option Value) (same : Bool) → slot.cell ≡ cell → same_name slot.column.name name ≡ same → satisfies c (with_pairs name sign other all out slot) ≡ (satisfies c out || finds c (to_other sign other) name slot)
    pair_step name sign other out slot cell false is same = rw same (sym (ap (λ b. satisfies c out || b) (and_false (satisfies c slot.column.cond)) ∙ or_false (satisfies c out)))
    pair_step name sign other out slot None true is same =
        rw (same, is) (rw (sym (without_left sign (cell_of (slots_row c all) other))) (sym (ap (λ b. satisfies c out || b) (and_false (satisfies c slot.column.cond)) ∙ or_false (satisfies c out))))
    pair_step name sign other out slot (Some value) true is same =
        rw (same, is) (
        or_holds c out (and_of slot.column.cond (passing other (left_test sign value) e.False all))
        ∙ ap (λ b. satisfies c out || b) (
        and_holds c slot.column.cond (passing other (left_test sign value) e.False all)
        ∙ ap (λ b. satisfies c slot.column.cond && b) (passing_found other (left_test sign value) ∙ on_left sign value (cell_of (slots_row c all) other))
        ))

    pairing_holds : (name : ColName) (sign : Op) (other : ColName) (out : Expr) (slots : List Slot) → satisfies c (pairing name sign other all out slots) ≡ (satisfies c out || list_any (finds c (to_other sign other) name) slots)
    pairing_holds name sign other out [] = sym (or_false (satisfies c out))
    pairing_holds name sign other out (slot ∷ slots) =
        pairing_holds name sign other (with_pairs name sign other all out slot) slots
        ∙ ap (λ b. b || list_any (finds c (to_other sign other) name) slots) (pair_step name sign other out slot slot.cell (same_name slot.column.name name) refl refl)
        ∙ or_assoc (satisfies c out) (finds c (to_other sign other) name slot) (list_any (finds c (to_other sign other) name) slots)

    columns_hold : (name : ColName) (sign : Op) (other : ColName) (same : Bool) → same_name name other ≡ same → satisfies c (comparing all (operand.Column name) sign (operand.Column other)) ≡ compares sign (cell_of (slots_row c all) name) (cell_of (slots_row c all) other)
    columns_hold name sign other true is =
        rw is (passing_found name (own_test sign) ∙ on_both sign (cell_of (slots_row c all) name) ∙ ap (λ n. compares sign (cell_of (slots_row c all) name) (cell_of (slots_row c all) n)) (name_is name other is))
    columns_hold name sign other false is =
        rw is (
        pairing_holds name sign other e.False all
        ∙ ap (λ b. b || list_any (finds c (to_other sign other) name) all) (holds_False c)
        ∙ sym (found c (to_other sign other) (sym (without_left sign (cell_of (slots_row c all) other))) name all distinct)
        )

    constant_holds : (b : Bool) → satisfies c (constant b) ≡ b
    constant_holds true = holds_True c
    constant_holds false = holds_False c

    comparing_holds : (left : Operand) (sign : Op) (right : Operand) → satisfies c (comparing all left sign right) ≡ compares sign (value_of (slots_row c all) left) (value_of (slots_row c all) right)
    comparing_holds (operand.Column name) sign (operand.Column other) = columns_hold name sign other (same_name name other) refl
    comparing_holds (operand.Column name) sign (operand.Literal value) = passing_found name (right_test sign value) ∙ on_right sign value (cell_of (slots_row c all) name)
    comparing_holds (operand.Column name) sign (operand.Param k) = holds_False c ∙ without_right sign (cell_of (slots_row c all) name)
    comparing_holds (operand.Literal value) sign (operand.Column name) = passing_found name (left_test sign value) ∙ on_left sign value (cell_of (slots_row c all) name)
    comparing_holds (operand.Literal value) sign (operand.Literal other) = constant_holds (compares_values sign value other)
    comparing_holds (operand.Literal value) sign (operand.Param k) = holds_False c
    comparing_holds (operand.Param k) sign right = params sign right where
      params : (sign : Op) (right : Operand) → satisfies c (comparing all (operand.Param k) sign right) ≡ compares sign None (value_of (slots_row c all) right)
      params sign (operand.Column name) = holds_False c ∙ without_left sign (cell_of (slots_row c all) name)
      params sign (operand.Literal value) = holds_False c
      params sign (operand.Param n) = holds_False c

    chosen : (b l r : Bool) → ((b && l) || (not b && r)) ≡ (if b then l else r)
    chosen true l r = or_false l
    chosen false l r = refl

    choice_holds : (expr left right : Expr) → satisfies c (choice_of expr left right) ≡ (if satisfies c expr then satisfies c left else satisfies c right)
    choice_holds expr left right =
        or_holds c (and_of expr left) (and_of (not_of expr) right)
        ∙ ap₂ (λ x y. x || y) (and_holds c expr left) (and_holds c (not_of expr) right ∙ ap (λ b. b && satisfies c right) (not_holds c expr))
        ∙ chosen (satisfies c expr) (satisfies c left) (satisfies c right)

    abbrev P : Cond → Type 0
    P cond = satisfies c (truth_of all cond) ≡ holds c cond (slots_row c all)

    rolled : (x : Cond-F Cond) → satisfies c (truth_step all (map-Cond Cond Expr (truth_of all) x)) ≡ holds_step c (slots_row c all) (map-Cond Cond Bool (λ cond. holds c cond (slots_row c all)) x) → P (roll-Cond x)
    rolled x f = ap (satisfies c) (fold-roll-Cond Expr (truth_step all) x) ∙ f ∙ sym (fold-roll-Cond Bool (holds_step c (slots_row c all)) x)

    layer : (y : Cond-F ((cond : Cond) × P cond)) → P (roll-Cond (map-Cond ((cond : Cond) × P cond) Cond (λ p. p.0) y))
    layer (Cond-F.Cmp left sign right) = rolled (Cond-F.Cmp left sign right) (comparing_holds left sign right)
    layer (Cond-F.Not inner) = rolled (Cond-F.Not inner.0) (not_holds c (truth_of all inner.0) ∙ ap not inner.1)
    layer (Cond-F.And l r) = rolled (Cond-F.And l.0 r.0) (and_holds c (truth_of all l.0) (truth_of all r.0) ∙ ap₂ (λ x y. x && y) l.1 r.1)
    layer (Cond-F.Or l r) = rolled (Cond-F.Or l.0 r.0) (or_holds c (truth_of all l.0) (truth_of all r.0) ∙ ap₂ (λ x y. x || y) l.1 r.1)
    layer (Cond-F.Choice expr l r) = rolled (Cond-F.Choice expr l.0 r.0) (choice_holds expr (truth_of all l.0) (truth_of all r.0) ∙ ap₂ (λ x y. if satisfies c expr then x else y) l.1 r.1)
    layer Cond-F.True = rolled Cond-F.True (holds_True c)
    layer Cond-F.False = rolled Cond-F.False (holds_False c)

    -- where no two columns of one name are there, it holds where the condition is true of the row
    pub truth_holds : (cond : Cond) → P cond
    truth_holds = ind-Cond P (λ x y is. subst (λ z. P (roll-Cond z)) is (layer y))
