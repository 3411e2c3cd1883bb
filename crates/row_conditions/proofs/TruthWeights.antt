-- The expression that is made of a condition and a row's slots weighs no more than the condition costs.
use Rattle.std.proofs.Common.{◌≡◌, ◌∙◌, ℕ, zero, suc, ◌+◌, ◌-◌, ◌*◌, ◌≤◌, Bool, true, false, List, [], ◌∷◌, ◌++◌, Option, Some, None, if◌then◌else◌, refl, sym, ap, subst, true≢false, arith}
use Rattle.std.proofs.lemmas.List.Sums.{sum_by-cons}
use Rattle.feature_expr.specs.Expressions.{and_of, not_of, weight_of}
use Rattle.feature_expr.specs.declared.expr.Expr.{Expr}
use Rattle.feature_expr.specs.declared.expr.Expr as e
use Rattle.values.specs.declared.column_name.ColName.{ColName}
use Rattle.values.specs.declared.value.Value.{Value}
use Rattle.plain_relation.specs.Relations.{same_name}
use Rattle.relational_algebra.specs.Conditions.{condition_cost, cost_step}
use Rattle.relational_algebra.specs.Values.{compares_values}
use Rattle.row_conditions.specs.RowConditions.{columns_weight}
use Rattle.row_conditions.specs.Truths.{Slot, choice_of, comparing, constant, left_test, own_test, pairing, passes, passing, right_test, slots_of, truth_of, truth_step, with_pairs, with_slot}
use Rattle.row_conditions.proofs.FoldingLaws.{and_weighs, or_weighs, not_weighs, weight_pos, weight_True, weight_False}
use Rattle.row_conditions.proofs.NameLaws.{name_is, name_same}
use Rattle.vra_syntax.specs.declared.cond.Cond.{Cond, map-Cond, roll-Cond}
use Rattle.vra_syntax.specs.declared.cond.Cond.TheFolds.{fold-roll-Cond, ind-Cond}
use Rattle.vra_syntax.specs.declared.cond.Cond.TheOpen.{Cond-F}
use Rattle.vra_syntax.specs.declared.cond.Op.{Op}
use Rattle.vra_syntax.specs.declared.cond.Operand.{Operand}
use Rattle.vra_syntax.specs.declared.cond.Operand.TheVariants as operand
use Rattle.vtable.specs.declared.table.VColumn.{VColumn}

-- what the conditions of the columns weigh
abbrev pub slots_weight : List Slot → ℕ
slots_weight [] = 0
slots_weight (slot ∷ slots) = weight_of slot.column.cond + slots_weight slots

abbrev weight_if : Bool → Slot → ℕ
weight_if b slot = if b then weight_of slot.column.cond else 0

-- and those of the columns of a name
abbrev named_weight : ColName → List Slot → ℕ
named_weight name [] = 0
named_weight name (slot ∷ slots) = weight_if (same_name slot.column.name name) slot + named_weight name slots

weight_if_within : (b : Bool) (slot : Slot) → weight_if b slot ≤ weight_of slot.column.cond
weight_if_within true slot = omega arith
weight_if_within false slot = omega arith

named_within : (name : ColName) (slots : List Slot) → named_weight name slots ≤ slots_weight slots
named_within name [] = omega arith
named_within name (slot ∷ slots) =
    let one = weight_if_within (same_name slot.column.name name) slot in
    let rest = named_within name slots in
    omega (arith, one, rest)

both_names : (one other name : ColName) → same_name one other ≡ false → same_name name one ≡ true → same_name name other ≡ true → ⊥
both_names one other name apart a b =
    let same : one ≡ other = sym (name_is name one a) ∙ name_is name other b in
    true≢false (sym (subst (λ n. same_name one n ≡ true) same (name_same one)) ∙ apart)

apart_one : (one other : ColName) (slot : Slot) (a b : Bool) → same_name one other ≡ false → same_name slot.column.name one ≡ a → same_name slot.column.name other ≡ b → weight_if a slot + weight_if b slot ≤ weight_of slot.column.cond
apart_one one other slot true true apart is is' = absurd (both_names one other slot.column.name apart is is')
apart_one one other slot true false apart is is' = omega arith
apart_one one other slot false true apart is is' = omega arith
apart_one one other slot false false apart is is' = omega arith

-- no column counts for two names
named_apart : (one other : ColName) (slots : List Slot) → same_name one other ≡ false → named_weight one slots + named_weight other slots ≤ slots_weight slots
named_apart one other [] apart = omega arith
named_apart one other (slot ∷ slots) apart =
    let here = apart_one one other slot (same_name slot.column.name one) (same_name slot.column.name other) apart refl refl in
    let rest = named_apart one other slots apart in
    omega (arith, here, rest)

slot_weighs : (name : ColName) (test : Value → Bool) (out : Expr) (slot : Slot) (same pass : Bool) → same_name slot.column.name name ≡ same → passes test slot.cell ≡ pass → weight_of (with_slot name test out slot) ≤ weight_of out + 2 * weight_if same slot
slot_weighs name test out slot true true is is' = rw (is, is') (let w = or_weighs out slot.column.cond in let p = weight_pos slot.column.cond in omega (arith, w, p))
slot_weighs name test out slot true false is is' = rw (is, is') (omega arith)
slot_weighs name test out slot false pass is is' = rw is (omega arith)

passing_weighs : (name : ColName) (test : Value → Bool) (out : Expr) (slots : List Slot) → weight_of (passing name test out slots) ≤ weight_of out + 2 * named_weight name slots
passing_weighs name test out [] = omega arith
passing_weighs name test out (slot ∷ slots) =
    let rest = passing_weighs name test (with_slot name test out slot) slots in
    let here = slot_weighs name test out slot (same_name slot.column.name name) (passes test slot.cell) refl refl in
    omega (arith, rest, here)

grows : (w m : ℕ) → 1 ≤ w → w + m ≤ w * (m + 1)
grows zero m h = absurd (omega (arith, h))
grows (suc zero) m h = omega arith
grows (suc (suc w)) m h = let k = grows (suc w) m (omega arith) in omega (arith, k)

pair_weighs : (name : ColName) (sign : Op) (other : ColName) (all : List Slot) (out : Expr) (slot : Slot) (cell : Option Value) (same : Bool) → slot.cell ≡ cell → same_name slot.column.name name ≡ same → weight_of (with_pairs name sign other all out slot) ≤ weight_of out + weight_if same slot * (2 * named_weight other all + 4)
pair_weighs name sign other all out slot cell false is same = rw same (omega arith)
pair_weighs name sign other all out slot None true is same = rw (same, is) (omega arith)
pair_weighs name sign other all out slot (Some value) true is same =
    rw (same, is) (
    let inner = passing_weighs other (left_test sign value) e.False all in
    let both = and_weighs slot.column.cond (passing other (left_test sign value) e.False all) in
    let whole = or_weighs out (and_of slot.column.cond (passing other (left_test sign value) e.False all)) in
    let most = grows (weight_of slot.column.cond) (2 * named_weight other all + 3) (weight_pos slot.column.cond) in
    let one = weight_False in
    omega (arith, inner, both, whole, most, one))

pairing_weighs : (name : ColName) (sign : Op) (other : ColName) (all : List Slot) (out : Expr) (slots : List Slot) → weight_of (pairing name sign other all out slots) ≤ weight_of out + named_weight name slots * (2 * named_weight other all + 4)
pairing_weighs name sign other all out [] = omega arith
pairing_weighs name sign other all out (slot ∷ slots) =
    let rest = pairing_weighs name sign other all (with_pairs name sign other all out slot) slots in
    let here = pair_weighs name sign other all out slot slot.cell (same_name slot.column.name name) refl refl in
    omega (arith, rest, here)

squares : (a b d k : ℕ) → a + b + d ≡ k → 1 + a * (2 * b + 4) ≤ (k + 8) * (k + 8)
squares a b d k is = subst (λ n. 1 + a * (2 * b + 4) ≤ (n + 8) * (n + 8)) is (omega arith)

columns_weigh : (name : ColName) (sign : Op) (other : ColName) (slots : List Slot) (k : ℕ) (same : Bool) → slots_weight slots ≤ k → same_name name other ≡ same → weight_of (comparing slots (operand.Column name) sign (operand.Column other)) ≤ (k + 8) * (k + 8)
columns_weigh name sign other slots k true h is =
    rw is (
    let most = passing_weighs name (own_test sign) e.False slots in
    let within = named_within name slots in
    let one = weight_False in
    omega (arith, most, within, one, h))
columns_weigh name sign other slots k false h is =
    rw is (
    let most = pairing_weighs name sign other slots e.False slots in
    let apart = named_apart name other slots is in
    let one = weight_False in
    let bound = squares (named_weight name slots) (named_weight other slots) (k - (named_weight name slots + named_weight other slots)) k (omega (arith, apart, h)) in
    omega (arith, most, one, bound))

constant_weighs : (b : Bool) (k : ℕ) → weight_of (constant b) ≤ (k + 8) * (k + 8)
constant_weighs true k = let one = weight_True in omega (arith, one)
constant_weighs false k = let one = weight_False in omega (arith, one)

false_weighs : (k : ℕ) → weight_of e.False ≤ (k + 8) * (k + 8)
false_weighs k = constant_weighs false k

one_side_weighs : (name : ColName) (test : Value → Bool) (slots : List Slot) (k : ℕ) → slots_weight slots ≤ k → weight_of (passing name test e.False slots) ≤ (k + 8) * (k + 8)
one_side_weighs name test slots k h =
    let most = passing_weighs name test e.False slots in
    let within = named_within name slots in
    let one = weight_False in
    omega (arith, most, within, one, h)

comparing_weighs : (slots : List Slot) (k : ℕ) → slots_weight slots ≤ k → (left : Operand) (sign : Op) (right : Operand) → weight_of (comparing slots left sign right) ≤ (k + 8) * (k + 8)
comparing_weighs slots k h (operand.Column name) sign (operand.Column other) = columns_weigh name sign other slots k (same_name name other) h refl
comparing_weighs slots k h (operand.Column name) sign (operand.Literal value) = one_side_weighs name (right_test sign value) slots k h
comparing_weighs slots k h (operand.Column name) sign (operand.Param n) = false_weighs k
comparing_weighs slots k h (operand.Literal value) sign (operand.Column name) = one_side_weighs name (left_test sign value) slots k h
comparing_weighs slots k h (operand.Literal value) sign (operand.Literal other) = constant_weighs (compares_values sign value other) k
comparing_weighs slots k h (operand.Literal value) sign (operand.Param n) = false_weighs k
comparing_weighs slots k h (operand.Param n) sign (operand.Column name) = false_weighs k
comparing_weighs slots k h (operand.Param n) sign (operand.Literal value) = false_weighs k
comparing_weighs slots k h (operand.Param n) sign (operand.Param m) = false_weighs k

choice_weighs : (expr left right : Expr) → weight_of (choice_of expr left right) ≤ 2 * weight_of expr + 4 + weight_of left + weight_of right
choice_weighs expr left right =
    let l = and_weighs expr left in
    let n = not_weighs expr in
    let r = and_weighs (not_of expr) right in
    let whole = or_weighs (and_of expr left) (and_of (not_of expr) right) in
    omega (arith, l, n, r, whole)

module _ (slots : List Slot) (k : ℕ) (within : slots_weight slots ≤ k) where
  abbrev P : Cond → Type 0
  P cond = weight_of (truth_of slots cond) ≤ condition_cost cond k

  rolled : (x : Cond-F Cond) → weight_of (truth_step slots (map-Cond Cond Expr (truth_of slots) x)) ≤ cost_step k (map-Cond Cond ℕ (λ cond. condition_cost cond k) x) → P (roll-Cond x)
  rolled x f = subst (λ n. n ≤ condition_cost (roll-Cond x) k) (ap weight_of (sym (fold-roll-Cond Expr (truth_step slots) x))) (subst (λ n. weight_of (truth_step slots (map-Cond Cond Expr (truth_of slots) x)) ≤ n) (sym (fold-roll-Cond ℕ (cost_step k) x)) f)

  layer : (y : Cond-F ((cond : Cond) × P cond)) → P (roll-Cond (map-Cond ((cond : Cond) × P cond) Cond (λ p. p.0) y))
  layer (Cond-F.Cmp left sign right) = rolled (Cond-F.Cmp left sign right) (comparing_weighs slots k within left sign right)
  layer (Cond-F.Not inner) = rolled (Cond-F.Not inner.0) (let w = not_weighs (truth_of slots inner.0) in let i = inner.1 in omega (arith, w, i))
  layer (Cond-F.And l r) = rolled (Cond-F.And l.0 r.0) (let w = and_weighs (truth_of slots l.0) (truth_of slots r.0) in let i = l.1 in let j = r.1 in omega (arith, w, i, j))
  layer (Cond-F.Or l r) = rolled (Cond-F.Or l.0 r.0) (let w = or_weighs (truth_of slots l.0) (truth_of slots r.0) in let i = l.1 in let j = r.1 in omega (arith, w, i, j))
  layer (Cond-F.Choice expr l r) = rolled (Cond-F.Choice expr l.0 r.0) (let w = choice_weighs expr (truth_of slots l.0) (truth_of slots r.0) in let i = l.1 in let j = r.1 in omega (arith, w, i, j))
  layer Cond-F.True = rolled Cond-F.True (let w = weight_True in omega (arith, w))
  layer Cond-F.False = rolled Cond-F.False (let w = weight_False in omega (arith, w))

  pub truth_weighs : (cond : Cond) → P cond
  truth_weighs = ind-Cond P (λ x y is. subst (λ z. P (roll-Cond z)) is (layer y))

pub slots_within : (columns : List VColumn) (cells : List (Option Value)) → slots_weight (slots_of columns cells) ≤ columns_weight columns
slots_within [] cells = omega arith
slots_within (column ∷ columns) [] = omega arith
slots_within (column ∷ columns) (cell ∷ cells) =
    let rest = slots_within columns cells in
    let cons = sum_by-cons (λ (k : VColumn). weight_of k.cond) column columns in
    omega (arith, rest, cons)

pub slots_weight-append : (xs ys : List Slot) → slots_weight (xs ++ ys) ≡ slots_weight xs + slots_weight ys
slots_weight-append [] ys = omega arith
slots_weight-append (slot ∷ xs) ys = let rest = slots_weight-append xs ys in omega (arith, rest)
