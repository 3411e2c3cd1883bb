-- The expression that is made of a condition and a row's slots mentions features of the condition and of the columns alone.
use Rattle.std.proofs.Common.{◌≡◌, ◌∙◌, ℕ, Bool, true, false, ◌||◌, List, [], ◌∷◌, Option, Some, None, refl, sym, ap, subst, true≢false}
use Rattle.std.specs.List.{list_any}
use Rattle.feature_expr.specs.Expressions.{and_of, not_of, mentions}
use Rattle.feature_expr.specs.declared.expr.Expr.{Expr}
use Rattle.feature_expr.specs.declared.expr.Expr as e
use Rattle.values.specs.declared.column_name.ColName.{ColName}
use Rattle.values.specs.declared.value.Value.{Value}
use Rattle.plain_relation.specs.Relations.{same_name}
use Rattle.relational_algebra.specs.Mentions.{cond_mentions, cond_mentions_step}
use Rattle.relational_algebra.specs.Values.{compares_values}
use Rattle.row_conditions.specs.RowConditions.{mentioned_in}
use Rattle.row_conditions.specs.Truths.{Slot, choice_of, comparing, constant, is_fitting, left_test, own_test, pairing, passing, right_test, slots_of, truth_of, truth_step, with_pairs, with_slot}
use Rattle.row_conditions.proofs.BoolLaws.{or_end, or_start}
use Rattle.row_conditions.proofs.FoldingLaws.{and_mentions, or_mentions, not_mentions, mentions_True, mentions_False}
use Rattle.vra_syntax.specs.declared.cond.Cond.{Cond, map-Cond, roll-Cond}
use Rattle.vra_syntax.specs.declared.cond.Cond.TheFolds.{fold-roll-Cond, ind-Cond}
use Rattle.vra_syntax.specs.declared.cond.Cond.TheOpen.{Cond-F}
use Rattle.vra_syntax.specs.declared.cond.Op.{Op}
use Rattle.vra_syntax.specs.declared.cond.Operand.{Operand}
use Rattle.vra_syntax.specs.declared.cond.Operand.TheVariants as operand
use Rattle.vtable.specs.declared.table.VColumn.{VColumn}

module _ (i : ℕ) where
  abbrev pub slots_mention : List Slot → Bool
  slots_mention slots = list_any (λ (slot : Slot). mentions i slot.column.cond) slots

  never : (x : Bool) → mentions i e.False ≡ true → x ≡ true
  never x h = absurd (true≢false (sym h ∙ mentions_False i))

  -- one of three
  into : (a b x : Bool) → (a ≡ true → x ≡ true) → (b ≡ true → x ≡ true) → (a || b) ≡ true → x ≡ true
  into true b x f g h = f refl
  into false b x f g h = g h

  slot_mentions : (name : ColName) (test : Value → Bool) (out : Expr) (slot : Slot) (fits : Bool) → is_fitting name test slot ≡ fits → mentions i (with_slot name test out slot) ≡ true → (mentions i out || mentions i slot.column.cond) ≡ true
  slot_mentions name test out slot true is h = or_mentions i out slot.column.cond (rw is at h)
  slot_mentions name test out slot false is h = or_start _ _ (rw is at h)

  regroup : (new out here rest : Bool) → (new ≡ true → (out || here) ≡ true) → (new || rest) ≡ true → (out || (here || rest)) ≡ true
  regroup true true here rest f h = refl
  regroup true false here rest f h = or_start here rest (f refl)
  regroup false out here rest f h = or_end out (here || rest) (or_end here rest h)

  passing_mentions : (name : ColName) (test : Value → Bool) (out : Expr) (slots : List Slot) → mentions i (passing name test out slots) ≡ true → (mentions i out || slots_mention slots) ≡ true
  passing_mentions name test out [] h = or_start _ _ h
  passing_mentions name test out (slot ∷ slots) h =
      regroup (mentions i (with_slot name test out slot)) (mentions i out) (mentions i slot.column.cond) (slots_mention slots)
      (slot_mentions name test out slot (is_fitting name test slot) refl)
      (passing_mentions name test (with_slot name test out slot) slots h)

  passing_all : (name : ColName) (test : Value → Bool) (slots : List Slot) → mentions i (passing name test e.False slots) ≡ true → slots_mention slots ≡ true
  passing_all name test slots h = into _ _ _ (never _) (λ x. x) (passing_mentions name test e.False slots h)

  module _ (all : List Slot) where
    pair_mentions : (name : ColName) (sign : Op) (other : ColName) (out : Expr) (slot : Slot) (cell : Option Value) (same : Bool) → slot.cell ≡ cell → same_name slot.column.name name ≡ same → mentions i (with_pairs name sign other all out slot) ≡ true → ((mentions i out || slots_mention all) || mentions i slot.column.cond) ≡ true
    pair_mentions name sign other out slot cell false is same h = or_start _ _ (or_start _ _ (rw same at h))
    pair_mentions name sign other out slot None true is same h = or_start _ _ (or_start _ _ (rw (same, is) at h))
    pair_mentions name sign other out slot (Some value) true is same h =
        into _ _ _
        (λ o. or_start _ _ (or_start _ _ o))
        (λ b. into _ _ _
        (λ k. or_end (mentions i out || slots_mention all) _ k)
        (λ p. or_start _ _ (or_end (mentions i out) _ (passing_all other (left_test sign value) all p)))
        (and_mentions i slot.column.cond (passing other (left_test sign value) e.False all) b))
        (or_mentions i out (and_of slot.column.cond (passing other (left_test sign value) e.False all)) (rw (same, is) at h))

    pairing_mentions : (name : ColName) (sign : Op) (other : ColName) (out : Expr) (slots : List Slot) → mentions i (pairing name sign other all out slots) ≡ true → ((mentions i out || slots_mention all) || slots_mention slots) ≡ true
    pairing_mentions name sign other out [] h = or_start _ _ (or_start _ _ h)
    pairing_mentions name sign other out (slot ∷ slots) h =
        regroup_all (mentions i (with_pairs name sign other all out slot)) (mentions i out) (slots_mention all) (mentions i slot.column.cond) (slots_mention slots)
        (pair_mentions name sign other out slot slot.cell (same_name slot.column.name name) refl refl)
        (pairing_mentions name sign other (with_pairs name sign other all out slot) slots h)
      where
        regroup_all : (new out every here rest : Bool) → (new ≡ true → ((out || every) || here) ≡ true) → ((new || every) || rest) ≡ true → ((out || every) || (here || rest)) ≡ true
        regroup_all true true every here rest f h = refl
        regroup_all true false true here rest f h = refl
        regroup_all true false false here rest f h = or_start here rest (f refl)
        regroup_all false true every here rest f h = refl
        regroup_all false false true here rest f h = refl
        regroup_all false false false here rest f h = or_end here rest h

    columns_mention : (name : ColName) (sign : Op) (other : ColName) (same : Bool) → same_name name other ≡ same → mentions i (comparing all (operand.Column name) sign (operand.Column other)) ≡ true → slots_mention all ≡ true
    columns_mention name sign other true is h = passing_all name (own_test sign) all (rw is at h)
    columns_mention name sign other false is h =
        into _ _ _ (λ b. into _ _ _ (never _) (λ x. x) b) (λ x. x) (pairing_mentions name sign other e.False all (rw is at h))

    constant_mentions : (b x : Bool) → mentions i (constant b) ≡ true → x ≡ true
    constant_mentions true x h = absurd (true≢false (sym h ∙ mentions_True i))
    constant_mentions false x h = never x h

    comparing_mentions : (left : Operand) (sign : Op) (right : Operand) → mentions i (comparing all left sign right) ≡ true → slots_mention all ≡ true
    comparing_mentions (operand.Column name) sign (operand.Column other) h = columns_mention name sign other (same_name name other) refl h
    comparing_mentions (operand.Column name) sign (operand.Literal value) h = passing_all name (right_test sign value) all h
    comparing_mentions (operand.Column name) sign (operand.Param n) h = never _ h
    comparing_mentions (operand.Literal value) sign (operand.Column name) h = passing_all name (left_test sign value) all h
    comparing_mentions (operand.Literal value) sign (operand.Literal other) h = constant_mentions (compares_values sign value other) _ h
    comparing_mentions (operand.Literal value) sign (operand.Param n) h = never _ h
    comparing_mentions (operand.Param n) sign (operand.Column name) h = never _ h
    comparing_mentions (operand.Param n) sign (operand.Literal value) h = never _ h
    comparing_mentions (operand.Param n) sign (operand.Param m) h = never _ h

    abbrev P : Cond → Type 0
    P cond = mentions i (truth_of all cond) ≡ true → (cond_mentions i cond || slots_mention all) ≡ true

    -- what a layer mentions, its own or a part's
    rolled : (x : Cond-F Cond) → (mentions i (truth_step all (map-Cond Cond Expr (truth_of all) x)) ≡ true → (cond_mentions_step i (map-Cond Cond Bool (cond_mentions i) x) || slots_mention all) ≡ true) → P (roll-Cond x)
    rolled x f h = ap (λ b. b || slots_mention all) (fold-roll-Cond Bool (cond_mentions_step i) x) ∙ f (sym (ap (mentions i) (fold-roll-Cond Expr (truth_step all) x)) ∙ h)

    both : (l r cl cr every : Bool) → (l ≡ true → (cl || every) ≡ true) → (r ≡ true → (cr || every) ≡ true) → (l || r) ≡ true → ((cl || cr) || every) ≡ true
    both l r true cr every f g h = refl
    both l r false true every f g h = refl
    both l r false false every f g h = into l r every f g h

    choice_mentions : (expr left right : Expr) (cl cr : Bool) → (mentions i left ≡ true → (cl || slots_mention all) ≡ true) → (mentions i right ≡ true → (cr || slots_mention all) ≡ true) → mentions i (choice_of expr left right) ≡ true → (((mentions i expr || cl) || cr) || slots_mention all) ≡ true
    choice_mentions expr left right cl cr f g h =
        into _ _ _
        (λ a. into _ _ _ (λ k. or_start _ _ (or_start _ _ (or_start _ _ k))) (λ k. left_in (mentions i expr) cl cr (slots_mention all) (f k)) (and_mentions i expr left a))
        (λ a. into _ _ _ (λ k. or_start _ _ (or_start _ _ (or_start _ _ (not_mentions i expr k)))) (λ k. right_in (mentions i expr) cl cr (slots_mention all) (g k)) (and_mentions i (not_of expr) right a))
        (or_mentions i (and_of expr left) (and_of (not_of expr) right) h)
      where
        left_in : (m a b every : Bool) → (a || every) ≡ true → (((m || a) || b) || every) ≡ true
        left_in true a b every h = refl
        left_in false true b every h = refl
        left_in false false b every h = or_end b every h

        right_in : (m a b every : Bool) → (b || every) ≡ true → (((m || a) || b) || every) ≡ true
        right_in true a b every h = refl
        right_in false true b every h = refl
        right_in false false b every h = h

    layer : (y : Cond-F ((cond : Cond) × P cond)) → P (roll-Cond (map-Cond ((cond : Cond) × P cond) Cond (λ p. p.0) y))
    layer (Cond-F.Cmp left sign right) = rolled (Cond-F.Cmp left sign right) (comparing_mentions left sign right)
    layer (Cond-F.Not inner) = rolled (Cond-F.Not inner.0) (λ h. inner.1 (not_mentions i (truth_of all inner.0) h))
    layer (Cond-F.And l r) = rolled (Cond-F.And l.0 r.0) (λ h. both (mentions i (truth_of all l.0)) (mentions i (truth_of all r.0)) (cond_mentions i l.0) (cond_mentions i r.0) (slots_mention all) l.1 r.1 (and_mentions i (truth_of all l.0) (truth_of all r.0) h))
    layer (Cond-F.Or l r) = rolled (Cond-F.Or l.0 r.0) (λ h. both (mentions i (truth_of all l.0)) (mentions i (truth_of all r.0)) (cond_mentions i l.0) (cond_mentions i r.0) (slots_mention all) l.1 r.1 (or_mentions i (truth_of all l.0) (truth_of all r.0) h))
    layer (Cond-F.Choice expr l r) = rolled (Cond-F.Choice expr l.0 r.0) (choice_mentions expr (truth_of all l.0) (truth_of all r.0) (cond_mentions i l.0) (cond_mentions i r.0) l.1 r.1)
    layer Cond-F.True = rolled Cond-F.True (λ h. constant_mentions true _ h)
    layer Cond-F.False = rolled Cond-F.False (λ h. never _ h)

    pub truth_mentions : (cond : Cond) → P cond
    truth_mentions = ind-Cond P (λ x y is. subst (λ z. P (roll-Cond z)) is (layer y))

  pub slots_known : (columns : List VColumn) (cells : List (Option Value)) → slots_mention (slots_of columns cells) ≡ true → mentioned_in i columns ≡ true
  slots_known [] cells h = h
  slots_known (column ∷ columns) [] h = absurd (true≢false (sym h))
  slots_known (column ∷ columns) (cell ∷ cells) h = into _ _ _ (λ k. or_start _ _ k) (λ k. or_end (mentions i column.cond) _ (slots_known columns cells k)) h
