-- Links with a value.
use Rattle.std.proofs.Common.{◌≡◌, ◌∙◌, ℕ, Bool, true, false, ◌&&◌, List, [], ◌∷◌, ◌++◌, refl, sym, ap, subst, rules, Option, Some, None, slice_get}
use Rattle.feature_expr.specs.Expressions.{and_left, and_of}
use Rattle.feature_expr.specs.declared.expr.Expr.{Expr, out-Expr}
use Rattle.feature_expr.specs.declared.expr.Expr.TheOpen.{Expr-F}
use Rattle.feature_expr.specs.declared.expr.Expr as e
use Rattle.key_links.proofs.PassingLaws.{one_fails}
use Rattle.key_links.specs.KeyLinks.{AreNeeded, IsPart, PutsNeeded, equals_value, has_value, is_equal, is_only_at, is_value, meets_links}
use Rattle.key_links.specs.declared.literals.ValueLink.{ValueLink}
use Rattle.row_conditions.specs.Truths.{Slot, comparing, passes, right_test, slots_of, truth_of}
use Rattle.values.specs.declared.column_name.ColName.{ColName}
use Rattle.values.specs.declared.value.Value.{Value}
use Rattle.vra_syntax.specs.declared.cond.Cond.{Cond}
use Rattle.vra_syntax.specs.declared.cond.Cond as cond
use Rattle.vra_syntax.specs.declared.cond.Operand.{Operand}
use Rattle.vra_syntax.specs.declared.cond.Op.TheVariants as op
use Rattle.vra_syntax.specs.declared.cond.Operand.TheVariants as operand
use Rattle.vtable.specs.declared.table.VColumn.{VColumn}

out_false : out-Expr e.False ≡ Expr-F.False
out_false = search (rules, e.the_lemmas)

right_none : (c : Expr) (x : Expr-F Expr) → and_left c e.False x ≡ e.False
right_none c Expr-F.True = refl
right_none c Expr-F.False = refl
right_none c (Expr-F.Feature i) = rw out_false refl
right_none c (Expr-F.Not inner) = rw out_false refl
right_none c (Expr-F.And a b) = rw out_false refl
right_none c (Expr-F.Or a b) = rw out_false refl

pub and_none : (c : Expr) → and_of c e.False ≡ e.False
and_none c = right_none c (out-Expr c)

truth_and : (slots : List Slot) (first second : Cond) → truth_of slots (cond.And first second) ≡ and_of (truth_of slots first) (truth_of slots second)
truth_and slots first second = search (rules, cond.the_lemmas)

pub truth_cmp : (slots : List Slot) (one other : Operand) → truth_of slots (cond.Cmp one op.Eq other) ≡ comparing slots one op.Eq other
truth_cmp slots one other = search (rules, cond.the_lemmas)

none_and : (c : Expr) → and_of e.False c ≡ e.False
none_and c = rw out_false refl

-- no links ask for nothing
pub none_needed : (whole : Cond) (columns : List VColumn) → AreNeeded whole columns []
none_needed whole columns = record { nowhere = λ cells h. search rules }

-- a condition is a part of itself
pub whole_part : (whole : Cond) → IsPart whole whole
whole_part whole = record { nowhere = λ slots h. h }

pub part_of_first : (whole first second : Cond) → IsPart whole (cond.And first second) → IsPart whole first
part_of_first whole first second part = record { nowhere = λ slots h. part.nowhere slots (truth_and slots first second ∙ ap (λ x. and_of x (truth_of slots second)) h ∙ none_and (truth_of slots second)) }

pub part_of_second : (whole first second : Cond) → IsPart whole (cond.And first second) → IsPart whole second
part_of_second whole first second part = record { nowhere = λ slots h. part.nowhere slots (truth_and slots first second ∙ ap (and_of (truth_of slots first)) h ∙ and_none (truth_of slots first)) }

pub puts_none : (part : Cond) (columns : List VColumn) (links : List ValueLink) → PutsNeeded part columns links links
puts_none part columns links = record { still = λ whole is needed. needed }

-- what was put with the links of a part
pub put_needed : (whole part : Cond) (columns : List VColumn) (old new : List ValueLink) → PutsNeeded part columns old new → IsPart whole part → AreNeeded whole columns old → AreNeeded whole columns new
put_needed whole part columns old new puts is needed = puts.still whole is needed

fails_at : (cells : List (Option Value)) (place : ℕ) (value : Value) (found : Option (Option Value)) (cell : Option Value) → is_value found value ≡ false → found ≡ Some cell → passes (right_test op.Eq value) cell ≡ false
fails_at cells place value (Some None) None h is = refl
fails_at cells place value (Some (Some v)) (Some w) h is = subst (λ x. is_equal x value ≡ false) (same v w is) h where
  same : (v w : Value) → Some (Some v) ≡ Some (Some w) → v ≡ w
  same v w is = search rules
fails_at cells place value (Some None) (Some w) h is = search rules
fails_at cells place value (Some (Some v)) None h is = search rules
fails_at cells place value None cell h is = search rules

one_false : (a b : Bool) (P : Type 0) → (a && b) ≡ false → (a ≡ false → P) → (b ≡ false → P) → P
one_false true b P h f g = g h
one_false false b P h f g = f refl

all_append : (links : List ValueLink) (link : ValueLink) (cells : List (Option Value)) → meets_links (links ++ link ∷ []) cells ≡ (meets_links links cells && has_value cells link.place link.value)
all_append [] link cells = and_true (has_value cells link.place link.value) where
  and_true : (b : Bool) → (b && true) ≡ b
  and_true true = refl
  and_true false = refl
all_append (one ∷ links) link cells = ap (λ b. has_value cells one.place one.value && b) (all_append links link cells) ∙ assoc (has_value cells one.place one.value) (meets_links links cells) (has_value cells link.place link.value) where
  assoc : (a b c : Bool) → (a && (b && c)) ≡ ((a && b) && c)
  assoc true b c = refl
  assoc false b c = refl

-- one link more
pub one_needed : (name : ColName) (value : Value) (place : ℕ) (columns : List VColumn) (old : List ValueLink) → is_only_at name place columns ≡ true
    → PutsNeeded (equals_value name value) columns old (old ++ record { place = place; value = value } ∷ [])
one_needed name value place columns old only = record {
  still = λ whole part needed. record {
    nowhere = λ cells h.
        one_false (meets_links old cells) (has_value cells place value) (truth_of (slots_of columns cells) whole ≡ e.False)
        (sym (all_append old (record { place = place; value = value }) cells) ∙ h)
        (λ not_old. needed.nowhere cells not_old)
        (λ not_new. part.nowhere (slots_of columns cells) (truth_cmp (slots_of columns cells) (operand.Column name) (operand.Literal value) ∙ one_fails name (right_test op.Eq value) place columns cells e.False only (λ cell is. fails_at cells place value (slice_get cells place) cell not_new is)));
  };
}
