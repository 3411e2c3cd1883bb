-- What a condition that is nowhere true makes of a row.
use Rattle.std.proofs.Common.{◌≡◌, true, List, [], Option, refl, sym, true≢false, rules}
use Rattle.std.specs.Option.{option_to_list}
use Rattle.feature_expr.specs.Expressions.{and_left, and_of, and_right}
use Rattle.feature_expr.specs.declared.expr.Expr.{Expr, out-Expr}
use Rattle.feature_expr.specs.declared.expr.Expr as e
use Rattle.feature_expr.specs.declared.expr.Expr.TheOpen.{Expr-F}
use Rattle.values.specs.declared.value.Value.{Value}
use Rattle.plan_tables.specs.Tables.{false_layer, is_false, row_under}

false_is : is_false e.False ≡ true
false_is = search (rules, e.the_lemmas)

right_false : (l r : Expr) (x : Expr-F Expr) → out-Expr r ≡ x → false_layer x ≡ true → is_false (and_right l r x) ≡ true
right_false l r Expr-F.False is h = false_is
right_false l r Expr-F.True is h = absurd (true≢false (sym h))
right_false l r (Expr-F.Feature i) is h = absurd (true≢false (sym h))
right_false l r (Expr-F.Not inner) is h = absurd (true≢false (sym h))
right_false l r (Expr-F.And a b) is h = absurd (true≢false (sym h))
right_false l r (Expr-F.Or a b) is h = absurd (true≢false (sym h))

left_false : (l r : Expr) (x : Expr-F Expr) → is_false r ≡ true → is_false (and_left l r x) ≡ true
left_false l r Expr-F.True h = h
left_false l r Expr-F.False h = false_is
left_false l r (Expr-F.Feature i) h = right_false l r (out-Expr r) refl h
left_false l r (Expr-F.Not inner) h = right_false l r (out-Expr r) refl h
left_false l r (Expr-F.And a b) h = right_false l r (out-Expr r) refl h
left_false l r (Expr-F.Or a b) h = right_false l r (out-Expr r) refl h

pub nowhere : (cells : List (Option Value)) (l r : Expr) → is_false r ≡ true → option_to_list (row_under cells (and_of l r)) ≡ []
nowhere cells l r h = rw (left_false l r (out-Expr l) h) refl
