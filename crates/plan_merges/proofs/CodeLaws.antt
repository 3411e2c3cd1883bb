-- A pair of rows of which the condition is nowhere true, and one that is formed.
use Rattle.std.proofs.Common.{◌≡◌, ◌∙◌, ◌++◌, ap₂, append-nil, Bool, true, List, Option, sym, ap}
use Rattle.std.specs.Option.{option_to_list}
use Rattle.feature_expr.specs.Expressions.{and_of}
use Rattle.feature_expr.specs.declared.expr.Expr.{Expr}
use Rattle.values.specs.declared.value.Value.{Value}
use Rattle.plan_merges.specs.Merges.{pair_meeting}
use Rattle.row_conditions.specs.Truths.{slots_of, truth_of}
use Rattle.vra_syntax.specs.declared.cond.Cond.{Cond}
use Rattle.vtable.specs.declared.table.VColumn.{VColumn}
use Rattle.vtable.specs.declared.table.VRow.{VRow}
use Rattle.plan_tables.specs.Tables.{is_false, row_under}
use Rattle.plan_tables.proofs.CodeLaws.{nowhere}

pair_of : (cond : Cond) (columns others : List VColumn) (row other : VRow) (truth : Expr) (xs ys : List (Option Value)) → truth ≡ truth_of (slots_of columns xs ++ slots_of others ys) cond → xs ≡ row.cells → ys ≡ other.cells → truth ≡ truth_of (slots_of columns row.cells ++ slots_of others other.cells) cond
pair_of cond columns others row other truth xs ys is x y = is ∙ ap₂ (λ a b. truth_of (slots_of columns a ++ slots_of others b) cond) x y

-- a pair of which the condition is nowhere true
pub pair_nowhere : (cond : Cond) (columns others : List VColumn) (row other : VRow) (out : List VRow) (truth : Expr) (xs ys : List (Option Value)) (b : Bool) → truth ≡ truth_of (slots_of columns xs ++ slots_of others ys) cond → xs ≡ row.cells → ys ≡ other.cells → b ≡ is_false truth → b ≡ true → out ≡ out ++ option_to_list (pair_meeting cond columns others row other)
pair_nowhere cond columns others row other out truth xs ys b is x y found h =
    let none : is_false (truth_of (slots_of columns row.cells ++ slots_of others other.cells) cond) ≡ true = ap is_false (sym (pair_of cond columns others row other truth xs ys is x y)) ∙ sym found ∙ h in
    sym (ap (λ zs. out ++ zs) (nowhere (row.cells ++ other.cells) (and_of row.cond other.cond) (truth_of (slots_of columns row.cells ++ slots_of others other.cells) cond) none) ∙ append-nil out)

-- and one that is formed
pub pair_made : (cond : Cond) (columns others : List VColumn) (row other : VRow) (out new : List VRow) (truth made both : Expr) (cells xs ys : List (Option Value)) → truth ≡ truth_of (slots_of columns xs ++ slots_of others ys) cond → xs ≡ row.cells → ys ≡ other.cells → cells ≡ row.cells ++ other.cells → both ≡ and_of row.cond other.cond → made ≡ and_of both truth → new ≡ out ++ option_to_list (row_under cells made) → new ≡ out ++ option_to_list (pair_meeting cond columns others row other)
pair_made cond columns others row other out new truth made both cells xs ys is x y c b m h =
    h ∙ ap₂ (λ a e. out ++ option_to_list (row_under a e)) c (m ∙ ap₂ and_of b (pair_of cond columns others row other truth xs ys is x y))
