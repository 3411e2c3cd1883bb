-- A row of which the condition is nowhere true.
use Rattle.std.proofs.Common.{◌≡◌, ◌∙◌, ◌++◌, append-nil, Bool, true, false, refl, rules, List, Option, sym, ap}
use Rattle.std.specs.Option.{option_to_list}
use Rattle.feature_expr.specs.declared.expr.Expr.{Expr}
use Rattle.feature_expr.specs.declared.expr.Expr as e
use Rattle.key_links.specs.KeyLinks.{AreNeeded, meets_links}
use Rattle.key_links.specs.declared.literals.ValueLink.{ValueLink}
use Rattle.values.specs.declared.value.Value.{Value}
use Rattle.row_conditions.specs.Truths.{slots_of, truth_of}
use Rattle.vra_syntax.specs.declared.cond.Cond.{Cond}
use Rattle.vtable.specs.declared.table.VColumn.{VColumn}
use Rattle.vtable.specs.declared.table.VRow.{VRow}
use Rattle.plan_operators.specs.Operators.{row_meeting}
use Rattle.plan_tables.specs.Tables.{is_false}
use Rattle.plan_tables.proofs.CodeLaws.{nowhere}

-- a row of which the condition is nowhere true
pub row_nowhere : (cond : Cond) (columns : List VColumn) (row : VRow) (out : List VRow) (truth : Expr) (xs : List (Option Value)) (b : Bool) → truth ≡ truth_of (slots_of columns xs) cond → xs ≡ row.cells → b ≡ is_false truth → b ≡ true → out ≡ out ++ option_to_list (row_meeting cond columns row)
row_nowhere cond columns row out truth xs b is x found h =
    let same : truth ≡ truth_of (slots_of columns row.cells) cond = is ∙ ap (λ cells. truth_of (slots_of columns cells) cond) x in
    let none : is_false (truth_of (slots_of columns row.cells) cond) ≡ true = ap is_false (sym same) ∙ sym found ∙ h in
    sym (ap (λ zs. out ++ zs) (nowhere row.cells row.cond (truth_of (slots_of columns row.cells) cond) none) ∙ append-nil out)

-- a row that doesn't meet the links
pub row_unlinked : (cond : Cond) (columns : List VColumn) (links : List ValueLink) (row : VRow) (out : List VRow) → AreNeeded cond columns links → meets_links links row.cells ≡ false → out ≡ out ++ option_to_list (row_meeting cond columns row)
row_unlinked cond columns links row out needed fails =
    row_nowhere cond columns row out e.False row.cells true (sym (needed.nowhere row.cells fails)) refl (search (rules, e.the_lemmas)) refl
