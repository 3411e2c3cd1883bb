-- What is promised of a condition's truth of a row, and of the pair of two rows.
use Rattle.std.proofs.Common.{◌≡◌, ◌∙◌, ◌+◌, ◌≤◌, Bool, true, false, ◌||◌, List, ◌++◌, refl, sym, ap, subst}
use Rattle.feature_expr.specs.Expressions.{and_of, weight_of, mentions}
use Rattle.feature_expr.specs.Satisfaction.{satisfies}
use Rattle.feature_expr.specs.declared.expr.Expr.{Expr}
use Rattle.relational_algebra.specs.Conditions.{holds}
use Rattle.relational_algebra.specs.Mentions.{cond_mentions}
use Rattle.row_conditions.specs.RowConditions.{IsPair, IsTruthOn, cells_are_distinct, columns_weight, mentioned_in, row_at}
use Rattle.row_conditions.specs.Truths.{Slot, slots_of, truth_of}
use Rattle.row_conditions.proofs.FoldingLaws.{and_holds, and_weighs, and_mentions}
use Rattle.row_conditions.proofs.SlotLaws.{row_is, slots_row}
use Rattle.row_conditions.proofs.TruthFeatures.{slots_known, slots_mention, truth_mentions}
use Rattle.row_conditions.proofs.TruthLaws.{truth_holds}
use Rattle.row_conditions.proofs.TruthWeights.{slots_within, truth_weighs}
use Rattle.vra_syntax.specs.declared.cond.Cond.{Cond}
use Rattle.vtable.specs.declared.table.VColumn.{VColumn}
use Rattle.vtable.specs.declared.table.VRow.{VRow}

known : (a b d : Bool) → (b ≡ true → d ≡ true) → (a || b) ≡ true → (a || d) ≡ true
known true b d f h = refl
known false b d f h = f h

truth_by_slots : (cond : Cond) (columns : List VColumn) (row : VRow) → IsTruthOn cond columns row (truth_of (slots_of columns row.cells) cond)
truth_by_slots cond columns row = record {
  exact = λ c distinct.
      let slots : List Slot = slots_of columns row.cells in
      let is : row_at c columns row ≡ slots_row c slots = row_is c columns row.cells in
      truth_holds c slots (ap cells_are_distinct (sym is) ∙ distinct) cond ∙ ap (holds c cond) (sym is);
  weight = truth_weighs (slots_of columns row.cells) (columns_weight columns) (slots_within columns row.cells) cond;
  features = λ feature h. known (cond_mentions feature cond) (slots_mention feature (slots_of columns row.cells)) (mentioned_in feature columns) (slots_known feature columns row.cells) (truth_mentions feature (slots_of columns row.cells) cond h);
}

pub truth_is_on : (cond : Cond) (columns : List VColumn) (row : VRow) (truth : Expr) → truth ≡ truth_of (slots_of columns row.cells) cond → IsTruthOn cond columns row truth
truth_is_on cond columns row truth is = subst (IsTruthOn cond columns row) (sym is) (truth_by_slots cond columns row)

pub pair_is : (left right pair : VRow) → pair.cells ≡ left.cells ++ right.cells → pair.cond ≡ and_of left.cond right.cond → IsPair left right pair
pair_is left right pair cells cond = record {
  cells = cells;
  exact = λ c. ap (satisfies c) cond ∙ and_holds c left.cond right.cond;
  weight = subst (λ n. n ≤ weight_of left.cond + weight_of right.cond + 1) (sym (ap weight_of cond)) (and_weighs left.cond right.cond);
  features = λ feature h. and_mentions feature left.cond right.cond (sym (ap (mentions feature) cond) ∙ h);
}
