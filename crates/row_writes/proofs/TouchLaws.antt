-- Where a write touches a row, as an expression.
use Rattle.std.proofs.Common.{◌≡◌, ◌∙◌, ℕ, Bool, true, false, ◌&&◌, ◌||◌, List, sym, ap, subst, arith, rules, inl, inr}
use Rattle.condition_sat.proofs.PossibleLaws.{none_admitted, some_admitted_same}
use Rattle.condition_sat.specs.Possible.{can_hold}
use Rattle.feature_expr.specs.Expressions.{and_of, mentions}
use Rattle.feature_expr.specs.Satisfaction.{satisfies}
use Rattle.feature_expr.specs.declared.expr.Expr.{Expr}
use Rattle.feature_expr.specs.declared.expr.Expr as e
use Rattle.relational_algebra.specs.Mentions.{cond_mentions}
use Rattle.row_conditions.proofs.BoolLaws.{and_false, or_cases, or_end, or_start}
use Rattle.row_conditions.proofs.FoldingLaws.{and_holds, and_mentions, and_weighs, holds_False}
use Rattle.row_conditions.specs.RowConditions.{IsTruthOn, mentioned_in}
use Rattle.row_writes.specs.Made.{IsTouchOn, can_touch}
use Rattle.vra_syntax.specs.declared.cond.Cond.{Cond}
use Rattle.vschema.specs.declared.catalog.Table.{Table}
use Rattle.vtable.specs.declared.table.VColumn.{VColumn}
use Rattle.vtable.specs.declared.table.VRow.{VRow}

touch_mentions : (feature : ℕ) (expr truth : Expr) (known : Bool) → (mentions feature truth ≡ true → known ≡ true) → mentions feature (and_of expr truth) ≡ true → (mentions feature expr || known) ≡ true
touch_mentions feature expr truth known on h =
    elim (or_cases (mentions feature expr) (mentions feature truth) (and_mentions feature expr truth h)) [
      | inl here ↦ or_start (mentions feature expr) known here
      | inr there ↦ or_end (mentions feature expr) known (on there)
    ]

pub touch_is : (expr : Expr) (cond : Cond) (columns : List VColumn) (row : VRow) (truth touch : Expr) → IsTruthOn cond columns row truth → touch ≡ and_of expr truth → IsTouchOn expr cond columns row touch
touch_is expr cond columns row truth touch true_of is = subst (IsTouchOn expr cond columns row) (sym is) (record {
  exact = λ c distinct. and_holds c expr truth ∙ ap (λ b. satisfies c expr && b) (true_of.exact c distinct);
  weight = let w = and_weighs expr truth in let t = true_of.weight in omega (arith, w, t);
  features = λ feature. touch_mentions feature expr truth (cond_mentions feature cond || mentioned_in feature columns) (true_of.features feature);
})

-- what folds to false touches nothing
pub never_touched : (model : Expr) (table : Table) (row : VRow) → false ≡ can_touch model table row e.False
never_touched model table row = sym (none_admitted model (λ c. satisfies c table.cond && (satisfies c row.cond && satisfies c e.False))
    (λ c admitted. ap (λ b. satisfies c table.cond && (satisfies c row.cond && b)) (holds_False c) ∙ ap (λ b. satisfies c table.cond && b) (and_false (satisfies c row.cond)) ∙ and_false (satisfies c table.cond)))

-- one question decides whether a row is touched
pub touched_asked : (model : Expr) (table : Table) (row : VRow) (touch asked : Expr) (answer : Bool) → asked ≡ and_of table.cond (and_of row.cond touch) → answer ≡ can_hold model asked → answer ≡ can_touch model table row touch
touched_asked model table row touch asked answer is says =
    says ∙ ap (can_hold model) is
    ∙ some_admitted_same model (λ c. satisfies c (and_of table.cond (and_of row.cond touch))) (λ c. satisfies c table.cond && (satisfies c row.cond && satisfies c touch))
    (λ c admitted. and_holds c table.cond (and_of row.cond touch) ∙ ap (λ b. satisfies c table.cond && b) (and_holds c row.cond touch))
