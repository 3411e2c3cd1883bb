-- The one condition of a group.
use Rattle.std.proofs.Common.{◌≡◌, ℕ, ◌+◌, ◌≤◌, ◌&&◌, ◌||◌, Bool, true, false, if◌then◌else◌, List, [], ◌∷◌, ◌++◌, length, refl, sym, ◌∙◌, ap, rules, arith, ◌⊎◌}
use Rattle.std.specs.List.{sum_by}
use Rattle.std.proofs.lemmas.List.Sums.{sum_by-cons}
use Rattle.feature_expr.specs.declared.expr.Expr.{Expr}
use Rattle.feature_expr.specs.Expressions.{mentions, weight_of}
use Rattle.feature_expr.specs.Satisfaction.{satisfies}
use Rattle.condition_sat.specs.Possible.{settled, is_settled}
use Rattle.condition_sat.proofs.PossibleLaws.{some_admitted_of, admitted_of, or_left, and_first}
use Rattle.condition_sat.proofs.SettledLaws.{settled_holds, settled_known, settled_weight, settled_is}
use Rattle.vtable.specs.declared.group.Group.{Group}
use Rattle.vtable.specs.declared.table.VRow.{VRow}
use Rattle.vtable.specs.Disjunction.{any_holds, any_mentions, conds_cost}
use Rattle.vtable.specs.Passes.{IsJoined, AllJoined}
use Rattle.vtable.proofs.DisjunctionLaws.{any_push, cost_push, mentions_push}

or-false : (b : Bool) → (b || false) ≡ b
or-false true = refl
or-false false = refl

or-swap : (a b : Bool) → (a || b) ≡ (b || a)
or-swap true true = refl
or-swap true false = refl
or-swap false true = refl
or-swap false false = refl

-- the first condition, put behind the others
pub first_last : (c : List ℕ) (first : Expr) (more conds : List Expr) → conds ≡ more ++ first ∷ [] → any_holds c conds ≡ any_holds c (first ∷ more)
first_last c first more conds is = ap (any_holds c) is ∙ any_push c more first ∙ or-swap (any_holds c more) (satisfies c first)

pub first_last_known : (i : ℕ) (first : Expr) (more conds : List Expr) → conds ≡ more ++ first ∷ [] → any_mentions i conds ≡ any_mentions i (first ∷ more)
first_last_known i first more conds is = ap (any_mentions i) is ∙ mentions_push i more first ∙ or-swap (any_mentions i more) (mentions i first)

pub cost_cons : (first : Expr) (more : List Expr) → conds_cost (first ∷ more) ≡ weight_of first + 1 + conds_cost more
cost_cons first more =
    let weights : sum_by weight_of (first ∷ more) ≡ weight_of first + sum_by weight_of more = sum_by-cons weight_of first more in
    let lengths : length (first ∷ more) ≡ length more + 1 = search rules in
    omega arith

pub first_last_cost : (first : Expr) (more conds : List Expr) → conds ≡ more ++ first ∷ [] → conds_cost conds ≡ conds_cost (first ∷ more)
first_last_cost first more conds is =
    let pushed : conds_cost conds ≡ conds_cost more + (weight_of first + 1) = ap conds_cost is ∙ cost_push more first in
    let consed : conds_cost (first ∷ more) ≡ weight_of first + 1 + conds_cost more = cost_cons first more in
    omega arith

-- a group of one row
pub joined_one : (model : Expr) (group : Group) (row : VRow) → group.more ≡ [] → row.cells ≡ group.cells → row.cond ≡ group.first → IsJoined model group row
joined_one model group row alone cells cond = record {
  cells = cells;
  holds = λ c admitted. ap (satisfies c) cond ∙ sym (ap (λ es. any_holds c (group.first ∷ es)) alone ∙ or-false (satisfies c group.first));
  cost =
      let one : conds_cost (group.first ∷ group.more) ≡ weight_of group.first + 1 + conds_cost group.more = cost_cons group.first group.more in
      let same : weight_of row.cond ≡ weight_of group.first = ap weight_of cond in
      omega arith;
  settled = λ h. ap (is_settled model) cond ∙ h;
  known = λ i h. or_left (mentions i group.first) (any_mentions i group.more) (sym (ap (mentions i) cond) ∙ h);
}

-- a group of several rows
pub joined_more : (model : Expr) (group : Group) (row : VRow) (whole : Expr) → ((c : List ℕ) → satisfies c whole ≡ any_holds c (group.first ∷ group.more)) → weight_of whole + 1 ≤ conds_cost (group.first ∷ group.more) → ((i : ℕ) → mentions i whole ≡ true → any_mentions i (group.first ∷ group.more) ≡ true) → row.cells ≡ group.cells → row.cond ≡ settled model whole → IsJoined model group row
joined_more model group row whole holds cost known cells cond = record {
  cells = cells;
  holds = λ c admitted. ap (satisfies c) cond ∙ settled_holds model whole c admitted ∙ holds c;
  cost =
      let same : weight_of row.cond ≡ weight_of (settled model whole) = ap weight_of cond in
      let less : weight_of (settled model whole) ≤ weight_of whole = settled_weight model whole in
      omega arith;
  settled = λ h.
      let found = admitted_of model (λ c. satisfies c group.first) (and_first _ _ h) in
      ap (is_settled model) cond ∙ settled_is model whole (some_admitted_of model (λ c. satisfies c whole) found.config found.admitted (holds found.config ∙ or_left _ _ found.has));
  known = λ i h. known i (settled_known model whole i (sym (ap (mentions i) cond) ∙ h));
}

pub joined_push : (model : Expr) (groups : List Group) (rows : List VRow) (group : Group) (row : VRow) → AllJoined model groups rows → IsJoined model group row → AllJoined model (groups ++ group ∷ []) (rows ++ row ∷ [])
joined_push model [] [] group row all one = (one, tt)
joined_push model [] (r ∷ rows) group row all one = absurd all
joined_push model (g ∷ groups) [] group row all one = absurd all
joined_push model (g ∷ groups) (r ∷ rows) group row all one = (all.0, joined_push model groups rows group row all.1 one)
