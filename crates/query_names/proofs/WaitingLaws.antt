-- Conditions, and plans, that wait to be read: what one more of them, put last, adds.
use Rattle.std.proofs.Common.{◌≡◌, ℕ, ◌+◌, List, [], ◌∷◌, ◌++◌, refl, sym, ◌∙◌, ap, append_assoc, arith}
use Rattle.plain_relation.specs.Relations.{Column}
use Rattle.query_meaning.specs.Cases.{Case}
use Rattle.query_meaning.specs.Names.{unknown_in_cond}
use Rattle.query_meaning.specs.Parameters.{Occurrence, occurrences}
use Rattle.std.specs.Borrow.{Bor}
use Rattle.query_meaning.specs.Plans.{scans}
use Rattle.query_meaning.specs.declared.plan.Plan.{Plan}
use Rattle.query_names.specs.WaitingPlans.{plans, plan_nodes, waiting_scans, waiting_plan_nodes}
use Rattle.query_names.specs.Waiting.{conds, waiting_unknown, waiting_parameters, nodes, waiting_nodes}
use Rattle.std.proofs.lemmas.List.{append-nil, map-append}
use Rattle.vra_syntax.specs.declared.cond.Cond.{Cond}

-- a list of lists that is read from its end
module _ {C A : Type 0} (f : C → List A) where
  abbrev pub from_end : List C → List A
  from_end [] = []
  from_end (one ∷ more) = from_end more ++ f one

  pub from_end_push : (more : List C) (one : C) → from_end (more ++ one ∷ []) ≡ f one ++ from_end more
  from_end_push [] one = sym (append-nil (f one))
  from_end_push (other ∷ more) one = ap (λ (xs : List A). xs ++ f other) (from_end_push more one) ∙ append_assoc (f one) (from_end more) (f other)

same_unknown : (columns : List Column) (conds : List Cond) → waiting_unknown columns conds ≡ from_end (unknown_in_cond columns) conds
same_unknown columns [] = refl
same_unknown columns (cond ∷ conds) = ap (λ (xs : List Case). xs ++ unknown_in_cond columns cond) (same_unknown columns conds)

same_parameters : (columns : List Column) (conds : List Cond) → waiting_parameters columns conds ≡ from_end (occurrences columns) conds
same_parameters columns [] = refl
same_parameters columns (cond ∷ conds) = ap (λ (xs : List Occurrence). xs ++ occurrences columns cond) (same_parameters columns conds)

pub unknown_push : (columns : List Column) (conds : List Cond) (cond : Cond) → waiting_unknown columns (conds ++ cond ∷ []) ≡ unknown_in_cond columns cond ++ waiting_unknown columns conds
unknown_push columns conds cond = same_unknown columns (conds ++ cond ∷ []) ∙ from_end_push (unknown_in_cond columns) conds cond ∙ ap (λ (xs : List Case). unknown_in_cond columns cond ++ xs) (sym (same_unknown columns conds))

pub parameters_push : (columns : List Column) (conds : List Cond) (cond : Cond) → waiting_parameters columns (conds ++ cond ∷ []) ≡ occurrences columns cond ++ waiting_parameters columns conds
parameters_push columns conds cond = same_parameters columns (conds ++ cond ∷ []) ∙ from_end_push (occurrences columns) conds cond ∙ ap (λ (xs : List Occurrence). occurrences columns cond ++ xs) (sym (same_parameters columns conds))

pub nodes_push : (conds : List Cond) (cond : Cond) → waiting_nodes (conds ++ cond ∷ []) ≡ waiting_nodes conds + nodes cond
nodes_push [] cond = refl
nodes_push (other ∷ conds) cond = ap (λ n. n + nodes other) (nodes_push conds cond) ∙ omega arith

-- the same of lists of references, as the code keeps them

conds_push : (waiting : List (Bor Cond)) (one : Bor Cond) → conds (waiting ++ one ∷ []) ≡ conds waiting ++ one.now ∷ []
conds_push waiting one = map-append (λ (r : Bor Cond). r.now) waiting (one ∷ [])

pub one_unknown : (columns : List Column) (waiting : List (Bor Cond)) (one : Bor Cond) → waiting_unknown columns (conds (waiting ++ one ∷ [])) ≡ unknown_in_cond columns one.now ++ waiting_unknown columns (conds waiting)
one_unknown columns waiting one = ap (waiting_unknown columns) (conds_push waiting one) ∙ unknown_push columns (conds waiting) one.now

pub one_parameters : (columns : List Column) (waiting : List (Bor Cond)) (one : Bor Cond) → waiting_parameters columns (conds (waiting ++ one ∷ [])) ≡ occurrences columns one.now ++ waiting_parameters columns (conds waiting)
one_parameters columns waiting one = ap (waiting_parameters columns) (conds_push waiting one) ∙ parameters_push columns (conds waiting) one.now

pub one_nodes : (waiting : List (Bor Cond)) (one : Bor Cond) → waiting_nodes (conds (waiting ++ one ∷ [])) ≡ waiting_nodes (conds waiting) + nodes one.now
one_nodes waiting one = ap waiting_nodes (conds_push waiting one) ∙ nodes_push (conds waiting) one.now

pub both_unknown : (columns : List Column) (waiting : List (Bor Cond)) (left right : Bor Cond) → waiting_unknown columns (conds ((waiting ++ right ∷ []) ++ left ∷ [])) ≡ unknown_in_cond columns left.now ++ unknown_in_cond columns right.now ++ waiting_unknown columns (conds waiting)
both_unknown columns waiting left right = one_unknown columns (waiting ++ right ∷ []) left ∙ ap (λ (xs : List Case). unknown_in_cond columns left.now ++ xs) (one_unknown columns waiting right) ∙ sym (append_assoc (unknown_in_cond columns left.now) (unknown_in_cond columns right.now) (waiting_unknown columns (conds waiting)))

pub both_parameters : (columns : List Column) (waiting : List (Bor Cond)) (left right : Bor Cond) → waiting_parameters columns (conds ((waiting ++ right ∷ []) ++ left ∷ [])) ≡ occurrences columns left.now ++ occurrences columns right.now ++ waiting_parameters columns (conds waiting)
both_parameters columns waiting left right = one_parameters columns (waiting ++ right ∷ []) left ∙ ap (λ (xs : List Occurrence). occurrences columns left.now ++ xs) (one_parameters columns waiting right) ∙ sym (append_assoc (occurrences columns left.now) (occurrences columns right.now) (waiting_parameters columns (conds waiting)))

pub both_nodes : (waiting : List (Bor Cond)) (left right : Bor Cond) → waiting_nodes (conds ((waiting ++ right ∷ []) ++ left ∷ [])) ≡ waiting_nodes (conds waiting) + nodes left.now + nodes right.now
both_nodes waiting left right = one_nodes (waiting ++ right ∷ []) left ∙ ap (λ n. n + nodes left.now) (one_nodes waiting right) ∙ omega arith

-- the same of plans

same_scans : (them : List Plan) → waiting_scans them ≡ from_end scans them
same_scans [] = refl
same_scans (plan ∷ them) = ap (λ (xs : List ℕ). xs ++ scans plan) (same_scans them)

scans_push : (them : List Plan) (plan : Plan) → waiting_scans (them ++ plan ∷ []) ≡ scans plan ++ waiting_scans them
scans_push them plan = same_scans (them ++ plan ∷ []) ∙ from_end_push scans them plan ∙ ap (λ (xs : List ℕ). scans plan ++ xs) (sym (same_scans them))

plan_nodes_push : (them : List Plan) (plan : Plan) → waiting_plan_nodes (them ++ plan ∷ []) ≡ waiting_plan_nodes them + plan_nodes plan
plan_nodes_push [] plan = refl
plan_nodes_push (other ∷ them) plan = ap (λ n. n + plan_nodes other) (plan_nodes_push them plan) ∙ omega arith

plans_push : (waiting : List (Bor Plan)) (one : Bor Plan) → plans (waiting ++ one ∷ []) ≡ plans waiting ++ one.now ∷ []
plans_push waiting one = map-append (λ (r : Bor Plan). r.now) waiting (one ∷ [])

pub one_scans : (waiting : List (Bor Plan)) (one : Bor Plan) → waiting_scans (plans (waiting ++ one ∷ [])) ≡ scans one.now ++ waiting_scans (plans waiting)
one_scans waiting one = ap waiting_scans (plans_push waiting one) ∙ scans_push (plans waiting) one.now

pub one_plan_nodes : (waiting : List (Bor Plan)) (one : Bor Plan) → waiting_plan_nodes (plans (waiting ++ one ∷ [])) ≡ waiting_plan_nodes (plans waiting) + plan_nodes one.now
one_plan_nodes waiting one = ap waiting_plan_nodes (plans_push waiting one) ∙ plan_nodes_push (plans waiting) one.now

pub both_scans : (waiting : List (Bor Plan)) (left right : Bor Plan) → waiting_scans (plans ((waiting ++ right ∷ []) ++ left ∷ [])) ≡ scans left.now ++ scans right.now ++ waiting_scans (plans waiting)
both_scans waiting left right = one_scans (waiting ++ right ∷ []) left ∙ ap (λ (xs : List ℕ). scans left.now ++ xs) (one_scans waiting right) ∙ sym (append_assoc (scans left.now) (scans right.now) (waiting_scans (plans waiting)))

pub both_plan_nodes : (waiting : List (Bor Plan)) (left right : Bor Plan) → waiting_plan_nodes (plans ((waiting ++ right ∷ []) ++ left ∷ [])) ≡ waiting_plan_nodes (plans waiting) + plan_nodes left.now + plan_nodes right.now
both_plan_nodes waiting left right = one_plan_nodes (waiting ++ right ∷ []) left ∙ ap (λ n. n + plan_nodes left.now) (one_plan_nodes waiting right) ∙ omega arith
