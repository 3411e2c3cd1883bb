-- What the rows of a table have in common with their groups, and with the rows that the groups are joined to.
use Rattle.std.proofs.Common.{◌≡◌, ℕ, ◌+◌, ◌≤◌, ◌&&◌, ◌||◌, Bool, true, false, if◌then◌else◌, List, [], ◌∷◌, ◌++◌, length, Option, Some, None, refl, sym, ◌∙◌, ap, subst, rules, arith, inl, inr}
use Rattle.std.specs.List.{list_any}
use Rattle.std.proofs.lemmas.List.Sums.{sum_by-cons}
use Rattle.feature_expr.specs.declared.expr.Expr.{Expr}
use Rattle.values.specs.declared.value.Value.{Value}
use Rattle.feature_expr.specs.Expressions.{weight_of}
use Rattle.feature_expr.specs.Satisfaction.{satisfies}
use Rattle.vtable.specs.declared.group.Group.{Group}
use Rattle.vtable.specs.declared.table.VRow.{VRow}
use Rattle.vtable.specs.Disjunction.{any_holds, conds_cost}
use Rattle.vtable.specs.TableForm.{same_cells, has_row_with, rows_weight}
use Rattle.vtable.specs.Passes.{groups_after, group_of, with_cond}
use Rattle.vtable.proofs.CellLaws.{same_cells_are}
use Rattle.vtable.proofs.DisjunctionLaws.{any_push, cost_push}
use Rattle.vtable.proofs.JoinLaws.{cost_cons}
use Rattle.condition_sat.proofs.PossibleLaws.{true_or_false}

-- whether a row of the group is there, and has these cells
abbrev pub group_stands : List ℕ → List (Option Value) → Group → Bool
group_stands c cells group = any_holds c (group.first ∷ group.more) && same_cells group.cells cells

one_more : (a b s t : Bool) → (((a || b) && s) || t) ≡ ((a && s) || ((b && s) || t))
one_more true true true t = refl
one_more true false true t = refl
one_more false b true t = refl
one_more true true false t = refl
one_more true false false t = refl
one_more false true false t = refl
one_more false false false t = refl

or-false : (b : Bool) → (b || false) ≡ b
or-false true = refl
or-false false = refl

or-assoc : (a b c : Bool) → ((a || b) || c) ≡ (a || (b || c))
or-assoc true b c = refl
or-assoc false b c = refl

pub choice_true : {X : Type 0} (b : Bool) (x y : X) → b ≡ true → (if b then x else y) ≡ x
choice_true true x y h = refl
choice_true false x y h = search rules

pub choice_false : {X : Type 0} (b : Bool) (x y : X) → b ≡ false → (if b then x else y) ≡ y
choice_false true x y h = search rules
choice_false false x y h = refl

longer_stands : (c : List ℕ) (cells : List (Option Value)) (group : Group) (row : VRow) (t : Bool) → same_cells group.cells row.cells ≡ true → (group_stands c cells (with_cond group row.cond) || t) ≡ (group_stands c cells group || ((satisfies c row.cond && same_cells row.cells cells) || t))
longer_stands c cells group row t same =
    ap (λ b. (b && same_cells group.cells cells) || t) (ap (λ b. satisfies c group.first || b) (any_push c group.more row.cond) ∙ sym (or-assoc (satisfies c group.first) (any_holds c group.more) (satisfies c row.cond)))
    ∙ one_more (any_holds c (group.first ∷ group.more)) (satisfies c row.cond) (same_cells group.cells cells) t
    ∙ ap (λ xs. group_stands c cells group || ((satisfies c row.cond && same_cells xs cells) || t)) (same_cells_are group.cells row.cells same)

first_stands : (c : List ℕ) (cells : List (Option Value)) (row : VRow) → group_stands c cells (group_of row) ≡ (satisfies c row.cond && same_cells row.cells cells)
first_stands c cells row = ap (λ b. b && same_cells row.cells cells) (or-false (satisfies c row.cond))

-- the groups have the cells of their rows
groups_stand : (c : List ℕ) (cells : List (Option Value)) (group : Group) (rows : List VRow) → list_any (group_stands c cells) (groups_after (Some group) rows) ≡ (group_stands c cells group || has_row_with c cells rows)
groups_stand c cells group [] = refl
groups_stand c cells group (row ∷ rows) =
    elim (true_or_false (same_cells group.cells row.cells)) [
      | inl same ↦
          ap (list_any (group_stands c cells)) (choice_true _ _ _ same)
          ∙ groups_stand c cells (with_cond group row.cond) rows
          ∙ longer_stands c cells group row (has_row_with c cells rows) same
      | inr apart ↦
          ap (list_any (group_stands c cells)) (choice_false _ _ _ apart)
          ∙ ap (λ b. group_stands c cells group || b) (groups_stand c cells (group_of row) rows ∙ ap (λ b. b || has_row_with c cells rows) (first_stands c cells row))
    ]

pub all_groups_stand : (c : List ℕ) (cells : List (Option Value)) (rows : List VRow) → list_any (group_stands c cells) (groups_after None rows) ≡ has_row_with c cells rows
all_groups_stand c cells [] = refl
all_groups_stand c cells (row ∷ rows) = groups_stand c cells (group_of row) rows ∙ ap (λ b. b || has_row_with c cells rows) (first_stands c cells row)

-- what the rows weigh, and one for each
abbrev pub rows_cost : List VRow → ℕ
rows_cost [] = 0
rows_cost (row ∷ rows) = weight_of row.cond + 1 + rows_cost rows

abbrev pub groups_cost : List Group → ℕ
groups_cost [] = 0
groups_cost (group ∷ groups) = conds_cost (group.first ∷ group.more) + groups_cost groups

length-cons : {X : Type 0} (x : X) (xs : List X) → length (x ∷ xs) ≡ length xs + 1
length-cons x xs = search rules

pub rows_cost_is : (rows : List VRow) → rows_cost rows ≡ rows_weight rows + length rows
rows_cost_is [] = refl
rows_cost_is (row ∷ rows) =
    let rest : rows_cost rows ≡ rows_weight rows + length rows = rows_cost_is rows in
    let weights : rows_weight (row ∷ rows) ≡ weight_of row.cond + rows_weight rows = sum_by-cons (λ (r : VRow). weight_of r.cond) row rows in
    let lengths : length (row ∷ rows) ≡ length rows + 1 = length-cons row rows in
    omega arith

longer_cost : (group : Group) (cond : Expr) → conds_cost (group.first ∷ (group.more ++ cond ∷ [])) ≡ conds_cost (group.first ∷ group.more) + (weight_of cond + 1)
longer_cost group cond =
    let whole : conds_cost (group.first ∷ (group.more ++ cond ∷ [])) ≡ weight_of group.first + 1 + conds_cost (group.more ++ cond ∷ []) = cost_cons group.first (group.more ++ cond ∷ []) in
    let part : conds_cost (group.first ∷ group.more) ≡ weight_of group.first + 1 + conds_cost group.more = cost_cons group.first group.more in
    let pushed : conds_cost (group.more ++ cond ∷ []) ≡ conds_cost group.more + (weight_of cond + 1) = cost_push group.more cond in
    omega arith

one_cost : (cond : Expr) → conds_cost (cond ∷ []) ≡ weight_of cond + 1
one_cost cond = let one : conds_cost (cond ∷ []) ≡ weight_of cond + 1 + conds_cost [] = cost_cons cond [] in let none : conds_cost [] ≡ 0 = refl in omega arith

groups_weigh : (group : Group) (rows : List VRow) → groups_cost (groups_after (Some group) rows) ≡ conds_cost (group.first ∷ group.more) + rows_cost rows
groups_weigh group [] = refl
groups_weigh group (row ∷ rows) =
    elim (true_or_false (same_cells group.cells row.cells)) [
      | inl same ↦
          let rest : groups_cost (groups_after (Some (with_cond group row.cond)) rows) ≡ conds_cost (group.first ∷ (group.more ++ row.cond ∷ [])) + rows_cost rows = groups_weigh (with_cond group row.cond) rows in
          let longer : conds_cost (group.first ∷ (group.more ++ row.cond ∷ [])) ≡ conds_cost (group.first ∷ group.more) + (weight_of row.cond + 1) = longer_cost group row.cond in
          ap groups_cost (choice_true _ _ _ same) ∙ (omega arith)
      | inr apart ↦
          let rest : groups_cost (groups_after (Some (group_of row)) rows) ≡ conds_cost (row.cond ∷ []) + rows_cost rows = groups_weigh (group_of row) rows in
          let one : conds_cost (row.cond ∷ []) ≡ weight_of row.cond + 1 = one_cost row.cond in
          ap groups_cost (choice_false _ _ _ apart) ∙ (omega arith)
    ]

pub all_groups_weigh : (rows : List VRow) → groups_cost (groups_after None rows) ≡ rows_cost rows
all_groups_weigh [] = refl
all_groups_weigh (row ∷ rows) =
    let rest : groups_cost (groups_after (Some (group_of row)) rows) ≡ conds_cost (row.cond ∷ []) + rows_cost rows = groups_weigh (group_of row) rows in
    let one : conds_cost (row.cond ∷ []) ≡ weight_of row.cond + 1 = one_cost row.cond in
    omega arith

fewer_after : (group : Group) (rows : List VRow) → length (groups_after (Some group) rows) ≤ length rows + 1
fewer_after group [] = search rules
fewer_after group (row ∷ rows) =
    let lengths : length (row ∷ rows) ≡ length rows + 1 = length-cons row rows in
    elim (true_or_false (same_cells group.cells row.cells)) [
      | inl same ↦
          let rest : length (groups_after (Some (with_cond group row.cond)) rows) ≤ length rows + 1 = fewer_after (with_cond group row.cond) rows in
          subst (λ gs. length gs ≤ length (row ∷ rows) + 1) (sym (choice_true _ _ _ same)) (omega arith)
      | inr apart ↦
          let rest : length (groups_after (Some (group_of row)) rows) ≤ length rows + 1 = fewer_after (group_of row) rows in
          let all : length (group ∷ groups_after (Some (group_of row)) rows) ≡ length (groups_after (Some (group_of row)) rows) + 1 = length-cons group (groups_after (Some (group_of row)) rows) in
          subst (λ gs. length gs ≤ length (row ∷ rows) + 1) (sym (choice_false _ _ _ apart)) (omega arith)
    ]

pub fewer_groups : (rows : List VRow) → length (groups_after None rows) ≤ length rows
fewer_groups [] = search rules
fewer_groups (row ∷ rows) =
    let lengths : length (row ∷ rows) ≡ length rows + 1 = length-cons row rows in
    let rest : length (groups_after (Some (group_of row)) rows) ≤ length rows + 1 = fewer_after (group_of row) rows in
    omega arith
