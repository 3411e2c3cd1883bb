-- Joining conditions pairwise keeps what they mean.
use Rattle.std.proofs.Common.{◌≡◌, ℕ, ◌+◌, ◌||◌, Bool, true, false, List, [], ◌∷◌, ◌++◌, length, refl, sym, ◌∙◌, ap, arith, length-append}
use Rattle.std.specs.List.{sum_by}
use Rattle.std.proofs.lemmas.List.Folds.{list_any-append}
use Rattle.std.proofs.lemmas.List.Sums.{sum_by-append}
use Rattle.feature_expr.specs.declared.expr.Expr.{Expr}
use Rattle.feature_expr.specs.Expressions.{mentions, weight_of}
use Rattle.feature_expr.specs.Satisfaction.{satisfies}
use Rattle.vtable.specs.Disjunction.{any_holds, any_mentions, conds_cost}

or-false : (b : Bool) → (b || false) ≡ b
or-false true = refl
or-false false = refl

or-assoc : (a b c : Bool) → ((a || b) || c) ≡ (a || (b || c))
or-assoc true b c = refl
or-assoc false b c = refl

pub any_push : (c : List ℕ) (conds : List Expr) (cond : Expr) → any_holds c (conds ++ cond ∷ []) ≡ (any_holds c conds || satisfies c cond)
any_push c conds cond = list_any-append (satisfies c) conds (cond ∷ []) ∙ ap (λ b. any_holds c conds || b) (or-false (satisfies c cond))

pub cost_push : (conds : List Expr) (cond : Expr) → conds_cost (conds ++ cond ∷ []) ≡ conds_cost conds + (weight_of cond + 1)
cost_push conds cond =
    let weights : sum_by weight_of (conds ++ cond ∷ []) ≡ sum_by weight_of conds + sum_by weight_of (cond ∷ []) = sum_by-append weight_of conds (cond ∷ []) in
    let lengths : length (conds ++ cond ∷ []) ≡ length conds + 1 = length-append conds (cond ∷ []) in
    let one : sum_by weight_of (cond ∷ []) ≡ 0 + weight_of cond = refl in
    omega arith

-- the last two in one
pub pair_holds : (c : List ℕ) (old new : List Expr) (left right pair : Expr) → old ≡ new ++ left ∷ [] → satisfies c pair ≡ (satisfies c left || satisfies c right) → (any_holds c new || satisfies c pair) ≡ any_holds c (old ++ right ∷ [])
pair_holds c old new left right pair is meaning =
    ap (λ b. any_holds c new || b) meaning
    ∙ sym (or-assoc (any_holds c new) (satisfies c left) (satisfies c right))
    ∙ sym (any_push c old right ∙ ap (λ xs. any_holds c xs || satisfies c right) is ∙ ap (λ b. b || satisfies c right) (any_push c new left))

-- ---- the features that occur

pub mentions_push : (i : ℕ) (conds : List Expr) (cond : Expr) → any_mentions i (conds ++ cond ∷ []) ≡ (any_mentions i conds || mentions i cond)
mentions_push i conds cond = list_any-append (mentions i) conds (cond ∷ []) ∙ ap (λ b. any_mentions i conds || b) (or-false (mentions i cond))

of_last_two : (new pair left right : Bool) → (pair ≡ true → (left || right) ≡ true) → (new || pair) ≡ true → ((new || left) || right) ≡ true
of_last_two true pair left right of_sides h = refl
of_last_two false pair left right of_sides h = of_sides h

-- the last two in one
pub pair_known : (i : ℕ) (old new : List Expr) (left right pair : Expr) → old ≡ new ++ left ∷ [] → (mentions i pair ≡ true → (mentions i left || mentions i right) ≡ true) → (any_mentions i new || mentions i pair) ≡ true → any_mentions i (old ++ right ∷ []) ≡ true
pair_known i old new left right pair is of_sides h =
    mentions_push i old right
    ∙ ap (λ xs. any_mentions i xs || mentions i right) is
    ∙ ap (λ b. b || mentions i right) (mentions_push i new left)
    ∙ of_last_two (any_mentions i new) (mentions i pair) (mentions i left) (mentions i right) of_sides h
