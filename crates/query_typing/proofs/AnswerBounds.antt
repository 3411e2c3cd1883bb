-- The columns of answers stand in the order of the possible columns, weigh no more than the columns that they are made
-- of, and have no other features.
use Rattle.std.proofs.Common.{◌≡◌, ℕ, ◌+◌, ◌≤◌, ◌||◌, Bool, true, false, List, [], ◌∷◌, ◌++◌, filter, refl, sym, ◌∙◌, ap, arith, if◌then◌else◌}
use Rattle.std.proofs.lemmas.Bool.{or_right}
use Rattle.condition_sat.specs.Possible.{always_holds, can_hold, settled}
use Rattle.conditional_columns.proofs.Connectives.{none_in_True, weighs_True, weighs_one}
use Rattle.conditional_columns.proofs.FormLaws.{left_in_order}
use Rattle.conditional_columns.proofs.ListLaws.{weight_cons}
use Rattle.conditional_columns.specs.ColumnLists.{columns_mention}
use Rattle.feature_expr.specs.Expressions.{mentions, weight_of}
use Rattle.feature_expr.specs.declared.expr.Expr.{Expr}
use Rattle.feature_expr.specs.declared.expr.Expr as e
use Rattle.plain_relation.specs.Relations.{Column}
use Rattle.query_meaning.specs.Bounds.{empty_sizes, query_size}
use Rattle.query_meaning.specs.PossibleColumns.{possible_columns}
use Rattle.query_meaning.specs.Typing.{columns_weight, heading, headings}
use Rattle.query_meaning.specs.declared.typed.TypedColumn.{TypedColumn}
use Rattle.query_typing.specs.Answer.{answer_columns}
use Rattle.query_typing.specs.Bounded.{HasFeatures, IsBounded}
use Rattle.relational_algebra.specs.Columns.{in_order_of}
use Rattle.vra_syntax.specs.declared.query.Query.{Query}
use Rattle.vschema.specs.declared.catalog.Table.{Table}

abbrev can_be_there : Expr → TypedColumn → Bool
can_be_there model column = can_hold model column.cond

-- one column, which is left or not
one_left : (model : Expr) (k : TypedColumn) (out left : List TypedColumn) (b : Bool) → headings out ≡ headings left → headings ((if b then record { name = k.name; kind = k.kind; cond = settled model k.cond } ∷ [] else []) ++ out) ≡ headings (if b then k ∷ left else left)
one_left model k out left true more = ap (λ hs. heading k ∷ hs) more
one_left model k out left false more = more

answer_headings : (model : Expr) (ks : List TypedColumn) → headings (answer_columns model ks) ≡ headings (filter (can_be_there model) ks)
answer_headings model [] = refl
answer_headings model (k ∷ ks) = one_left model k (answer_columns model ks) (filter (can_be_there model) ks) (can_hold model k.cond) (answer_headings model ks)

pub answer_ordered : (model : Expr) (tables : List Table) (query : Query) (ks out : List TypedColumn) → out ≡ answer_columns model ks → IsBounded tables query ks → headings out ≡ in_order_of (possible_columns tables query) (headings out)
answer_ordered model tables query ks out is bounded =
    let left : headings out ≡ headings (filter (can_be_there model) ks) = ap headings is ∙ answer_headings model ks in
    left ∙ left_in_order (can_be_there model) ks bounded.each ∙ ap (λ (order : List Column). in_order_of order (headings (filter (can_be_there model) ks))) bounded.possible ∙ ap (in_order_of (possible_columns tables query)) (sym left)

settled_weight : (cond : Expr) (b : Bool) → weight_of (if b then e.True else cond) ≤ weight_of cond
settled_weight cond true = let w = weighs_True in let one = weighs_one cond in omega (arith, w, one)
settled_weight cond false = omega arith

one_weight : (model : Expr) (k : TypedColumn) (out : List TypedColumn) (b : Bool) → columns_weight ((if b then record { name = k.name; kind = k.kind; cond = settled model k.cond } ∷ [] else []) ++ out) ≤ weight_of k.cond + columns_weight out
one_weight model k out true =
    let parts = weight_cons (record { name = k.name; kind = k.kind; cond = settled model k.cond }) out in
    let less = settled_weight k.cond (always_holds model k.cond) in
    omega (arith, parts, less)
one_weight model k out false = omega arith

weighs_less : (model : Expr) (ks : List TypedColumn) → columns_weight (answer_columns model ks) ≤ columns_weight ks
weighs_less model [] = omega arith
weighs_less model (k ∷ ks) =
    let one = one_weight model k (answer_columns model ks) (can_hold model k.cond) in
    let rest = weighs_less model ks in
    let parts = weight_cons k ks in
    omega (arith, one, rest, parts)

pub answer_weight : (model : Expr) (tables : List Table) (query : Query) (ks out : List TypedColumn) → out ≡ answer_columns model ks → IsBounded tables query ks → columns_weight out ≤ (query_size tables (empty_sizes tables) query).column_weight
answer_weight model tables query ks out is bounded =
    let less = weighs_less model ks in
    let whole = ap columns_weight is in
    let most = bounded.weight in
    omega (arith, less, whole, most)

module _ (i : ℕ) where
  settled_features : (cond : Expr) (b : Bool) → mentions i (if b then e.True else cond) ≡ true → mentions i cond ≡ true
  settled_features cond true h = none_in_True i h _
  settled_features cond false h = h

  first_or : (a b c d : Bool) → (a ≡ true → c ≡ true) → (b ≡ true → d ≡ true) → (a || b) ≡ true → (c || d) ≡ true
  first_or true b c d one other h = ap (λ x. x || d) (one refl)
  first_or false b c d one other h = or_right c d (other h)

  one_features : (model : Expr) (k : TypedColumn) (out ks : List TypedColumn) (b : Bool) → (columns_mention i out ≡ true → columns_mention i ks ≡ true) → columns_mention i ((if b then record { name = k.name; kind = k.kind; cond = settled model k.cond } ∷ [] else []) ++ out) ≡ true → (mentions i k.cond || columns_mention i ks) ≡ true
  one_features model k out ks true more h = first_or (mentions i (settled model k.cond)) (columns_mention i out) (mentions i k.cond) (columns_mention i ks) (settled_features k.cond (always_holds model k.cond)) more h
  one_features model k out ks false more h = or_right (mentions i k.cond) (columns_mention i ks) (more h)

  no_more_features : (model : Expr) (ks : List TypedColumn) → columns_mention i (answer_columns model ks) ≡ true → columns_mention i ks ≡ true
  no_more_features model [] h = h
  no_more_features model (k ∷ ks) h = one_features model k (answer_columns model ks) ks (can_hold model k.cond) (no_more_features model ks) h

pub answer_features : (model : Expr) (tables : List Table) (query : Query) (ks out : List TypedColumn) → out ≡ answer_columns model ks → IsBounded tables query ks → HasFeatures tables query out
answer_features model tables query ks out is bounded = record { each = λ i h. bounded.features.each i (no_more_features i model ks (sym (ap (columns_mention i) is) ∙ h)) }
