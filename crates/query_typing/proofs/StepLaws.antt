-- Queries that were taken apart from the left: what is reached, and what passes up.
use Rattle.std.proofs.Common.{◌≡◌, ℕ, ◌≤◌, ◌<◌, max, rules, Bool, true, false, not, List, [], ◌∷◌, ◌++◌, refl, sym, ◌∙◌, ap, subst, inl, inr, arith, if◌then◌else◌}
use Rattle.condition_sat.proofs.PossibleLaws.{and_first, and_second}
use Rattle.feature_expr.specs.Satisfaction.{satisfies}
use Rattle.feature_expr.specs.declared.expr.Expr.{Expr}
use Rattle.plain_relation.specs.Relations.{Column}
use Rattle.query_meaning.specs.Cases.{Case, IsOneOf}
use Rattle.query_meaning.specs.PlainTypes.{PlainType, Columns, Ill, TypedPart, cases_of, chosen_type, or_cases, over, type_step, typed_part}
use Rattle.query_typing.specs.Parts.{one_typed, two_typed}
use Rattle.query_typing.specs.Steps.{AreReached, chosen_reached, deepest, depth_of, left_reached, rewrapped, right_reached, wrapped, one_wrapped, two_wrapped}
use Rattle.query_typing.specs.declared.form.Form.{Form}
use Rattle.query_typing.specs.declared.form.Form.TheVariants as form
use Rattle.query_typing.specs.declared.form.OneForm.{OneForm}
use Rattle.query_typing.specs.declared.form.OneForm.TheVariants as one
use Rattle.query_typing.specs.declared.form.Step.{Step}
use Rattle.query_typing.specs.declared.form.TwoForm.{TwoForm}
use Rattle.query_typing.specs.declared.form.TwoForm.TheVariants as two
use Rattle.relational_algebra.specs.Columns.{merged}
use Rattle.values.specs.declared.value.Kind.{Kind}
use Rattle.vra_syntax.specs.declared.cond.Cond.{Cond}
use Rattle.vra_syntax.specs.declared.items.Items.{Items}
use Rattle.vra_syntax.specs.declared.query.Query.{Query, roll-Query, size-Query}
use Rattle.vra_syntax.specs.declared.query.Query as query
use Rattle.vra_syntax.specs.declared.query.Query.TheFolds.{fold-roll-Query}
use Rattle.vra_syntax.specs.declared.query.Query.TheOpen.{Query-F}
use Rattle.vra_syntax.specs.declared.query.Query.TheVariants.{rolls-Select, rolls-Join, rolls-Union, rolls-Except, rolls-Alias, rolls-Choice}
use Rattle.vra_syntax.specs.declared.query.Query.TheViews.{the_lemmas}
use Rattle.vschema.specs.declared.catalog.Table.{Table}
use denote.Hole.Carrier

pub rewrapped_push : (steps : List Step) (step : Step) (inner : Query) → rewrapped (steps ++ step ∷ []) inner ≡ rewrapped steps (wrapped step.form inner)
rewrapped_push [] step inner = refl
rewrapped_push (s ∷ steps) step inner = ap (λ q. wrapped s.form q) (rewrapped_push steps step inner)

pub reached_push : (root old inner : List ℕ → Bool) (steps : List Step) (step : Step) → ((c : List ℕ) → satisfies c step.reach ≡ old c) → ((c : List ℕ) → inner c ≡ left_reached c step.form (satisfies c step.reach)) → AreReached root steps old → AreReached root (steps ++ step ∷ []) inner
reached_push root old inner [] step here inside reached = (λ c. here c ∙ reached c, λ c. inside c ∙ ap (left_reached c step.form) (here c ∙ reached c))
reached_push root old inner (s ∷ steps) step here inside reached = (reached.0, reached_push (λ c. left_reached c s.form (root c)) old inner steps step here inside reached.1)

pub reached_pop : (root inner : List ℕ → Bool) (steps : List Step) (step : Step) → AreReached root (steps ++ step ∷ []) inner → (AreReached root steps (λ c. satisfies c step.reach)) × ((c : List ℕ) → inner c ≡ left_reached c step.form (satisfies c step.reach))
reached_pop root inner [] step reached = (λ c. reached.0 c, λ c. reached.1 c ∙ ap (left_reached c step.form) (sym (reached.0 c)))
reached_pop root inner (s ∷ steps) step reached =
    let rest = reached_pop (λ c. left_reached c s.form (root c)) inner steps step reached.1 in
    ((reached.0, rest.0), rest.1)

-- what a form is over the parts of its sides

module _ (c : List ℕ) (kinds : List Kind) (tables : List Table) where
  pub one_part : (f : OneForm) (source : Query) → typed_part c kinds tables (one_wrapped f source) ≡ one_typed c kinds f (typed_part c kinds tables source)
  unfolding roll-Query Carrier.roll
  one_part (one.Select items cond) source = fold-roll-Query TypedPart (type_step c kinds tables) (Query-F.Select items.now source cond.now)
  one_part (one.Alias name) source = fold-roll-Query TypedPart (type_step c kinds tables) (Query-F.Alias source name.now)

  pub two_part : (f : TwoForm) (left right : Query) → typed_part c kinds tables (two_wrapped f left right) ≡ two_typed c kinds f (typed_part c kinds tables left) (typed_part c kinds tables right)
  unfolding roll-Query Carrier.roll
  two_part (two.Join cond) left right = fold-roll-Query TypedPart (type_step c kinds tables) (Query-F.Join left right cond.now)
  two_part two.Union left right = fold-roll-Query TypedPart (type_step c kinds tables) (Query-F.Union left right)
  two_part two.Except left right = fold-roll-Query TypedPart (type_step c kinds tables) (Query-F.Except left right)
  two_part (two.Choice expr) left right = fold-roll-Query TypedPart (type_step c kinds tables) (Query-F.Choice expr.now left right)

  -- a case of a part is one of what stands above it

  over_case : (f : List Column → PlainType) (t : PlainType) (k : Case) → IsOneOf (cases_of t) k → IsOneOf (cases_of (over f t)) k
  over_case f (Ill first more) k is = is
  over_case f (Columns columns) k is = absurd is

  some_case : (cases : List Case) (t : PlainType) (k : Case) → IsOneOf cases k → IsOneOf (cases_of (or_cases cases t)) k
  some_case [] t k is = absurd is
  some_case (first ∷ more) t k is = is

  left_one : (xs ys : List Case) (k : Case) → IsOneOf xs k → IsOneOf (xs ++ ys) k
  left_one [] ys k is = absurd is
  left_one (x ∷ xs) ys k (inl is) = inl is
  left_one (x ∷ xs) ys k (inr is) = inr (left_one xs ys k is)

  right_one : (xs ys : List Case) (k : Case) → IsOneOf ys k → IsOneOf (xs ++ ys) k
  right_one [] ys k is = is
  right_one (x ∷ xs) ys k is = inr (right_one xs ys k is)

  one_case : (f : OneForm) (x : TypedPart) (k : Case) → IsOneOf (cases_of x.type) k → IsOneOf (cases_of (one_typed c kinds f x).type) k
  one_case (one.Select items cond) x k is = over_case _ x.type k is
  one_case (one.Alias name) x k is = over_case _ x.type k is

  left_case : (f : TwoForm) (reached : Bool) (x y : TypedPart) (k : Case) → chosen_reached c f reached ≡ true → IsOneOf (cases_of x.type) k → (reached ≡ true) × IsOneOf (cases_of (two_typed c kinds f x y).type) k
  left_case (two.Join cond) reached x y k h is = (h, some_case (cases_of x.type ++ cases_of y.type) _ k (left_one (cases_of x.type) (cases_of y.type) k is))
  left_case two.Union reached x y k h is = (h, some_case (cases_of x.type ++ cases_of y.type) _ k (left_one (cases_of x.type) (cases_of y.type) k is))
  left_case two.Except reached x y k h is = (h, some_case (cases_of x.type ++ cases_of y.type) _ k (left_one (cases_of x.type) (cases_of y.type) k is))
  left_case (two.Choice expr) reached x y k h is =
      (and_first reached (satisfies c expr.now) h, subst (λ b. IsOneOf (cases_of (chosen_type (merged x.possible y.possible) (if b then x.type else y.type))) k) (sym (and_second reached (satisfies c expr.now) h)) (over_case _ x.type k is))

  not_taken : (b : Bool) → not b ≡ true → b ≡ false
  not_taken true h = cc
  not_taken false h = refl

  right_case : (f : TwoForm) (reached : Bool) (x y : TypedPart) (k : Case) → right_reached c f reached ≡ true → IsOneOf (cases_of y.type) k → (reached ≡ true) × IsOneOf (cases_of (two_typed c kinds f x y).type) k
  right_case (two.Join cond) reached x y k h is = (h, some_case (cases_of x.type ++ cases_of y.type) _ k (right_one (cases_of x.type) (cases_of y.type) k is))
  right_case two.Union reached x y k h is = (h, some_case (cases_of x.type ++ cases_of y.type) _ k (right_one (cases_of x.type) (cases_of y.type) k is))
  right_case two.Except reached x y k h is = (h, some_case (cases_of x.type ++ cases_of y.type) _ k (right_one (cases_of x.type) (cases_of y.type) k is))
  right_case (two.Choice expr) reached x y k h is =
      (and_first reached (not (satisfies c expr.now)) h, subst (λ b. IsOneOf (cases_of (chosen_type (merged x.possible y.possible) (if b then x.type else y.type))) k) (sym (not_taken (satisfies c expr.now) (and_second reached (not (satisfies c expr.now)) h))) (over_case _ y.type k is))

  left_up : (f : Form) (reached : Bool) (q : Query) (k : Case) → left_reached c f reached ≡ true → IsOneOf (cases_of (typed_part c kinds tables q).type) k → (reached ≡ true) × IsOneOf (cases_of (typed_part c kinds tables (wrapped f q)).type) k
  left_up (form.One f) reached q k h is = (h, subst (λ (t : TypedPart). IsOneOf (cases_of t.type) k) (sym (one_part f q)) (one_case f (typed_part c kinds tables q) k is))
  left_up (form.Two f right) reached q k h is =
      let up = left_case f reached (typed_part c kinds tables q) (typed_part c kinds tables right.now) k h is in
      (up.0, subst (λ (t : TypedPart). IsOneOf (cases_of t.type) k) (sym (two_part f q right.now)) up.1)

  pub right_up : (f : TwoForm) (reached : Bool) (left right : Query) (k : Case) → right_reached c f reached ≡ true → IsOneOf (cases_of (typed_part c kinds tables right).type) k → (reached ≡ true) × IsOneOf (cases_of (typed_part c kinds tables (two_wrapped f left right)).type) k
  right_up f reached left right k h is =
      let up = right_case f reached (typed_part c kinds tables left) (typed_part c kinds tables right) k h is in
      (up.0, subst (λ (t : TypedPart). IsOneOf (cases_of t.type) k) (sym (two_part f left right)) up.1)

  pub case_up : (root inner : List ℕ → Bool) (steps : List Step) (q : Query) (k : Case) → AreReached root steps inner → inner c ≡ true → IsOneOf (cases_of (typed_part c kinds tables q).type) k → (root c ≡ true) × IsOneOf (cases_of (typed_part c kinds tables (rewrapped steps q)).type) k
  case_up root inner [] q k reached here is = (sym (reached c) ∙ here, is)
  case_up root inner (s ∷ steps) q k reached here is =
      let up = case_up (λ d. left_reached d s.form (root d)) inner steps q k reached.1 here is in
      left_up s.form (root c) (rewrapped steps q) k up.0 up.1

-- the right sides aren't as deep as the whole

size_Select : (items : Items) (source : Query) (cond : Cond) → size-Query source < size-Query (query.Select items source cond)
size_Select items source cond = search (rules, the_lemmas, rolls-Select items source cond)

size_Join : (left right : Query) (cond : Cond) → (size-Query left < size-Query (query.Join left right cond)) × (size-Query right < size-Query (query.Join left right cond))
size_Join left right cond = search (rules, the_lemmas, rolls-Join left right cond)

size_Union : (left right : Query) → (size-Query left < size-Query (query.Union left right)) × (size-Query right < size-Query (query.Union left right))
size_Union left right = search (rules, the_lemmas, rolls-Union left right)

size_Except : (left right : Query) → (size-Query left < size-Query (query.Except left right)) × (size-Query right < size-Query (query.Except left right))
size_Except left right = search (rules, the_lemmas, rolls-Except left right)

size_Alias : (source : Query) (name : List ℕ) → size-Query source < size-Query (query.Alias source name)
size_Alias source name = search (rules, the_lemmas, rolls-Alias source name)

size_Choice : (expr : Expr) (left right : Query) → (size-Query left < size-Query (query.Choice expr left right)) × (size-Query right < size-Query (query.Choice expr left right))
size_Choice expr left right = search (rules, the_lemmas, rolls-Choice expr left right)

depth_step : (f : Form) (inner : Query) (n : ℕ) → n ≤ size-Query inner → max (depth_of f) n ≤ size-Query (wrapped f inner)
depth_step (form.One (one.Select items cond)) inner n below = let s = size_Select items.now inner cond.now in omega arith
depth_step (form.One (one.Alias name)) inner n below = let s = size_Alias inner name.now in omega arith
depth_step (form.Two (two.Join cond) right) inner n below = let s = size_Join inner right.now cond.now in omega arith
depth_step (form.Two two.Union right) inner n below = let s = size_Union inner right.now in omega arith
depth_step (form.Two two.Except right) inner n below = let s = size_Except inner right.now in omega arith
depth_step (form.Two (two.Choice expr) right) inner n below = let s = size_Choice expr.now inner right.now in omega arith

deepest_within : (steps : List Step) (left : Query) → deepest steps ≤ size-Query (rewrapped steps left)
deepest_within [] left = omega arith
deepest_within (s ∷ steps) left = depth_step s.form (rewrapped steps left) (deepest steps) (deepest_within steps left)

pub begins_below : (steps : List Step) (leaf whole : Query) → rewrapped steps leaf ≡ whole → deepest steps ≤ size-Query whole
begins_below steps leaf whole is = let b = deepest_within steps leaf in rw is at b

deepest_push : (steps : List Step) (step : Step) → deepest (steps ++ step ∷ []) ≡ max (deepest steps) (depth_of step.form)
deepest_push [] step = omega arith
deepest_push (s ∷ steps) step = ap (max (depth_of s.form)) (deepest_push steps step) ∙ omega arith

pub goes_below : (steps before : List Step) (s : Step) (n : ℕ) → before ≡ steps ++ s ∷ [] → deepest before ≤ n → (deepest steps ≤ n) × (depth_of s.form ≤ n)
goes_below steps before s n popped below =
    let b : deepest (steps ++ s ∷ []) ≤ n = rw popped at below in
    let c : max (deepest steps) (depth_of s.form) ≤ n = rw (deepest_push steps s) at b in
    (omega (arith, c), omega (arith, c))
