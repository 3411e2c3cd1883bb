-- Queries that were taken apart from the left.
use Rattle.std.proofs.Common.{◌≡◌, ℕ, ◌≤◌, ◌<◌, max, rules, List, [], ◌∷◌, ◌++◌, Some, None, refl, sym, ◌∙◌, ap, subst, arith}
use Rattle.query_meaning.specs.Names.{Named, named_step, names_of}
use Rattle.query_names.specs.NameSteps.{wrapped, rewrapped, one_named, two_named, around, names_round, depth_of, deepest}
use Rattle.query_names.specs.Parts.{IsTooWide}
use Rattle.query_names.specs.declared.name_steps.OneForm.{OneForm}
use Rattle.query_names.specs.declared.name_steps.OneForm.TheVariants as one
use Rattle.query_names.specs.declared.name_steps.TwoForm.{TwoForm}
use Rattle.query_names.specs.declared.name_steps.TwoForm.TheVariants as two
use Rattle.query_names.specs.declared.refused.NamesRefused.{NamesRefused}
use Rattle.query_names.specs.declared.refused.NamesRefused.TheVariants as refused
use Rattle.std.specs.Borrow.{Bor}
use Rattle.query_names.specs.declared.name_steps.NameStep.{NameStep}
use Rattle.query_names.specs.declared.name_steps.NameStep.TheVariants as step
use Rattle.vra_syntax.specs.declared.query.Query.{Query, roll-Query, size-Query}
use Rattle.vra_syntax.specs.declared.query.Query as query
use Rattle.vra_syntax.specs.declared.query.Query.TheFolds.{fold-roll-Query}
use Rattle.vra_syntax.specs.declared.query.Query.TheVariants.{rolls-Select, rolls-Join, rolls-Union, rolls-Except, rolls-Alias, rolls-Choice}
use Rattle.vra_syntax.specs.declared.query.Query.TheViews.{the_lemmas}
use Rattle.feature_expr.specs.declared.expr.Expr.{Expr}
use Rattle.vra_syntax.specs.declared.cond.Cond.{Cond}
use Rattle.vra_syntax.specs.declared.items.Items.{Items}
use Rattle.vra_syntax.specs.declared.query.Query.TheOpen.{Query-F}
use Rattle.vschema.specs.declared.catalog.Table.{Table}
use denote.Hole.Carrier

pub rewrapped_push : (steps : List NameStep) (step : NameStep) (inner : Query) → rewrapped (steps ++ step ∷ []) inner ≡ rewrapped steps (wrapped step inner)
rewrapped_push [] step inner = refl
rewrapped_push (s ∷ steps) step inner = ap (λ q. wrapped s q) (rewrapped_push steps step inner)

pub round_push : (tables : List Table) (steps : List NameStep) (step : NameStep) (left : Named) → names_round tables (steps ++ step ∷ []) left ≡ names_round tables steps (around tables step left)
round_push tables [] step left = refl
round_push tables (s ∷ steps) step left = ap (λ n. around tables s n) (round_push tables steps step left)

pub deepest_push : (steps : List NameStep) (step : NameStep) → deepest (steps ++ step ∷ []) ≡ max (deepest steps) (depth_of step)
deepest_push [] step = omega arith
deepest_push (s ∷ steps) step = ap (max (depth_of s)) (deepest_push steps step) ∙ omega arith

names_wrapped : (tables : List Table) (s : NameStep) (left : Query) → names_of tables (wrapped s left) ≡ around tables s (names_of tables left)
unfolding roll-Query Carrier.roll
names_wrapped tables (step.One (one.Select items cond)) left = fold-roll-Query Named (named_step tables) (Query-F.Select items.now left cond.now)
names_wrapped tables (step.One (one.Alias name)) left = fold-roll-Query Named (named_step tables) (Query-F.Alias left name.now)
names_wrapped tables (step.Two (two.Join cond) right) left = fold-roll-Query Named (named_step tables) (Query-F.Join left right.now cond.now)
names_wrapped tables (step.Two two.Union right) left = fold-roll-Query Named (named_step tables) (Query-F.Union left right.now)
names_wrapped tables (step.Two two.Except right) left = fold-roll-Query Named (named_step tables) (Query-F.Except left right.now)
names_wrapped tables (step.Two (two.Choice expr) right) left = fold-roll-Query Named (named_step tables) (Query-F.Choice expr.now left right.now)

pub names_leaf : (tables : List Table) (name : List ℕ) → names_of tables (query.Table name) ≡ named_step tables (Query-F.Table name)
unfolding roll-Query Carrier.roll
names_leaf tables name = fold-roll-Query Named (named_step tables) (Query-F.Table name)

pub names_empty : (tables : List Table) → names_of tables query.Empty ≡ named_step tables Query-F.Empty
unfolding roll-Query Carrier.roll
names_empty tables = fold-roll-Query Named (named_step tables) Query-F.Empty

pub names_rewrapped : (tables : List Table) (steps : List NameStep) (left : Query) → names_of tables (rewrapped steps left) ≡ names_round tables steps (names_of tables left)
names_rewrapped tables [] left = refl
names_rewrapped tables (s ∷ steps) left = names_wrapped tables s (rewrapped steps left) ∙ ap (around tables s) (names_rewrapped tables steps left)

-- the right sides aren't as deep as the whole

size_Select : (items : Items) (source : Query) (cond : Cond) → size-Query source < size-Query (query.Select items source cond)
size_Select items source cond = search (rules, the_lemmas, rolls-Select items source cond)

size_Join : (left right : Query) (cond : Cond) → (size-Query left < size-Query (query.Join left right cond)) × (size-Query right < size-Query (query.Join left right cond))
size_Join left right cond = search (rules, the_lemmas, rolls-Join left right cond)

size_Union : (left right : Query) → (size-Query left < size-Query (query.Union left right)) × (size-Query right < size-Query (query.Union left right))
size_Union left right = search (rules, the_lemmas, rolls-Union left right)

size_Except : (left right : Query) → (size-Query left < size-Query (query.Except left right)) × (size-Query right < size-Query (query.Except left right))
size_Except left right = search (rules, the_lemmas, rolls-Except left right)

size_Alias : (source : Query) (name : List ℕ) → size-Query source < size-Query (query.Alias source name)
size_Alias source name = search (rules, the_lemmas, rolls-Alias source name)

size_Choice : (expr : Expr) (left right : Query) → (size-Query left < size-Query (query.Choice expr left right)) × (size-Query right < size-Query (query.Choice expr left right))
size_Choice expr left right = search (rules, the_lemmas, rolls-Choice expr left right)

depth_step : (s : NameStep) (inner : Query) (n : ℕ) → n ≤ size-Query inner → max (depth_of s) n ≤ size-Query (wrapped s inner)
depth_step (step.One (one.Select items cond)) inner n below = let s = size_Select items.now inner cond.now in omega arith
depth_step (step.One (one.Alias name)) inner n below = let s = size_Alias inner name.now in omega arith
depth_step (step.Two (two.Join cond) right) inner n below = let s = size_Join inner right.now cond.now in omega arith
depth_step (step.Two two.Union right) inner n below = let s = size_Union inner right.now in omega arith
depth_step (step.Two two.Except right) inner n below = let s = size_Except inner right.now in omega arith
depth_step (step.Two (two.Choice expr) right) inner n below = let s = size_Choice expr.now inner right.now in omega arith

pub deepest_within : (steps : List NameStep) (left : Query) → deepest steps ≤ size-Query (rewrapped steps left)
deepest_within [] left = omega arith
deepest_within (s ∷ steps) left = depth_step s (rewrapped steps left) (deepest steps) (deepest_within steps left)

-- A part that is too wide makes all that it is a part of too wide, if what stands left of it isn't.

one_wide : (form : OneForm) (source : Named) (count : ℕ) → source.too_wide ≡ Some count → (one_named form source).too_wide ≡ Some count
one_wide (one.Select items cond) source count wide = rw wide refl
one_wide (one.Alias name) source count wide = rw wide refl

left_wide : (form : TwoForm) (left right : Named) (count : ℕ) → left.too_wide ≡ Some count → (two_named form left right).too_wide ≡ Some count
left_wide (two.Join cond) left right count wide = rw wide refl
left_wide two.Union left right count wide = rw wide refl
left_wide two.Except left right count wide = rw wide refl
left_wide (two.Choice expr) left right count wide = rw wide refl

right_wide : (form : TwoForm) (left right : Named) (count : ℕ) → left.too_wide ≡ None → right.too_wide ≡ Some count → (two_named form left right).too_wide ≡ Some count
right_wide (two.Join cond) left right count narrow wide = rw (narrow, wide) refl
right_wide two.Union left right count narrow wide = rw (narrow, wide) refl
right_wide two.Except left right count narrow wide = rw (narrow, wide) refl
right_wide (two.Choice expr) left right count narrow wide = rw (narrow, wide) refl

wide_around : (tables : List Table) (s : NameStep) (left : Named) (count : ℕ) → left.too_wide ≡ Some count → (around tables s left).too_wide ≡ Some count
wide_around tables (step.One form) left count wide = one_wide form left count wide
wide_around tables (step.Two form right) left count wide = left_wide form left (names_of tables right.now) count wide

wide_round : (tables : List Table) (steps : List NameStep) (left : Named) (count : ℕ) → left.too_wide ≡ Some count → (names_round tables steps left).too_wide ≡ Some count
wide_round tables [] left count wide = wide
wide_round tables (s ∷ steps) left count wide = wide_around tables s (names_round tables steps left) count (wide_round tables steps left count wide)

-- What the walk down a query's left side keeps.

-- at its innermost left side
pub begins : (tables : List Table) (steps : List NameStep) (leaf whole : Query) (names : Named) → rewrapped steps leaf ≡ whole → names ≡ names_of tables leaf → names_round tables steps names ≡ names_of tables whole
begins tables steps leaf whole names is said = ap (names_round tables steps) said ∙ sym (names_rewrapped tables steps leaf) ∙ ap (names_of tables) is

pub begins_below : (steps : List NameStep) (leaf whole : Query) → rewrapped steps leaf ≡ whole → deepest steps ≤ size-Query whole
begins_below steps leaf whole is = let b = deepest_within steps leaf in rw is at b

pub begins_wide : (tables : List Table) (steps : List NameStep) (leaf whole : Query) (why : NamesRefused) → rewrapped steps leaf ≡ whole → IsTooWide (names_of tables leaf).too_wide why → IsTooWide (names_of tables whole).too_wide why
begins_wide tables steps leaf whole (refused.TooWide count) is wide = ap (λ (n : Named). n.too_wide) (sym (begins tables steps leaf whole (names_of tables leaf) is refl)) ∙ wide_round tables steps (names_of tables leaf) count wide
begins_wide tables steps leaf whole refused.Memory is wide = tt

-- one step further out
pub goes_on : (tables : List Table) (steps before : List NameStep) (s : NameStep) (left next all : Named) → before ≡ steps ++ s ∷ [] → names_round tables before left ≡ all → next ≡ around tables s left → names_round tables steps next ≡ all
goes_on tables steps before s left next all popped whole made = ap (names_round tables steps) made ∙ sym (round_push tables steps s left) ∙ ap (λ (ss : List NameStep). names_round tables ss left) (sym popped) ∙ whole

pub goes_wide : (tables : List Table) (steps before : List NameStep) (s : NameStep) (left all : Named) (why : NamesRefused) → before ≡ steps ++ s ∷ [] → names_round tables before left ≡ all → IsTooWide (around tables s left).too_wide why → IsTooWide all.too_wide why
goes_wide tables steps before s left all (refused.TooWide count) popped whole wide = ap (λ (n : Named). n.too_wide) (sym (goes_on tables steps before s left (around tables s left) all popped whole refl)) ∙ wide_round tables steps (around tables s left) count wide
goes_wide tables steps before s left all refused.Memory popped whole wide = tt

pub right_goes_wide : (tables : List Table) (steps before : List NameStep) (form : TwoForm) (right : Bor Query) (left all : Named) (why : NamesRefused) → before ≡ steps ++ step.Two form right ∷ [] → names_round tables before left ≡ all → left.too_wide ≡ None → IsTooWide (names_of tables right.now).too_wide why → IsTooWide all.too_wide why
right_goes_wide tables steps before form right left all (refused.TooWide count) popped whole narrow wide = goes_wide tables steps before (step.Two form right) left all (refused.TooWide count) popped whole (right_wide form left (names_of tables right.now) count narrow wide)
right_goes_wide tables steps before form right left all refused.Memory popped whole narrow wide = tt

pub goes_below : (steps before : List NameStep) (s : NameStep) (n : ℕ) → before ≡ steps ++ s ∷ [] → deepest before ≤ n → (deepest steps ≤ n) × (depth_of s ≤ n)
goes_below steps before s n popped below =
    let b : deepest (steps ++ s ∷ []) ≤ n = rw popped at below in
    let c : max (deepest steps) (depth_of s) ≤ n = rw (deepest_push steps s) at b in
    (omega (arith, c), omega (arith, c))

-- the right part may be what its names say
pub right_said : (form : TwoForm) (left right right' : Named) (why : NamesRefused) → right ≡ right' → IsTooWide (two_named form left right).too_wide why → IsTooWide (two_named form left right').too_wide why
right_said form left right right' why is wide = subst (λ (n : Named). IsTooWide (two_named form left n).too_wide why) is wide
