-- What two folds, one over plans and one over queries, have to do with each other form by form, they have to do with each
-- other at each query and its plan. So a plan has the features and the parameters of its query, and scans tables of the
-- catalogue alone.
use Rattle.std.proofs.Common.{◌≡◌, ◌∙◌, ℕ, Bool, true, false, ◌&&◌, ◌||◌, List, [], ◌∷◌, ◌++◌, Option, Some, None, slice_get, position, length, ◌<◌, bytes_eq, max, refl, sym, ap, ap₂, subst}
use Rattle.std.specs.Prelude.{is_some}
use Rattle.std.proofs.lemmas.List.Quantifiers.{position-Some}
use Rattle.std.proofs.lemmas.Option.{slice_get-get_or}
use Rattle.std.specs.List.{list_all}
use Rattle.feature_expr.specs.Expressions.{mentions}
use Rattle.feature_expr.specs.declared.expr.Expr.{Expr}
use Rattle.query_meaning.specs.Plans.{param_in_plan, param_in_plan_step, plan_mentions, plan_mentions_step, plan_of, plan_step, scan_of, scans, scans_step}
use Rattle.query_meaning.specs.Sources.{number_of}
use Rattle.query_meaning.specs.declared.plan.Plan.{Plan, fold-Plan, roll-Plan}
use Rattle.query_meaning.specs.declared.plan.Plan as plan
use Rattle.query_meaning.specs.declared.plan.Plan.TheFolds.{fold-roll-Plan}
use Rattle.query_meaning.specs.declared.plan.Plan.TheOpen.{Plan-F}
use Rattle.relational_algebra.specs.Mentions.{cond_mentions, items_mention, query_mentions, query_mentions_step}
use Rattle.vra_syntax.specs.Parameters.{param_in_cond, param_in_query, param_in_query_step}
use Rattle.vra_syntax.specs.declared.cond.Cond.{Cond}
use Rattle.vra_syntax.specs.declared.items.Items.{Items}
use Rattle.vra_syntax.specs.declared.query.Query.{Query, fold-Query, map-Query, roll-Query}
use Rattle.vra_syntax.specs.declared.query.Query.TheFolds.{fold-roll-Query, ind-Query}
use Rattle.vra_syntax.specs.declared.query.Query.TheOpen.{Query-F}
use Rattle.vschema.specs.declared.catalog.Table.{Table}
use denote.Hole.Carrier

pub record Follows (R S : Type 0) (tables : List Table) (f : Plan-F R → R) (g : Query-F S → S) (Q : R → S → Type 0) : Type 0 where
  pub table : (name : List ℕ) → Q (fold-Plan R f (scan_of (number_of tables name))) (g (Query-F.Table name))
  pub select : (items : Items) (x : R) (y : S) (cond : Cond) → Q x y → Q (f (Plan-F.Keep (f (Plan-F.Filter x cond)) items)) (g (Query-F.Select items y cond))
  pub join : (a b : R) (x y : S) (cond : Cond) → Q a x → Q b y → Q (f (Plan-F.Join a b cond)) (g (Query-F.Join x y cond))
  pub union : (a b : R) (x y : S) → Q a x → Q b y → Q (f (Plan-F.Union a b)) (g (Query-F.Union x y))
  pub except : (a b : R) (x y : S) → Q a x → Q b y → Q (f (Plan-F.Except a b)) (g (Query-F.Except x y))
  pub alias : (x : R) (y : S) (name : List ℕ) → Q x y → Q (f (Plan-F.Rename x name)) (g (Query-F.Alias y name))
  pub choice : (expr : Expr) (a b : R) (x y : S) → Q a x → Q b y → Q (f (Plan-F.Choose expr a b)) (g (Query-F.Choice expr x y))
  pub empty : Q (f Plan-F.Nothing) (g Query-F.Empty)

module _ (R S : Type 0) (tables : List Table) (f : Plan-F R → R) (g : Query-F S → S) (Q : R → S → Type 0) (keeps : Follows R S tables f g Q) where
  abbrev P : Query → Type 0
  P query = Q (fold-Plan R f (plan_of tables query)) (fold-Query S g query)

  abbrev at : Query → R
  at query = fold-Plan R f (plan_of tables query)

  rolled : (x : Query-F Query) (r : R) → fold-Plan R f (plan_step tables (map-Query Query Plan (plan_of tables) x)) ≡ r → Q r (g (map-Query Query S (fold-Query S g) x)) → P (roll-Query x)
  rolled x r is q =
      subst (λ (z : R). Q z (fold-Query S g (roll-Query x))) (sym (ap (fold-Plan R f) (fold-roll-Query Plan (plan_step tables) x) ∙ is))
      (subst (λ (s : S). Q r s) (sym (fold-roll-Query S g x)) q)

  plan_keep : (items : Items) (source : Plan) (cond : Cond) → fold-Plan R f (plan.Keep (plan.Filter source cond) items) ≡ f (Plan-F.Keep (f (Plan-F.Filter (fold-Plan R f source) cond)) items)
  unfolding roll-Plan Carrier.roll
  plan_keep items source cond = fold-roll-Plan R f (Plan-F.Keep (plan.Filter source cond) items) ∙ ap (λ (p : R). f (Plan-F.Keep p items)) (fold-roll-Plan R f (Plan-F.Filter source cond))

  plan_join : (left right : Plan) (cond : Cond) → fold-Plan R f (plan.Join left right cond) ≡ f (Plan-F.Join (fold-Plan R f left) (fold-Plan R f right) cond)
  unfolding roll-Plan Carrier.roll
  plan_join left right cond = fold-roll-Plan R f (Plan-F.Join left right cond)

  plan_union : (left right : Plan) → fold-Plan R f (plan.Union left right) ≡ f (Plan-F.Union (fold-Plan R f left) (fold-Plan R f right))
  unfolding roll-Plan Carrier.roll
  plan_union left right = fold-roll-Plan R f (Plan-F.Union left right)

  plan_except : (left right : Plan) → fold-Plan R f (plan.Except left right) ≡ f (Plan-F.Except (fold-Plan R f left) (fold-Plan R f right))
  unfolding roll-Plan Carrier.roll
  plan_except left right = fold-roll-Plan R f (Plan-F.Except left right)

  plan_rename : (source : Plan) (name : List ℕ) → fold-Plan R f (plan.Rename source name) ≡ f (Plan-F.Rename (fold-Plan R f source) name)
  unfolding roll-Plan Carrier.roll
  plan_rename source name = fold-roll-Plan R f (Plan-F.Rename source name)

  plan_choose : (expr : Expr) (left right : Plan) → fold-Plan R f (plan.Choose expr left right) ≡ f (Plan-F.Choose expr (fold-Plan R f left) (fold-Plan R f right))
  unfolding roll-Plan Carrier.roll
  plan_choose expr left right = fold-roll-Plan R f (Plan-F.Choose expr left right)

  plan_nothing : fold-Plan R f plan.Nothing ≡ f Plan-F.Nothing
  unfolding roll-Plan Carrier.roll
  plan_nothing = fold-roll-Plan R f Plan-F.Nothing

  layer : (y : Query-F ((query : Query) × P query)) → P (roll-Query (map-Query ((query : Query) × P query) Query (λ e. e.0) y))
  layer (Query-F.Table name) = rolled (Query-F.Table name) _ refl (keeps.table name)
  layer (Query-F.Select items s cond) = rolled (Query-F.Select items s.0 cond) _ (plan_keep items (plan_of tables s.0) cond) (keeps.select items (at s.0) (fold-Query S g s.0) cond s.1)
  layer (Query-F.Join l r cond) = rolled (Query-F.Join l.0 r.0 cond) _ (plan_join (plan_of tables l.0) (plan_of tables r.0) cond) (keeps.join (at l.0) (at r.0) (fold-Query S g l.0) (fold-Query S g r.0) cond l.1 r.1)
  layer (Query-F.Union l r) = rolled (Query-F.Union l.0 r.0) _ (plan_union (plan_of tables l.0) (plan_of tables r.0)) (keeps.union (at l.0) (at r.0) (fold-Query S g l.0) (fold-Query S g r.0) l.1 r.1)
  layer (Query-F.Except l r) = rolled (Query-F.Except l.0 r.0) _ (plan_except (plan_of tables l.0) (plan_of tables r.0)) (keeps.except (at l.0) (at r.0) (fold-Query S g l.0) (fold-Query S g r.0) l.1 r.1)
  layer (Query-F.Alias s name) = rolled (Query-F.Alias s.0 name) _ (plan_rename (plan_of tables s.0) name) (keeps.alias (at s.0) (fold-Query S g s.0) name s.1)
  layer (Query-F.Choice expr l r) = rolled (Query-F.Choice expr l.0 r.0) _ (plan_choose expr (plan_of tables l.0) (plan_of tables r.0)) (keeps.choice expr (at l.0) (at r.0) (fold-Query S g l.0) (fold-Query S g r.0) l.1 r.1)
  layer Query-F.Empty = rolled Query-F.Empty _ plan_nothing keeps.empty

  pub follows : (query : Query) → Q (fold-Plan R f (plan_of tables query)) (fold-Query S g query)
  follows = ind-Query P (λ x y is. subst (λ z. P (roll-Query z)) is (layer y))

-- the same features

scan_mentions : (feature : ℕ) (number : Option ℕ) → fold-Plan Bool (plan_mentions_step feature) (scan_of number) ≡ false
unfolding roll-Plan Carrier.roll
scan_mentions feature None = fold-roll-Plan Bool (plan_mentions_step feature) Plan-F.Nothing
scan_mentions feature (Some n) = fold-roll-Plan Bool (plan_mentions_step feature) (Plan-F.Scan n)

turned : (a b d : Bool) → ((a || b) || d) ≡ (d || a || b)
turned true b true = refl
turned true b false = refl
turned false true true = refl
turned false true false = refl
turned false false true = refl
turned false false false = refl

mention_follows : (feature : ℕ) (tables : List Table) → Follows Bool Bool tables (plan_mentions_step feature) (query_mentions_step feature) (λ x y. x ≡ y)
mention_follows feature tables = record {
  table = λ name. scan_mentions feature (number_of tables name);
  select = λ items x y cond is. turned x (cond_mentions feature cond) (items_mention feature items) ∙ ap (λ b. items_mention feature items || b || cond_mentions feature cond) is;
  join = λ a b x y cond l r. ap₂ (λ p q. p || q || cond_mentions feature cond) l r;
  union = λ a b x y l r. ap₂ (λ p q. p || q) l r;
  except = λ a b x y l r. ap₂ (λ p q. p || q) l r;
  alias = λ x y name is. is;
  choice = λ expr a b x y l r. ap₂ (λ p q. mentions feature expr || p || q) l r;
  empty = refl;
}

pub same_mentions : (feature : ℕ) (tables : List Table) (query : Query) → plan_mentions feature (plan_of tables query) ≡ query_mentions feature query
same_mentions feature tables query = follows Bool Bool tables (plan_mentions_step feature) (query_mentions_step feature) (λ x y. x ≡ y) (mention_follows feature tables) query

-- the same parameters

scan_params : (number : Option ℕ) → fold-Plan ℕ param_in_plan_step (scan_of number) ≡ 0
unfolding roll-Plan Carrier.roll
scan_params None = fold-roll-Plan ℕ param_in_plan_step Plan-F.Nothing
scan_params (Some n) = fold-roll-Plan ℕ param_in_plan_step (Plan-F.Scan n)

param_follows : (tables : List Table) → Follows ℕ ℕ tables param_in_plan_step param_in_query_step (λ x y. x ≡ y)
param_follows tables = record {
  table = λ name. scan_params (number_of tables name);
  select = λ items x y cond is. ap (λ n. max n (param_in_cond cond)) is;
  join = λ a b x y cond l r. ap₂ (λ m n. max (max m n) (param_in_cond cond)) l r;
  union = λ a b x y l r. ap₂ max l r;
  except = λ a b x y l r. ap₂ max l r;
  alias = λ x y name is. is;
  choice = λ expr a b x y l r. ap₂ max l r;
  empty = refl;
}

pub same_params : (tables : List Table) (query : Query) → param_in_plan (plan_of tables query) ≡ param_in_query query
same_params tables query = follows ℕ ℕ tables param_in_plan_step param_in_query_step (λ x y. x ≡ y) (param_follows tables) query

-- only tables of the catalogue

abbrev pub is_table : List Table → ℕ → Bool
is_table tables number = is_some (slice_get tables number)

abbrev are_tables : List Table → List ℕ → Type 0
are_tables tables numbers = list_all (is_table tables) numbers ≡ true

both_tables : (tables : List Table) (xs ys : List ℕ) → are_tables tables xs → are_tables tables ys → are_tables tables (xs ++ ys)
both_tables tables [] ys one other = other
both_tables tables (x ∷ xs) ys one other = more (is_table tables x) (list_all (is_table tables) xs) (list_all (is_table tables) (xs ++ ys)) one (λ rest. both_tables tables xs ys rest other) where
  more : (a b d : Bool) → (a && b) ≡ true → (b ≡ true → d ≡ true) → (a && d) ≡ true
  more true b d is f = f is
  more false b d is f = is

is_there : (tables : List Table) (number : ℕ) (d : Table) → number < length tables → is_table tables number ≡ true
is_there tables number d within = ap is_some (slice_get-get_or tables number d within)

found_there : (test : Table → Bool) (tables : List Table) (number : ℕ) → position test tables ≡ Some number → is_table tables number ≡ true
found_there test [] number is = absurd (cc is)
found_there test (t ∷ ts) number is = is_there (t ∷ ts) number t (position-Some test (t ∷ ts) number t is).0

scan_scans : (tables : List Table) (test : Table → Bool) (number : Option ℕ) → position test tables ≡ number → are_tables tables (fold-Plan (List ℕ) scans_step (scan_of number))
unfolding roll-Plan Carrier.roll
scan_scans tables test None is = ap (list_all (is_table tables)) (fold-roll-Plan (List ℕ) scans_step Plan-F.Nothing)
scan_scans tables test (Some n) is = ap (list_all (is_table tables)) (fold-roll-Plan (List ℕ) scans_step (Plan-F.Scan n)) ∙ rw (found_there test tables n is) refl

scan_follows : (tables : List Table) → Follows (List ℕ) Bool tables scans_step (λ x. true) (λ numbers x. are_tables tables numbers)
scan_follows tables = record {
  table = λ name. scan_scans tables (λ (table : Table). bytes_eq table.name name) (number_of tables name) refl;
  select = λ items x y cond is. is;
  join = λ a b x y cond l r. both_tables tables a b l r;
  union = λ a b x y l r. both_tables tables a b l r;
  except = λ a b x y l r. both_tables tables a b l r;
  alias = λ x y name is. is;
  choice = λ expr a b x y l r. both_tables tables a b l r;
  empty = refl;
}

pub scans_tables : (tables : List Table) (query : Query) → list_all (is_table tables) (scans (plan_of tables query)) ≡ true
scans_tables tables query = follows (List ℕ) Bool tables scans_step (λ x. true) (λ numbers x. are_tables tables numbers) (scan_follows tables) query
