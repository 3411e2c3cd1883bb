-- What two folds over plans have to do with each other, form by form, they have to do with each other at every plan. So
-- each of them carries a plan's possible columns, if its layer does.
use Rattle.std.proofs.Common.{◌≡◌, ℕ, List, sym, ◌∙◌, ap, subst}
use Rattle.feature_expr.specs.declared.expr.Expr.{Expr}
use Rattle.plain_relation.specs.Relations.{Column}
use Rattle.vra_syntax.specs.declared.cond.Cond.{Cond}
use Rattle.vra_syntax.specs.declared.items.Items.{Items}
use Rattle.relational_algebra.specs.Columns.{once, merged, aliased}
use Rattle.relational_algebra.specs.Items.{possible_kept}
use Rattle.query_meaning.specs.Plans.{plan_possible, plan_possible_step}
use Rattle.query_meaning.specs.Sources.{Source}
use Rattle.query_meaning.specs.declared.plan.Plan.{Plan, fold-Plan, map-Plan, roll-Plan}
use Rattle.query_meaning.specs.declared.plan.Plan.TheFolds.{fold-roll-Plan, ind-Plan}
use Rattle.query_meaning.specs.declared.plan.Plan.TheOpen.{Plan-F}

-- what is said of two parts is said of each form over them
pub record Keeps (R S : Type 0) (f : Plan-F R → R) (g : Plan-F S → S) (Q : R → S → Type 0) : Type 0 where
  pub scan : (table : ℕ) → Q (f (Plan-F.Scan table)) (g (Plan-F.Scan table))
  pub filter : (x : R) (y : S) (cond : Cond) → Q x y → Q (f (Plan-F.Filter x cond)) (g (Plan-F.Filter y cond))
  pub keep : (x : R) (y : S) (items : Items) → Q x y → Q (f (Plan-F.Keep x items)) (g (Plan-F.Keep y items))
  pub join : (a b : R) (x y : S) (cond : Cond) → Q a x → Q b y → Q (f (Plan-F.Join a b cond)) (g (Plan-F.Join x y cond))
  pub union : (a b : R) (x y : S) → Q a x → Q b y → Q (f (Plan-F.Union a b)) (g (Plan-F.Union x y))
  pub except : (a b : R) (x y : S) → Q a x → Q b y → Q (f (Plan-F.Except a b)) (g (Plan-F.Except x y))
  pub rename : (x : R) (y : S) (name : List ℕ) → Q x y → Q (f (Plan-F.Rename x name)) (g (Plan-F.Rename y name))
  pub choose : (expr : Expr) (a b : R) (x y : S) → Q a x → Q b y → Q (f (Plan-F.Choose expr a b)) (g (Plan-F.Choose expr x y))
  pub nothing : Q (f Plan-F.Nothing) (g Plan-F.Nothing)

module _ (R S : Type 0) (f : Plan-F R → R) (g : Plan-F S → S) (Q : R → S → Type 0) (keeps : Keeps R S f g Q) where
  abbrev P : Plan → Type 0
  P p = Q (fold-Plan R f p) (fold-Plan S g p)

  rolled : (x : Plan-F Plan) → Q (f (map-Plan Plan R (fold-Plan R f) x)) (g (map-Plan Plan S (fold-Plan S g) x)) → P (roll-Plan x)
  rolled x q = subst (λ (r : R). Q r (fold-Plan S g (roll-Plan x))) (sym (fold-roll-Plan R f x)) (subst (λ (s : S). Q (f (map-Plan Plan R (fold-Plan R f) x)) s) (sym (fold-roll-Plan S g x)) q)

  layer : (y : Plan-F ((p : Plan) × P p)) → P (roll-Plan (map-Plan ((p : Plan) × P p) Plan (λ e. e.0) y))
  layer (Plan-F.Scan table) = rolled (Plan-F.Scan table) (keeps.scan table)
  layer (Plan-F.Filter s cond) = rolled (Plan-F.Filter s.0 cond) (keeps.filter _ _ cond s.1)
  layer (Plan-F.Keep s items) = rolled (Plan-F.Keep s.0 items) (keeps.keep _ _ items s.1)
  layer (Plan-F.Join l r cond) = rolled (Plan-F.Join l.0 r.0 cond) (keeps.join _ _ _ _ cond l.1 r.1)
  layer (Plan-F.Union l r) = rolled (Plan-F.Union l.0 r.0) (keeps.union _ _ _ _ l.1 r.1)
  layer (Plan-F.Except l r) = rolled (Plan-F.Except l.0 r.0) (keeps.except _ _ _ _ l.1 r.1)
  layer (Plan-F.Rename s name) = rolled (Plan-F.Rename s.0 name) (keeps.rename _ _ name s.1)
  layer (Plan-F.Choose expr l r) = rolled (Plan-F.Choose expr l.0 r.0) (keeps.choose expr _ _ _ _ l.1 r.1)
  layer Plan-F.Nothing = rolled Plan-F.Nothing keeps.nothing

  pub related : (p : Plan) → Q (fold-Plan R f p) (fold-Plan S g p)
  related = ind-Plan P (λ x y is. subst (λ z. P (roll-Plan z)) is (layer y))

-- a layer that gives the possible columns of each form, from those of its parts
pub record Carries (R : Type 0) (sources : ℕ → Source) (possible : R → List Column) (f : Plan-F R → R) : Type 0 where
  pub layer : (x : Plan-F R) → possible (f x) ≡ plan_possible_step sources (map-Plan R (List Column) possible x)

module _ (R : Type 0) (sources : ℕ → Source) (possible : R → List Column) (f : Plan-F R → R) (carries : Carries R sources possible f) where
  both_merged : (a b x y : List Column) → a ≡ x → b ≡ y → merged a b ≡ merged x y
  both_merged a b x y e h = ap (λ k. merged k b) e ∙ ap (merged x) h

  keeps_possible : Keeps R (List Column) f (plan_possible_step sources) (λ r columns. possible r ≡ columns)
  keeps_possible = record {
    scan = λ table. carries.layer (Plan-F.Scan table);
    filter = λ x y cond e. carries.layer (Plan-F.Filter x cond) ∙ e;
    keep = λ x y items e. carries.layer (Plan-F.Keep x items) ∙ ap (possible_kept items) e;
    join = λ a b x y cond e h. carries.layer (Plan-F.Join a b cond) ∙ both_merged _ _ x y e h;
    union = λ a b x y e h. carries.layer (Plan-F.Union a b) ∙ both_merged _ _ x y e h;
    except = λ a b x y e h. carries.layer (Plan-F.Except a b) ∙ e;
    rename = λ x y name e. carries.layer (Plan-F.Rename x name) ∙ ap (λ k. once (aliased name k)) e;
    choose = λ expr a b x y e h. carries.layer (Plan-F.Choose expr a b) ∙ both_merged _ _ x y e h;
    nothing = carries.layer Plan-F.Nothing;
  }

  pub carried : (p : Plan) → possible (fold-Plan R f p) ≡ plan_possible sources p
  carried = related R (List Column) f (plan_possible_step sources) (λ r columns. possible r ≡ columns) keeps_possible
