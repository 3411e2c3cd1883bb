-- The columns of answers: which there are in an admitted variant, and that each is settled.
use Rattle.std.proofs.Common.{◌≡◌, ℕ, Bool, true, false, not, List, [], ◌∷◌, ◌++◌, refl, sym, None, ◌∙◌, ap, subst, if◌then◌else◌}
use Rattle.std.specs.List.{AllByRecursion}
use Rattle.condition_sat.proofs.PossibleLaws.{admitted_of, each_fails, none_admitted}
use Rattle.condition_sat.proofs.SettledLaws.{can_hold_settled, settled_holds}
use Rattle.condition_sat.specs.Admitted.{IsAdmitted}
use Rattle.condition_sat.specs.Possible.{always_holds, can_hold, settled}
use Rattle.feature_expr.specs.Satisfaction.{satisfies}
use Rattle.feature_expr.specs.declared.expr.Expr.{Expr}
use Rattle.feature_expr.specs.declared.expr.Expr as e
use Rattle.plain_relation.specs.Relations.{Column}
use Rattle.query_meaning.specs.Typing.{IsSettled, Refuses, ShowsCase, columns_at, heading}
use Rattle.query_meaning.specs.declared.typed.TypedColumn.{TypedColumn}
use Rattle.query_meaning.specs.Cases.{case_of}
use Rattle.query_meaning.specs.Names.{too_wide}
use Rattle.query_meaning.specs.PlainTypes.{Columns, TypedPart, cases_of, typed_part}
use Rattle.query_meaning.specs.declared.ill.IllTyped.{IllTyped}
use Rattle.query_meaning.specs.declared.ill.TypeRefused.{TypeRefused}
use Rattle.query_meaning.specs.declared.ill.TypeRefused.TheVariants as refuses
use Rattle.query_names.specs.NameCases.{RefusesNames}
use Rattle.conditional_columns.proofs.Connectives.{holds_True}
use Rattle.query_typing.specs.Faults.{ShowsIn}
use Rattle.query_typing.specs.Parts.{PartIs}
use Rattle.values.specs.declared.value.Kind.{Kind}
use Rattle.vra_syntax.specs.declared.query.Query.{Query}
use Rattle.vschema.specs.declared.catalog.Table.{Table}
use Rattle.query_typing.specs.Answer.{answer_columns}

-- in an admitted variant the same columns are there

there_by : (model : Expr) (c : List ℕ) (k : TypedColumn) (rest : List TypedColumn) (xs : List Column) (b : Bool) → IsAdmitted model c → can_hold model k.cond ≡ b → columns_at c rest ≡ xs → columns_at c ((if b then record { name = k.name; kind = k.kind; cond = settled model k.cond } ∷ [] else []) ++ rest) ≡ (if satisfies c k.cond then heading k ∷ xs else xs)
there_by model c k rest xs true admitted can more =
    ap (λ s. if s then heading k ∷ columns_at c rest else columns_at c rest) (settled_holds model k.cond c admitted) ∙ ap (λ ys. if satisfies c k.cond then heading k ∷ ys else ys) more
there_by model c k rest xs false admitted can more =
    more ∙ ap (λ s. if s then heading k ∷ xs else xs) (sym (each_fails model (λ d. satisfies d k.cond) can c admitted))

pub answer_there : (model : Expr) (ks : List TypedColumn) (c : List ℕ) → IsAdmitted model c → columns_at c (answer_columns model ks) ≡ columns_at c ks
answer_there model [] c admitted = refl
answer_there model (k ∷ ks) c admitted = there_by model c k (answer_columns model ks) (columns_at c ks) (can_hold model k.cond) admitted refl (answer_there model ks c admitted)

-- each is settled

always_true : (model cond : Expr) (b : Bool) → always_holds model cond ≡ b → ((c : List ℕ) → IsAdmitted model c → satisfies c (if b then e.True else cond) ≡ true) → (if b then e.True else cond) ≡ e.True
always_true model cond true is all = refl
always_true model cond false is all =
    let always : always_holds model cond ≡ true = ap not (none_admitted model (λ c. not (satisfies c cond)) (λ c admitted. ap not (all c admitted))) in
    cc

one_settled : (model cond : Expr) → can_hold model cond ≡ true → IsSettled model (settled model cond)
one_settled model cond can = record {
  satisfiable = admitted_of model (λ c. satisfies c (settled model cond)) (can_hold_settled model cond ∙ can);
  always = always_true model cond (always_holds model cond) refl;
}

settled_by : (model : Expr) (k : TypedColumn) (rest : List TypedColumn) (b : Bool) → can_hold model k.cond ≡ b → AllByRecursion (λ (column : TypedColumn). IsSettled model column.cond) rest → AllByRecursion (λ (column : TypedColumn). IsSettled model column.cond) ((if b then record { name = k.name; kind = k.kind; cond = settled model k.cond } ∷ [] else []) ++ rest)
settled_by model k rest true can more = (one_settled model k.cond can, more)
settled_by model k rest false can more = more

pub answer_settled : (model : Expr) (ks : List TypedColumn) → AllByRecursion (λ (column : TypedColumn). IsSettled model column.cond) (answer_columns model ks)
answer_settled model [] = tt
answer_settled model (k ∷ ks) = settled_by model k (answer_columns model ks) (can_hold model k.cond) refl (answer_settled model ks)

-- the answer's columns are those of the plain type
pub answer_exact : (model : Expr) (part : List ℕ → TypedPart) (ks out : List TypedColumn) (before : Expr) → before ≡ model → out ≡ answer_columns before ks → PartIs model e.True part ks → (c : List ℕ) → IsAdmitted model c → (part c).type ≡ Columns (columns_at c out)
answer_exact model part ks out before same is typed c admitted =
    typed.type c admitted (holds_True c) ∙ ap Columns (sym (ap (columns_at c) (is ∙ ap (λ m. answer_columns m ks) same) ∙ answer_there model ks c admitted))

pub answer_is_settled : (model before : Expr) (ks out : List TypedColumn) → before ≡ model → out ≡ answer_columns before ks → AllByRecursion (λ (column : TypedColumn). IsSettled model column.cond) out
answer_is_settled model before ks out same is = subst (AllByRecursion (λ (column : TypedColumn). IsSettled model column.cond)) (sym (is ∙ ap (λ m. answer_columns m ks) same)) (answer_settled model ks)

-- what is refused

pub names_refused : (model : Expr) (kinds : List Kind) (tables : List Table) (query : Query) (why : TypeRefused) → RefusesNames kinds tables query why → Refuses model kinds tables query why
names_refused model kinds tables query (refuses.TooWide count) is = is
names_refused model kinds tables query (refuses.Ill why) is = (is.0, subst (ShowsCase model kinds tables query (case_of why)) (sym is.1) is.2)
names_refused model kinds tables query refuses.Memory is = tt

pub case_refused : (model : Expr) (kinds : List Kind) (tables : List Table) (query : Query) (it : IllTyped) → too_wide tables query ≡ None → ShowsIn model e.True (λ c. cases_of (typed_part c kinds tables query).type) it → Refuses model kinds tables query (refuses.Ill it)
case_refused model kinds tables query it narrow shows = (narrow, subst (ShowsCase model kinds tables query (case_of it)) (sym shows.is) (shows.admitted, shows.shown))
