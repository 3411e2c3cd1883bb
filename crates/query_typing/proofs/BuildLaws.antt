-- Lists of cases: what is put behind them.
use Rattle.std.proofs.Common.{◌≡◌, ◌&&◌, ℕ, Bool, true, false, not, List, [], ◌∷◌, ◌++◌, refl, ◌∙◌, ap, append_assoc, if◌then◌else◌}
use Rattle.std.proofs.lemmas.List.{append-nil}
use Rattle.feature_expr.specs.Satisfaction.{satisfies}
use Rattle.feature_expr.specs.declared.expr.Expr.{Expr}
use Rattle.plain_relation.specs.Relations.{Column, has_name}
use Rattle.query_meaning.specs.Cases.{Case, case}
use Rattle.query_meaning.specs.PlainTypes.{absent_name}
use Rattle.query_meaning.specs.declared.ill.IllCase.TheVariants as ill
use Rattle.query_meaning.specs.declared.typed.TypedColumn.{TypedColumn}
use Rattle.values.specs.declared.column_name.ColName.{ColName}

-- a case that holds where the path does and something else doesn't
absent_by : (p h b : Bool) (one : Case) → b ≡ (p && not h) → (if b then one ∷ [] else []) ≡ (if p then (if h then [] else one ∷ []) else [])
absent_by true true b one is = rw is refl
absent_by true false b one is = rw is refl
absent_by false h b one is = rw is refl

pub absent_added : (c : List ℕ) (ks : List Column) (name : ColName) (path path' there absent cond : Expr) (old new : List Case) → satisfies c there ≡ has_name name ks → satisfies c absent ≡ not (satisfies c there) → path' ≡ path → satisfies c cond ≡ (satisfies c path' && satisfies c absent) → new ≡ old ++ (if satisfies c cond then case ill.AbsentColumn name ∷ [] else []) → new ≡ old ++ (if satisfies c path then absent_name ks name else [])
absent_added c ks name path path' there absent cond old new there_is absent_is same is added =
    added ∙ ap (λ (xs : List Case). old ++ xs) (absent_by (satisfies c path) (has_name name ks) (satisfies c cond) (case ill.AbsentColumn name) (is ∙ ap (λ (x : Expr). satisfies c x && satisfies c absent) same ∙ ap (λ b. satisfies c path && b) (absent_is ∙ ap not there_is)))

pub again_added : (c : List ℕ) (column : TypedColumn) (ks : List Column) (again cond' cond : Expr) (old new : List Case) → satisfies c again ≡ has_name column.name ks → cond' ≡ column.cond → satisfies c cond ≡ (satisfies c cond' && satisfies c again) → new ≡ old ++ (if satisfies c cond then case ill.Twice column.name ∷ [] else []) → new ≡ old ++ (if satisfies c column.cond && has_name column.name ks then case ill.Twice column.name ∷ [] else [])
again_added c column ks again cond' cond old new again_is same is added =
    added ∙ ap (λ b. old ++ (if b then case ill.Twice column.name ∷ [] else [])) (is ∙ ap (λ (x : Expr). satisfies c x && satisfies c again) same ∙ ap (λ b. satisfies c column.cond && b) again_is)

-- three things that are asked where a path holds
pub three_added : (b : Bool) (f0 f1 f2 f3 xs ys zs : List Case) → f1 ≡ f0 ++ (if b then xs else []) → f2 ≡ f1 ++ (if b then ys else []) → f3 ≡ f2 ++ (if b then zs else []) → f3 ≡ f0 ++ (if b then xs ++ ys ++ zs else [])
three_added true f0 f1 f2 f3 xs ys zs one two three =
    three ∙ ap (λ (vs : List Case). vs ++ zs) (two ∙ ap (λ (vs : List Case). vs ++ ys) one ∙ append_assoc f0 xs ys) ∙ append_assoc f0 (xs ++ ys) zs
three_added false f0 f1 f2 f3 xs ys zs one two three =
    three ∙ ap (λ (vs : List Case). vs ++ []) (two ∙ ap (λ (vs : List Case). vs ++ []) one ∙ append-nil (f0 ++ [])) ∙ append-nil (f0 ++ [])
