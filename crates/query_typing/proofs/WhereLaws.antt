-- Cases that are asked about where one of some columns is there.
use Rattle.std.proofs.Common.{◌≡◌, ◌&&◌, ℕ, true, List, [], ◌∷◌, refl, sym, ◌∙◌, subst}
use Rattle.condition_sat.proofs.PossibleLaws.{and_first, and_second, both}
use Rattle.conditional_columns.specs.ColumnLists.{is_some_there}
use Rattle.feature_expr.specs.Satisfaction.{satisfies}
use Rattle.feature_expr.specs.declared.expr.Expr.{Expr}
use Rattle.plain_relation.specs.Relations.{Column}
use Rattle.query_meaning.specs.Cases.{Case, IsOneOf, case_of}
use Rattle.query_meaning.specs.PlainTypes.{where_any}
use Rattle.query_typing.specs.Faults.{NoCase, RefusesCase}
use Rattle.query_typing.specs.declared.refused.CaseRefused.{CaseRefused}
use Rattle.query_typing.specs.declared.refused.CaseRefused.TheVariants as refused

-- the same cases, said otherwise

pub no_case_same : (model reach : Expr) (f g : List ℕ → List Case) → ((c : List ℕ) → g c ≡ f c) → NoCase model reach f → NoCase model reach g
no_case_same model reach f g same none = record { none = λ c admitted reached. same c ∙ none.none c admitted reached }

pub refuses_same : (model reach : Expr) (f g : List ℕ → List Case) (why : CaseRefused) → ((c : List ℕ) → g c ≡ f c) → RefusesCase model reach f why → RefusesCase model reach g why
refuses_same model reach f g refused.Memory same shows = tt
refuses_same model reach f g (refused.Ill it) same shows = record {
  config = shows.config;
  is = shows.is;
  admitted = shows.admitted;
  reached = shows.reached;
  shown = subst (λ xs. IsOneOf xs (case_of it)) (sym (same shows.config)) shows.shown;
}

-- where there are no columns, nothing is asked

by_there : (ks : List Column) (cases : List Case) → (is_some_there ks ≡ true → cases ≡ []) → where_any ks cases ≡ []
by_there [] cases none = refl
by_there (k ∷ ks) cases none = none refl

there_all : (ks : List Column) (cases : List Case) → is_some_there ks ≡ true → where_any ks cases ≡ cases
there_all [] cases some = cc
there_all (k ∷ ks) cases some = refl

pub asked_where : (model reach present whole : Expr) (there : List ℕ → List Column) (cases : List ℕ → List Case) → ((c : List ℕ) → satisfies c present ≡ is_some_there (there c)) → ((c : List ℕ) → satisfies c whole ≡ (satisfies c reach && satisfies c present)) → NoCase model whole cases → NoCase model reach (λ c. where_any (there c) (cases c))
asked_where model reach present whole there cases some is none = record {
  none = λ c admitted reached. by_there (there c) (cases c) (λ any. none.none c admitted (is c ∙ both (satisfies c reach) (satisfies c present) reached (some c ∙ any)));
}

pub refused_where : (model reach present whole : Expr) (there : List ℕ → List Column) (cases : List ℕ → List Case) (why : CaseRefused) → ((c : List ℕ) → satisfies c present ≡ is_some_there (there c)) → ((c : List ℕ) → satisfies c whole ≡ (satisfies c reach && satisfies c present)) → RefusesCase model whole cases why → RefusesCase model reach (λ c. where_any (there c) (cases c)) why
refused_where model reach present whole there cases refused.Memory some is shows = tt
refused_where model reach present whole there cases (refused.Ill it) some is shows =
    let c = shows.config in
    let holds : (satisfies c reach && satisfies c present) ≡ true = sym (is c) ∙ shows.reached in
    record {
      config = shows.config;
      is = shows.is;
      admitted = shows.admitted;
      reached = and_first (satisfies c reach) (satisfies c present) holds;
      shown = subst (λ xs. IsOneOf xs (case_of it)) (sym (there_all (there c) (cases c) (sym (some c) ∙ and_second (satisfies c reach) (satisfies c present) holds))) shows.shown;
    }
