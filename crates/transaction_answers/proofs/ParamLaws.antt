-- A query that is well typed, though no parameter is given a kind, has no parameter.
use Rattle.std.proofs.Common.{◌≡◌, ◌∙◌, ℕ, ◌-◌, ◌==◌, max, Bool, None, slice_get, true, false, List, [], ◌∷◌, ◌++◌, if◌then◌else◌, refl, sym, ap, subst}
use Rattle.std.specs.Option.{is_none}
use Rattle.feature_expr.specs.declared.expr.Expr.{Expr}
use Rattle.plain_relation.specs.Relations.{Column}
use Rattle.query_meaning.specs.Cases.{no_kind}
use Rattle.query_meaning.specs.Names.{Named, names_of, named_step, parameters_at}
use Rattle.query_meaning.specs.Parameters.{Occurrence, Partner, kind_at, occurrence, occurrences, occurrences_step, partner_of, without_kind}
use Rattle.query_meaning.specs.Typing.{IsWellTyped}
use Rattle.relational_algebra.specs.Columns.{merged}
use Rattle.vra_syntax.specs.Parameters.{param_in_operand, param_in_cond_step, param_in_cond, param_in_query_step, param_in_query}
use Rattle.vra_syntax.specs.declared.cond.Cond.{Cond, roll-Cond, map-Cond}
use Rattle.vra_syntax.specs.declared.cond.Cond.TheFolds.{fold-roll-Cond, ind-Cond}
use Rattle.vra_syntax.specs.declared.cond.Cond.TheOpen.{Cond-F}
use Rattle.vra_syntax.specs.declared.cond.Operand.{Operand}
use Rattle.vra_syntax.specs.declared.cond.Operand.TheVariants as operand
use Rattle.vra_syntax.specs.declared.query.Query.{Query, roll-Query, map-Query}
use Rattle.vra_syntax.specs.declared.query.Query.TheFolds.{fold-roll-Query, ind-Query}
use Rattle.vra_syntax.specs.declared.query.Query.TheOpen.{Query-F}
use Rattle.values.specs.declared.value.Kind.{Kind}
use Rattle.vschema.specs.declared.catalog.Table.{Table}

none_of : {X : Type 0} (xs ys : List X) → xs ++ ys ≡ [] → (xs ≡ []) × (ys ≡ [])
none_of [] ys is = (refl, is)
none_of (x ∷ xs) ys is = absurd (cc is)

-- where no parameter was found, the greatest number is 0
abbrev Free : List Occurrence → ℕ → Type 0
Free found greatest = found ≡ [] → greatest ≡ 0

both : (xs ys : List Occurrence) (a b : ℕ) → Free xs a → Free ys b → Free (xs ++ ys) (max a b)
both xs ys a b f g is = let parts = none_of xs ys is in rw (f parts.0, g parts.1) refl

all_three : (xs ys zs : List Occurrence) (a b c : ℕ) → Free xs a → Free ys b → Free zs c → Free ((xs ++ ys) ++ zs) (max (max a b) c)
all_three xs ys zs a b c f g h = both (xs ++ ys) zs (max a b) c (both xs ys a b f g) h

in_operand : (partner : Partner) (o : Operand) → Free (occurrence partner o) (param_in_operand o)
in_operand partner (operand.Column column) is = refl
in_operand partner (operand.Literal value) is = refl
in_operand partner (operand.Param number) is = absurd (cc is)

module _ (columns : List Column) where
  abbrev InCond : Cond → Type 0
  InCond x = Free (occurrences columns x) (param_in_cond x)

  cond_as : (node : Cond-F Cond) → Free (occurrences_step columns (map-Cond Cond (List Occurrence) (occurrences columns) node)) (param_in_cond_step (map-Cond Cond ℕ param_in_cond node)) → InCond (roll-Cond node)
  cond_as node free is = fold-roll-Cond ℕ param_in_cond_step node ∙ free (sym (fold-roll-Cond (List Occurrence) (occurrences_step columns) node) ∙ is)

  cond_step : (y : Cond-F ((x : Cond) × InCond x)) → InCond (roll-Cond (map-Cond ((x : Cond) × InCond x) Cond (λ x. x.0) y))
  cond_step (Cond-F.Cmp left op right) = cond_as (Cond-F.Cmp left op right) (both (occurrence (partner_of columns right) left) (occurrence (partner_of columns left) right) (param_in_operand left) (param_in_operand right) (in_operand (partner_of columns right) left) (in_operand (partner_of columns left) right))
  cond_step (Cond-F.Not inner) = cond_as (Cond-F.Not inner.0) inner.1
  cond_step (Cond-F.And left right) = cond_as (Cond-F.And left.0 right.0) (both (occurrences columns left.0) (occurrences columns right.0) (param_in_cond left.0) (param_in_cond right.0) left.1 right.1)
  cond_step (Cond-F.Or left right) = cond_as (Cond-F.Or left.0 right.0) (both (occurrences columns left.0) (occurrences columns right.0) (param_in_cond left.0) (param_in_cond right.0) left.1 right.1)
  cond_step (Cond-F.Choice expr left right) = cond_as (Cond-F.Choice expr left.0 right.0) (both (occurrences columns left.0) (occurrences columns right.0) (param_in_cond left.0) (param_in_cond right.0) left.1 right.1)
  cond_step Cond-F.True = cond_as Cond-F.True (λ is. refl)
  cond_step Cond-F.False = cond_as Cond-F.False (λ is. refl)

  in_cond : (x : Cond) → InCond x
  in_cond = ind-Cond InCond (λ x y is. subst (λ z. InCond (roll-Cond z)) is (cond_step y))

module _ (tables : List Table) where
  abbrev InQuery : Query → Type 0
  InQuery x = Free (names_of tables x).parameters (param_in_query x)

  query_as : (node : Query-F Query) → Free (parameters_at (map-Query Query Named (names_of tables) node)) (param_in_query_step (map-Query Query ℕ param_in_query node)) → InQuery (roll-Query node)
  query_as node free is = fold-roll-Query ℕ param_in_query_step node ∙ free (sym (ap (λ (n : Named). n.parameters) (fold-roll-Query Named (named_step tables) node)) ∙ is)

  query_step : (y : Query-F ((x : Query) × InQuery x)) → InQuery (roll-Query (map-Query ((x : Query) × InQuery x) Query (λ x. x.0) y))
  query_step (Query-F.Table name) = query_as (Query-F.Table name) (λ is. refl)
  query_step (Query-F.Select items source x) =
      let columns = (names_of tables source.0).possible in
      query_as (Query-F.Select items source.0 x) (both (names_of tables source.0).parameters (occurrences columns x) (param_in_query source.0) (param_in_cond x) source.1 (in_cond columns x))
  query_step (Query-F.Join left right x) =
      let columns = merged (names_of tables left.0).possible (names_of tables right.0).possible in
      query_as (Query-F.Join left.0 right.0 x) (all_three (names_of tables left.0).parameters (names_of tables right.0).parameters (occurrences columns x) (param_in_query left.0) (param_in_query right.0) (param_in_cond x) left.1 right.1 (in_cond columns x))
  query_step (Query-F.Union left right) = query_as (Query-F.Union left.0 right.0) (both (names_of tables left.0).parameters (names_of tables right.0).parameters (param_in_query left.0) (param_in_query right.0) left.1 right.1)
  query_step (Query-F.Except left right) = query_as (Query-F.Except left.0 right.0) (both (names_of tables left.0).parameters (names_of tables right.0).parameters (param_in_query left.0) (param_in_query right.0) left.1 right.1)
  query_step (Query-F.Alias source name) = query_as (Query-F.Alias source.0 name) source.1
  query_step (Query-F.Choice expr left right) = query_as (Query-F.Choice expr left.0 right.0) (both (names_of tables left.0).parameters (names_of tables right.0).parameters (param_in_query left.0) (param_in_query right.0) left.1 right.1)
  query_step Query-F.Empty = query_as Query-F.Empty (λ is. refl)

  in_query : (x : Query) → InQuery x
  in_query = ind-Query InQuery (λ x y is. subst (λ z. InQuery (roll-Query z)) is (query_step y))

-- without kinds each parameter is a case
abbrev no_kinds : List Kind
no_kinds = []

no_kind_at : (is_zero : Bool) (place : ℕ) → is_none (if is_zero then None else slice_get no_kinds place) ≡ true
no_kind_at true place = refl
no_kind_at false place = refl

kindless : (number : ℕ) → is_none (kind_at [] number) ≡ true
kindless number = no_kind_at (number == 0) (number - 1)

none_found : (found : List Occurrence) → without_kind [] found ≡ [] → found ≡ []
none_found [] is = refl
none_found (one ∷ more) is = absurd (lacking (is_none (kind_at [] one.number)) (kindless one.number) is)
  where
    lacking : (none : Bool) → none ≡ true → (if none then no_kind one.number ∷ [] else []) ++ without_kind [] more ≡ [] → ⊥
    lacking true here all = cc all
    lacking false here all = cc here

pub no_params : (model : Expr) (tables : List Table) (query : Query) → IsWellTyped model [] tables query → param_in_query query ≡ 0
no_params model tables query well = in_query tables query (none_found (names_of tables query).parameters (none_of (names_of tables query).unknown (without_kind [] (names_of tables query).parameters) well.named).1)
