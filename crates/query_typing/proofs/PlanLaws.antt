-- What typing gives of a query: its columns and its plan.
use Rattle.std.proofs.Common.{◌≡◌, ◌≤◌, ℕ, List, [], None, sym, ◌∙◌, ap, arith, subst}
use Rattle.std.specs.List.{AllByRecursion}
use Rattle.condition_sat.specs.Admitted.{IsAdmitted}
use Rattle.feature_expr.specs.declared.expr.Expr.{Expr}
use Rattle.plain_relation.specs.Relations.{Relation}
use Rattle.query_meaning.specs.Bounds.{IsWithin, Size, empty_sizes, plan_size, query_size}
use Rattle.query_meaning.specs.Meaning.{meaning, plan_meaning}
use Rattle.query_meaning.specs.Names.{name_cases, too_wide}
use Rattle.query_meaning.specs.PlainTypes.{Columns, cases_of, plain_type}
use Rattle.query_meaning.specs.Plans.{IsSound, plan_of, plan_possible}
use Rattle.query_meaning.specs.PossibleColumns.{possible_columns}
use Rattle.query_meaning.specs.Sources.{catalog_source}
use Rattle.query_meaning.specs.Typing.{IsSettled, IsTyped, IsWellTyped, columns_at, columns_weight, headings}
use Rattle.query_meaning.specs.declared.plan.Plan.{Plan}
use Rattle.query_meaning.specs.declared.typed.TypedColumn.{TypedColumn}
use Rattle.query_typing.specs.Answer.{HasPlan}
use Rattle.query_typing.specs.Bounded.{HasFeatures}
use Rattle.relational_algebra.specs.Columns.{in_order_of}
use Rattle.values.specs.declared.value.Kind.{Kind}
use Rattle.vra_syntax.specs.declared.query.Query.{Query}
use Rattle.vschema.specs.declared.catalog.Table.{Table}

pub is_typed : (model : Expr) (kinds : List Kind) (tables : List Table) (query : Query) (columns : List TypedColumn) (p : Plan)
    → name_cases kinds tables query ≡ [] → too_wide tables query ≡ None → ((c : List ℕ) → IsAdmitted model c → plain_type c kinds tables query ≡ Columns (columns_at c columns)) → AllByRecursion (λ (column : TypedColumn). IsSettled model column.cond) columns
    → headings columns ≡ in_order_of (possible_columns tables query) (headings columns) → columns_weight columns ≤ (query_size tables (empty_sizes tables) query).column_weight → HasFeatures tables query columns → HasPlan tables query p
    → IsTyped model kinds tables query columns p
is_typed model kinds tables query columns p named narrow exact settled ordered weight features plan =
    let well : IsWellTyped model kinds tables query = record { named = named; typed = λ c admitted. ap cases_of (exact c admitted) } in
    record {
      well = well;
      narrow = narrow;
      columns_are = record { ordered = ordered; exact = exact; settled = settled };
      weight = weight;
      features = features.each;
      plan = plan.is model kinds well;
    }

within_same : (one other : Size) → one ≡ other → IsWithin one other
within_same one other same = subst (IsWithin one) same (record { rows = omega arith; row_weight = omega arith; column_weight = omega arith })

module _ (tables : List Table) (query : Query) (p : Plan) (shape : p ≡ plan_of tables query) where
  pub plan_is : ((c : List ℕ) (tables : List Table) (database : ℕ → Relation) (query : Query) → plan_meaning c (catalog_source tables) database (plan_of tables query) ≡ meaning c tables database query) → ((tables : List Table) (query : Query) → plan_possible (catalog_source tables) (plan_of tables query) ≡ possible_columns tables query) → ((tables : List Table) (sizes : ℕ → Size) (query : Query) → plan_size (catalog_source tables) sizes (plan_of tables query) ≡ query_size tables sizes query) → ((model : Expr) (kinds : List Kind) (tables : List Table) (query : Query) → IsWellTyped model kinds tables query → IsSound model (catalog_source tables) (plan_of tables query)) → HasPlan tables query p
  plan_is means possible bounds sound = record {
    is = λ model kinds well. record {
      shape = shape;
      sound = subst (IsSound model (catalog_source tables)) (sym shape) (sound model kinds tables query well);
      possible = ap (plan_possible (catalog_source tables)) shape ∙ possible tables query;
      means = λ c database. ap (plan_meaning c (catalog_source tables) database) shape ∙ means c tables database query;
      bounds = λ sizes. within_same _ _ (ap (plan_size (catalog_source tables) sizes) shape ∙ bounds tables sizes query);
    };
  }
