-- What answers are made of: columns under conditions, and a plan.
use Rattle.std.specs.Prelude.{◌≡◌, List, [], ◌∷◌, if◌then◌else◌}
use Rattle.std.specs.List.{flat_map}
use Rattle.condition_sat.specs.Possible.{can_hold, settled}
use Rattle.feature_expr.specs.declared.expr.Expr.{Expr}
use Rattle.simple_conditions.specs.Simpler.{Simplifies}
use Rattle.query_meaning.specs.Typing.{IsPlanFor, IsWellTyped}
use Rattle.query_meaning.specs.declared.plan.Plan.{Plan}
use Rattle.query_meaning.specs.declared.typed.TypedColumn.{TypedColumn}
use Rattle.values.specs.declared.value.Kind.{Kind}
use Rattle.vra_syntax.specs.declared.query.Query.{Query}
use Rattle.vschema.specs.declared.catalog.Table.{Table}

-- a column that some admitted variant has, and without a condition where all have it
abbrev pub answer_column : Expr → TypedColumn → List TypedColumn
answer_column model column = if can_hold model column.cond then record { name = column.name; kind = column.kind; cond = settled model column.cond } ∷ [] else []

abbrev pub answer_columns : Expr → List TypedColumn → List TypedColumn
answer_columns model columns = flat_map (answer_column model) columns

-- the same column, under a condition that may stand in the other's place
pub record IsSimpler (column simpler : TypedColumn) : Type 0 where
  pub name : simpler.name ≡ column.name
  pub kind : simpler.kind ≡ column.kind
  pub cond : Simplifies column.cond simpler.cond

-- the same columns in the same order, each under such a condition
abbrev pub AreSimpler : List TypedColumn → List TypedColumn → Type 0
AreSimpler [] [] = Unit {0}
AreSimpler (column ∷ columns) (simpler ∷ more) = IsSimpler column simpler × AreSimpler columns more
AreSimpler _ _ = ⊥

-- the columns of an answer, under simplified conditions
pub record AnswersSimpler (model : Expr) (columns answer : List TypedColumn) : Type 0 where
  pub simpler : List TypedColumn
  pub are : AreSimpler columns simpler
  pub settled : answer ≡ answer_columns model simpler

-- a plan that is the query's wherever the query is well typed
pub record HasPlan (tables : List Table) (query : Query) (p : Plan) : Type 0 where
  pub is : (model : Expr) (kinds : List Kind) → IsWellTyped model kinds tables query → IsPlanFor model tables query p
