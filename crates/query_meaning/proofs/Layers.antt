-- What a fold of the definitions is at a form: the equation that opens it there.
use Rattle.std.proofs.Common.{◌≡◌, ◌+◌, ◌*◌, ℕ, Bool, true, false, not, ◌&&◌, ◌||◌, List, if◌then◌else◌}
use Rattle.feature_expr.specs.Config.{has_feature}
use Rattle.feature_expr.specs.Expressions.{weight_of, weight_step}
use Rattle.feature_expr.specs.Satisfaction.{satisfies, holds_at}
use Rattle.feature_expr.specs.declared.expr.Expr.{Expr, roll-Expr}
use Rattle.feature_expr.specs.declared.expr.Expr as e
use Rattle.feature_expr.specs.declared.expr.Expr.TheFolds.{fold-roll-Expr}
use Rattle.feature_expr.specs.declared.expr.Expr.TheOpen.{Expr-F}
use Rattle.values.specs.declared.value.Kind.{Kind}
use Rattle.plain_relation.specs.Relations.{Column, Cell}
use Rattle.vra_syntax.specs.declared.cond.Cond.{Cond, roll-Cond}
use Rattle.vra_syntax.specs.declared.cond.Cond as cond
use Rattle.vra_syntax.specs.declared.cond.Cond.TheFolds.{fold-roll-Cond}
use Rattle.vra_syntax.specs.declared.cond.Cond.TheOpen.{Cond-F}
use Rattle.vra_syntax.specs.declared.cond.Op.{Op}
use Rattle.vra_syntax.specs.declared.cond.Operand.{Operand}
use Rattle.vra_syntax.specs.declared.items.Items.{Items}
use Rattle.vra_syntax.specs.declared.query.Query.{Query, roll-Query}
use Rattle.vra_syntax.specs.declared.query.Query as query
use Rattle.vra_syntax.specs.declared.query.Query.TheFolds.{fold-roll-Query}
use Rattle.vra_syntax.specs.declared.query.Query.TheOpen.{Query-F}
use Rattle.vschema.specs.declared.catalog.Table.{Table}
use Rattle.query_meaning.specs.Cases.{Case}
use Rattle.relational_algebra.specs.Conditions.{condition_cost, cost_step, holds, holds_step}
use Rattle.query_meaning.specs.PlainTypes.{typed_part, type_step, TypedPart, asked, asked_step}
use denote.Hole.Carrier

pub sat_true : (c : List ℕ) → satisfies c e.True ≡ true
unfolding roll-Expr Carrier.roll
sat_true c = fold-roll-Expr Bool (holds_at c) Expr-F.True

pub sat_false : (c : List ℕ) → satisfies c e.False ≡ false
unfolding roll-Expr Carrier.roll
sat_false c = fold-roll-Expr Bool (holds_at c) Expr-F.False

pub sat_feature : (c : List ℕ) (i : ℕ) → satisfies c (e.Feature i) ≡ has_feature c i
unfolding roll-Expr Carrier.roll
sat_feature c i = fold-roll-Expr Bool (holds_at c) (Expr-F.Feature i)

pub sat_not : (c : List ℕ) (inner : Expr) → satisfies c (e.Not inner) ≡ not (satisfies c inner)
unfolding roll-Expr Carrier.roll
sat_not c inner = fold-roll-Expr Bool (holds_at c) (Expr-F.Not inner)

pub sat_and : (c : List ℕ) (left right : Expr) → satisfies c (e.And left right) ≡ (satisfies c left && satisfies c right)
unfolding roll-Expr Carrier.roll
sat_and c left right = fold-roll-Expr Bool (holds_at c) (Expr-F.And left right)

pub sat_or : (c : List ℕ) (left right : Expr) → satisfies c (e.Or left right) ≡ (satisfies c left || satisfies c right)
unfolding roll-Expr Carrier.roll
sat_or c left right = fold-roll-Expr Bool (holds_at c) (Expr-F.Or left right)

pub weight_true : weight_of e.True ≡ 1
unfolding roll-Expr Carrier.roll
weight_true = fold-roll-Expr ℕ weight_step Expr-F.True

pub weight_feature : (i : ℕ) → weight_of (e.Feature i) ≡ 1
unfolding roll-Expr Carrier.roll
weight_feature i = fold-roll-Expr ℕ weight_step (Expr-F.Feature i)

pub asked_cmp : (c : List ℕ) (kinds : List Kind) (columns : List Column) (left : Operand) (sign : Op) (right : Operand) → asked c kinds (cond.Cmp left sign right) columns ≡ asked_step c kinds columns (Cond-F.Cmp left sign right)
unfolding roll-Cond Carrier.roll
asked_cmp c kinds columns left sign right = fold-roll-Cond (List Case) (asked_step c kinds columns) (Cond-F.Cmp left sign right)

pub asked_true : (c : List ℕ) (kinds : List Kind) (columns : List Column) → asked c kinds cond.True columns ≡ asked_step c kinds columns Cond-F.True
unfolding roll-Cond Carrier.roll
asked_true c kinds columns = fold-roll-Cond (List Case) (asked_step c kinds columns) Cond-F.True

pub asked_false : (c : List ℕ) (kinds : List Kind) (columns : List Column) → asked c kinds cond.False columns ≡ asked_step c kinds columns Cond-F.False
unfolding roll-Cond Carrier.roll
asked_false c kinds columns = fold-roll-Cond (List Case) (asked_step c kinds columns) Cond-F.False

pub asked_choice : (c : List ℕ) (kinds : List Kind) (columns : List Column) (expr : Expr) (left right : Cond) → asked c kinds (cond.Choice expr left right) columns ≡ (if satisfies c expr then asked c kinds left columns else asked c kinds right columns)
unfolding roll-Cond Carrier.roll
asked_choice c kinds columns expr left right = fold-roll-Cond (List Case) (asked_step c kinds columns) (Cond-F.Choice expr left right)

pub holds_true : (c : List ℕ) (row : List Cell) → holds c cond.True row ≡ true
unfolding roll-Cond Carrier.roll
holds_true c row = fold-roll-Cond Bool (holds_step c row) Cond-F.True

pub holds_not : (c : List ℕ) (inner : Cond) (row : List Cell) → holds c (cond.Not inner) row ≡ not (holds c inner row)
unfolding roll-Cond Carrier.roll
holds_not c inner row = fold-roll-Cond Bool (holds_step c row) (Cond-F.Not inner)

pub holds_cmp : (c : List ℕ) (left : Operand) (sign : Op) (right : Operand) (row : List Cell) → holds c (cond.Cmp left sign right) row ≡ holds_step c row (Cond-F.Cmp left sign right)
unfolding roll-Cond Carrier.roll
holds_cmp c left sign right row = fold-roll-Cond Bool (holds_step c row) (Cond-F.Cmp left sign right)

pub cost_true : (columns : ℕ) → condition_cost cond.True columns ≡ 1
unfolding roll-Cond Carrier.roll
cost_true columns = fold-roll-Cond ℕ (cost_step columns) Cond-F.True

pub cost_cmp : (left : Operand) (sign : Op) (right : Operand) (columns : ℕ) → condition_cost (cond.Cmp left sign right) columns ≡ (columns + 8) * (columns + 8)
unfolding roll-Cond Carrier.roll
cost_cmp left sign right columns = fold-roll-Cond ℕ (cost_step columns) (Cond-F.Cmp left sign right)

module _ (c : List ℕ) (kinds : List Kind) (tables : List Table) where
  pub typed_table : (name : List ℕ) → typed_part c kinds tables (query.Table name) ≡ type_step c kinds tables (Query-F.Table name)
  unfolding roll-Query Carrier.roll
  typed_table name = fold-roll-Query TypedPart (type_step c kinds tables) (Query-F.Table name)

  pub typed_select : (items : Items) (source : Query) (condition : Cond) → typed_part c kinds tables (query.Select items source condition) ≡ type_step c kinds tables (Query-F.Select items (typed_part c kinds tables source) condition)
  unfolding roll-Query Carrier.roll
  typed_select items source condition = fold-roll-Query TypedPart (type_step c kinds tables) (Query-F.Select items source condition)

  pub typed_join : (left right : Query) (condition : Cond) → typed_part c kinds tables (query.Join left right condition) ≡ type_step c kinds tables (Query-F.Join (typed_part c kinds tables left) (typed_part c kinds tables right) condition)
  unfolding roll-Query Carrier.roll
  typed_join left right condition = fold-roll-Query TypedPart (type_step c kinds tables) (Query-F.Join left right condition)

  pub typed_union : (left right : Query) → typed_part c kinds tables (query.Union left right) ≡ type_step c kinds tables (Query-F.Union (typed_part c kinds tables left) (typed_part c kinds tables right))
  unfolding roll-Query Carrier.roll
  typed_union left right = fold-roll-Query TypedPart (type_step c kinds tables) (Query-F.Union left right)

  pub typed_except : (left right : Query) → typed_part c kinds tables (query.Except left right) ≡ type_step c kinds tables (Query-F.Except (typed_part c kinds tables left) (typed_part c kinds tables right))
  unfolding roll-Query Carrier.roll
  typed_except left right = fold-roll-Query TypedPart (type_step c kinds tables) (Query-F.Except left right)

  pub typed_choice : (expr : Expr) (left right : Query) → typed_part c kinds tables (query.Choice expr left right) ≡ type_step c kinds tables (Query-F.Choice expr (typed_part c kinds tables left) (typed_part c kinds tables right))
  unfolding roll-Query Carrier.roll
  typed_choice expr left right = fold-roll-Query TypedPart (type_step c kinds tables) (Query-F.Choice expr left right)
