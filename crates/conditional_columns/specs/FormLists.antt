-- The columns under conditions that the forms of a query make of those of their parts, with repeats. Settled, they are
-- the form's.
use Rattle.std.specs.Prelude.{List, ◌++◌, map}
use Rattle.std.specs.List.{flat_map}
use Rattle.feature_expr.specs.Expressions.{not_of}
use Rattle.feature_expr.specs.declared.expr.Expr.{Expr}
use Rattle.vra_syntax.specs.declared.items.Item.{Item}
use Rattle.relational_algebra.specs.Items.{given}
use Rattle.query_meaning.specs.Bounds.{cond_or_true}
use Rattle.query_meaning.specs.declared.typed.TypedColumn.{TypedColumn}
use Rattle.conditional_columns.specs.ColumnLists.{given_under, under, with_name}

abbrev pub item_columns : List TypedColumn → Item → List TypedColumn
item_columns columns item = map (given_under (given item) (cond_or_true item.cond)) (with_name item.column columns)

-- what listed items keep
abbrev pub kept_list : List TypedColumn → List Item → List TypedColumn
kept_list columns items = flat_map (item_columns columns) items

-- the columns of both sides, each where some column of the other side is there
abbrev pub joined_list : Expr → Expr → List TypedColumn → List TypedColumn → List TypedColumn
joined_list any_left any_right left right = map (under any_right) left ++ map (under any_left) right

abbrev pub united_list : List TypedColumn → List TypedColumn → List TypedColumn
united_list left right = left ++ right

-- the columns of the side that the expression chooses
abbrev pub chosen_list : Expr → List TypedColumn → List TypedColumn → List TypedColumn
chosen_list expr left right = map (under expr) left ++ map (under (not_of expr)) right
