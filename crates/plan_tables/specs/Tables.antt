-- Columns put together and the cells of rows laid in their order, in all variants at once.
use Rattle.std.specs.Prelude.{ℕ, Bool, true, false, ◌||◌, List, [], ◌∷◌, ◌++◌, fold, map, Option, Some, None, if◌then◌else◌}
use Rattle.std.specs.List.{filter_map}
use Rattle.feature_expr.specs.Expressions.{and_of, or_of}
use Rattle.feature_expr.specs.Same.{same_expr}
use Rattle.feature_expr.specs.declared.expr.Expr.{Expr, out-Expr}
use Rattle.feature_expr.specs.declared.expr.Expr.TheOpen.{Expr-F}
use Rattle.feature_expr.specs.declared.expr.Expr as e
use Rattle.values.specs.declared.value.Value.{Value}
use Rattle.plain_relation.specs.Relations.{Column, columns_of}
use Rattle.relational_algebra.specs.Columns.{among, same_column}
use Rattle.row_conditions.specs.Truths.{Slot, slots_of}
use Rattle.vtable.specs.Answers.{column_at}
use Rattle.vtable.specs.declared.table.VColumn.{VColumn}
use Rattle.vtable.specs.declared.table.VRow.{VRow}

abbrev pub heading : VColumn → Column
heading column = record { name = column.name; kind = column.kind }

-- the columns that are there in a variant
abbrev pub columns_at : List ℕ → List VColumn → List Column
columns_at c columns = columns_of (map (column_at c) columns)

abbrev pub headings : List VColumn → List Column
headings columns = map heading columns

-- whether each column stands once
abbrev pub once_each : List Column → Bool
once_each [] = true
once_each (column ∷ columns) = if among column columns then false else once_each columns

abbrev pub false_layer : Expr-F Expr → Bool
false_layer Expr-F.False = true
false_layer _ = false

-- the constant `false`
abbrev pub is_false : Expr → Bool
is_false expr = false_layer (out-Expr expr)

abbrev pub true_layer : Expr-F Expr → Bool
true_layer Expr-F.True = true
true_layer _ = false

-- the constant `true`
abbrev pub is_true : Expr → Bool
is_true expr = true_layer (out-Expr expr)

abbrev pub side_layer : Expr → Expr-F Expr → Bool
side_layer cond (Expr-F.And left right) = same_expr cond left || same_expr cond right
side_layer cond _ = false

-- whether an expression is a conjunction with the condition
abbrev pub has_side : Expr → Expr → Bool
has_side cond expr = side_layer cond (out-Expr expr)

-- whether an expression is the condition, or a conjunction with it
abbrev pub is_within : Expr → Expr → Bool
is_within cond expr = same_expr cond expr || has_side cond expr

-- a disjunction in which one condition stands once, and without its conjunctions
abbrev pub or_once : Expr → Expr → Expr
or_once left right = if is_within left right then left else (if is_within right left then right else or_of left right)

-- whether it is a conjunction that ends in this condition
abbrev pub is_last_link : Expr-F Expr → Expr → Bool
is_last_link (Expr-F.And rest last) link = same_expr last link
is_last_link _ link = false

-- a conjunction with one condition more, if that isn't all of it or its last link already
abbrev pub and_once : Expr → Expr → Expr
and_once left right = if same_expr left right || is_last_link (out-Expr left) right then left else and_of left right

-- these cells where the condition holds; none where it is nowhere
abbrev pub row_under : List (Option Value) → Expr → Option VRow
row_under cells cond = if is_false cond then None else Some (record { cells = cells; cond = cond })

-- or where the column is there, if it is the wanted one
abbrev pub with_column_cond : Column → Expr → VColumn → Expr
with_column_cond key out column = if same_column key (heading column) then or_once out column.cond else out

-- where a column of this name and kind is there
abbrev pub column_cond : Column → List VColumn → Expr
column_cond key columns = fold (with_column_cond key) e.False columns

-- the column, where one of its name and kind is there
abbrev pub settled_column : List VColumn → VColumn → VColumn
settled_column all column = record { name = column.name; kind = column.kind; cond = column_cond (heading column) all }

abbrev pub with_settled : List VColumn → List VColumn → VColumn → List VColumn
with_settled all out column = if among (heading column) (headings out) then out else out ++ settled_column all column ∷ []

-- each pair of name and kind once, where one of its columns is there
abbrev pub settled : List VColumn → List VColumn
settled all = fold (with_settled all) [] all

-- where some column is there
abbrev pub any_of : List VColumn → Expr
any_of columns = fold (λ out (column : VColumn). or_once out column.cond) e.False columns

abbrev pub column_under : Expr → VColumn → VColumn
column_under cond column = record { name = column.name; kind = column.kind; cond = and_once column.cond cond }

abbrev pub columns_under : Expr → List VColumn → List VColumn
columns_under cond columns = map (column_under cond) columns

-- the cell in the column of this name and kind
abbrev pub cell_under : List Slot → Column → Option Value
cell_under [] key = None
cell_under (slot ∷ slots) key = if same_column key (heading slot.column) then slot.cell else cell_under slots key

-- the cells in the order of other columns, none where a column isn't among theirs
abbrev pub laid_cells : List VColumn → List Slot → List (Option Value)
laid_cells to slots = map (λ (column : VColumn). cell_under slots (heading column)) to

abbrev pub row_laid : List VColumn → List VColumn → Expr → VRow → Option VRow
row_laid to columns cond row = row_under (laid_cells to (slots_of columns row.cells)) (and_once row.cond cond)

-- the rows in the order of other columns, in the variants in which a condition holds
abbrev pub rows_laid : List VColumn → List VColumn → Expr → List VRow → List VRow
rows_laid to columns cond rows = filter_map (row_laid to columns cond) rows
