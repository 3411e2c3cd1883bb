-- The operators of the algebra on plain relations, in one variant. Where `order` is given, it is the possible columns of
-- the form: the columns of the relation and the cells of its rows stand in this order, which has no meaning of its own.
use Rattle.std.specs.Prelude.{ℕ, Bool, not, ◌&&◌, List, [], ◌∷◌, ◌++◌, map, filter, Option, Some, None}
use Rattle.std.specs.List.{list_any, list_all, flat_map}
use Rattle.values.specs.declared.column_name.ColName.{ColName}
use Rattle.values.specs.declared.value.Value.{Value}
use Rattle.plain_relation.specs.Relations.{Cell, Column, Relation, relation_with, cell_of}
use Rattle.vra_syntax.specs.declared.cond.Cond.{Cond}
use Rattle.vra_syntax.specs.declared.cond.Op.TheVariants as op
use Rattle.vra_syntax.specs.declared.items.Items.{Items}
use Rattle.vra_syntax.specs.declared.items.Items.TheVariants.{All, Listed}
use Rattle.relational_algebra.specs.Columns.{in_order_of, both_sides, aliased, prefixed}
use Rattle.relational_algebra.specs.Conditions.{holds}
use Rattle.relational_algebra.specs.Items.{kept_in_order, kept_cells, renamed_cell}
use Rattle.relational_algebra.specs.Values.{compares}

abbrev pub cell_by : ColName → Option Value → List Cell
cell_by name None = []
cell_by name (Some value) = record { name = name; value = value } ∷ []

-- the row's cells in the order of the columns, one for each
abbrev pub laid : List Column → List Cell → List Cell
laid columns row = flat_map (λ (column : Column). cell_by column.name (cell_of row column.name)) columns

-- these columns and rows, or absent where there is no column
abbrev pub relation_by : List Column → List (List Cell) → Relation
relation_by columns rows = relation_with columns (map (laid columns) rows)

-- the rows of which the condition is true
abbrev pub filtered : List ℕ → Cond → Relation → Relation
filtered c cond source = relation_with source.columns (filter (holds c cond) source.rows)

-- the columns and cells that the items keep; absent where none is kept
abbrev pub projected : List Column → List ℕ → Items → Relation → Relation
projected order c All source = source
projected order c (Listed items) source =
    relation_by (kept_in_order order c (Listed items) source.columns) (map (kept_cells c (Listed items)) source.rows)

abbrev pub selected : List Column → List ℕ → Items → Cond → Relation → Relation
selected order c items cond source = projected order c items (filtered c cond source)

-- each row of the left side with each of the right
abbrev pub pairs : List (List Cell) → List (List Cell) → List (List Cell)
pairs left right = flat_map (λ row. map (λ other. row ++ other) right) left

-- the pairs of rows of which the condition is true; absent where a side is
abbrev pub joined : List Column → List ℕ → Cond → Relation → Relation → Relation
joined order c cond left right =
    relation_by (in_order_of order (both_sides left.columns right.columns)) (filter (holds c cond) (pairs left.rows right.rows))

-- the rows of both sides, which have the same columns; the other side where one is absent
abbrev pub united : List Column → Relation → Relation → Relation
united order left right = relation_by (in_order_of order (left.columns ++ right.columns)) (left.rows ++ right.rows)

abbrev pub has_cell : List Cell → Cell → Bool
has_cell row cell = compares op.Eq (Some cell.value) (cell_of row cell.name)

-- whether two rows have the same cells, in whatever order
abbrev pub same_row : List Cell → List Cell → Bool
same_row one other = list_all (has_cell other) one && list_all (has_cell one) other

-- the rows of the left side that the right one lacks; the left side where the right one is absent
abbrev pub excepted : Relation → Relation → Relation
excepted left right = relation_with left.columns (filter (λ row. not (list_any (same_row row) right.rows)) left.rows)

abbrev pub aliased_row : List ℕ → List Cell → List Cell
aliased_row alias row = map (λ (cell : Cell). renamed_cell (prefixed alias cell.name) cell) row

abbrev pub aliased_relation : List Column → List ℕ → Relation → Relation
aliased_relation order alias source =
    relation_by (in_order_of order (aliased alias source.columns)) (map (aliased_row alias) source.rows)

-- the side that the variant chooses, in the order of the possible columns of both
abbrev pub chosen : List Column → Relation → Relation
chosen order side = relation_by (in_order_of order side.columns) side.rows
