-- What a write makes of its table in one variant, and of the table's bounds. It holds no parameter any more.
use Rattle.std.specs.Prelude.{ℕ, ◌+◌, ◌*◌, not, List, [], ◌∷◌, ◌++◌, map, filter, length, Option, Some, None, unwrap_or, if◌then◌else◌}
use Rattle.std.specs.List.{flat_map}
use Rattle.feature_expr.specs.Expressions.{weight_of}
use Rattle.values.specs.declared.column_name.ColName.{ColName}
use Rattle.values.specs.declared.value.Value.{Value}
use Rattle.plain_relation.specs.Relations.{Cell, Column, Relation, relation_with, same_name}
use Rattle.vra_syntax.specs.declared.cond.Cond.{Cond}
use Rattle.vra_syntax.specs.declared.cond.Operand.{Operand}
use Rattle.vra_syntax.specs.declared.cond.Operand.TheVariants as operand
use Rattle.vra_syntax.specs.declared.write.Write.{Write}
use Rattle.vra_syntax.specs.declared.write.Write.TheVariants as write
use Rattle.vschema.specs.Variants.{bare_name}
use Rattle.vschema.specs.declared.catalog.Table.{Table}
use Rattle.query_meaning.specs.Bounds.{Size}
use Rattle.relational_algebra.specs.Conditions.{holds, condition_cost}
use Rattle.relational_algebra.specs.Operations.{cell_by}
use Rattle.query_meaning.specs.WriteTyping.{Assignment, assignments_of, assignment_of, acts}

abbrev pub literal : Operand → Option Value
literal (operand.Literal value) = Some value
literal _ = None

-- the value that the assignments give a column
abbrev pub assigned : List Assignment → ColName → Option Value
assigned [] name = None
assigned (one ∷ more) name = if same_name (bare_name one.column) name then literal one.value else assigned more name

-- a new row, cut to the columns that are there
abbrev pub new_row : List Column → List Assignment → List Cell
new_row columns given = flat_map (λ (column : Column). cell_by column.name (assigned given column.name)) columns

abbrev pub changed_cell : List Assignment → Cell → Cell
changed_cell given cell = record { name = cell.name; value = unwrap_or (assigned given cell.name) cell.value }

-- a row with the given values, if the condition is true of it
abbrev pub changed : List ℕ → Cond → List Assignment → List Cell → List Cell
changed c cond given row = if holds c cond row then map (changed_cell given) row else row

-- where it acts
abbrev pub after_acting : List ℕ → Write → Relation → Relation
after_acting c (write.Insert table names rows expr) r = relation_with r.columns (r.rows ++ map (λ values. new_row r.columns (assignments_of names values)) rows)
after_acting c (write.Delete table cond expr) r = relation_with r.columns (filter (λ row. not (holds c cond row)) r.rows)
after_acting c (write.Update table items cond expr) r = relation_with r.columns (map (changed c cond (map assignment_of items)) r.rows)

-- its table after it; where it doesn't act it changes nothing
abbrev pub after_write : List ℕ → Table → Write → Relation → Relation
after_write c table w r = if acts c table w then after_acting c w r else r

-- A DELETE or UPDATE leaves each row under what its condition leaves of the variants, and an UPDATE adds the changed one.
abbrev pub size_after : Write → Size → Size
size_after (write.Insert table names rows expr) x = record x { rows = x.rows + length rows; row_weight = x.row_weight + length rows * weight_of expr }
size_after (write.Delete table cond expr) x = record x { row_weight = x.row_weight + x.rows * (weight_of expr + condition_cost cond x.column_weight + 3) }
size_after (write.Update table items cond expr) x = record x { rows = 2 * x.rows; row_weight = 2 * x.row_weight + 2 * x.rows * (weight_of expr + condition_cost cond x.column_weight + 3) }
